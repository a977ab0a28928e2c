use Rattle.std.proofs.Common.{Vec, Global, ◌≡◌, ◌≤◌, List, length, refl, sym, ap, ◌∙◌, subst}
use Rattle.fm_mat.specs.declared.matrix.Matrix.{Matrix}
use Rattle.fm_mat.specs.Matrices.{MatrixValue}
use Rattle.fm_poly.specs.declared.ring.Ring.{Ring}
use Rattle.fm_resolve.specs.Resolutions.{ResolutionValue}
use Rattle.fm_ext.specs.Exts.{ExtValue, ring_of}
use Rattle.fm_queries.proofs.MapTold.{first_told, identity_told, lifts_told, over_told}
use Rattle.fm_queries.proofs.map.lambda_of.Goals as goal

pub identity_along-requires-clause-some : goal.identity_along-requires-clause-some
identity_along-requires-clause-some c =
    let b = c.args.source.now in
    let d = c.args.target.now in
    let x = c.resolution.result.now in
    let y = c.resolution-2.result.now in
    let X : x ≡ b.ext.resolution = c.resolution.ensures.same ∙ ap (λ (e : ExtValue). e.resolution) c.ext-from.ensures.same in
    let Y : y ≡ d.ext.resolution = c.resolution-2.ensures.same ∙ ap (λ (e : ExtValue). e.resolution) c.ext-to.ensures.same in
    subst (λ (q : Ring). 1 ≤ q.vars) (sym (ap (λ (v : ResolutionValue). v.first.matrix.ring) X)) c.requires.some

pub identity_along-requires-clause-few : goal.identity_along-requires-clause-few
identity_along-requires-clause-few c =
    let b = c.args.source.now in
    let d = c.args.target.now in
    let x = c.resolution.result.now in
    let y = c.resolution-2.result.now in
    let X : x ≡ b.ext.resolution = c.resolution.ensures.same ∙ ap (λ (e : ExtValue). e.resolution) c.ext-from.ensures.same in
    let Y : y ≡ d.ext.resolution = c.resolution-2.ensures.same ∙ ap (λ (e : ExtValue). e.resolution) c.ext-to.ensures.same in
    subst (λ (q : Ring). q.vars ≤ 8) (sym (ap (λ (v : ResolutionValue). v.first.matrix.ring) X)) c.requires.few

pub identity_along-requires-clause-ring : goal.identity_along-requires-clause-ring
identity_along-requires-clause-ring c =
    let b = c.args.source.now in
    let d = c.args.target.now in
    let x = c.resolution.result.now in
    let y = c.resolution-2.result.now in
    let X : x ≡ b.ext.resolution = c.resolution.ensures.same ∙ ap (λ (e : ExtValue). e.resolution) c.ext-from.ensures.same in
    let Y : y ≡ d.ext.resolution = c.resolution-2.ensures.same ∙ ap (λ (e : ExtValue). e.resolution) c.ext-to.ensures.same in
    ap (λ (v : ResolutionValue). v.first.matrix.ring) Y ∙ c.requires.ring ∙ sym (ap (λ (v : ResolutionValue). v.first.matrix.ring) X)

pub identity_along-requires-clause-source : goal.identity_along-requires-clause-source
identity_along-requires-clause-source c =
    let b = c.args.source.now in
    let d = c.args.target.now in
    let x = c.resolution.result.now in
    let y = c.resolution-2.result.now in
    let X : x ≡ b.ext.resolution = c.resolution.ensures.same ∙ ap (λ (e : ExtValue). e.resolution) c.ext-from.ensures.same in
    let Y : y ≡ d.ext.resolution = c.resolution-2.ensures.same ∙ ap (λ (e : ExtValue). e.resolution) c.ext-to.ensures.same in
    ap (λ (v : ResolutionValue). length v.next) X ∙ c.requires.source

pub identity_along-requires-clause-target : goal.identity_along-requires-clause-target
identity_along-requires-clause-target c =
    let b = c.args.source.now in
    let d = c.args.target.now in
    let x = c.resolution.result.now in
    let y = c.resolution-2.result.now in
    let X : x ≡ b.ext.resolution = c.resolution.ensures.same ∙ ap (λ (e : ExtValue). e.resolution) c.ext-from.ensures.same in
    let Y : y ≡ d.ext.resolution = c.resolution-2.ensures.same ∙ ap (λ (e : ExtValue). e.resolution) c.ext-to.ensures.same in
    ap (λ (v : ResolutionValue). length v.next) Y ∙ c.requires.target

pub returns-clause-follows : goal.returns-clause-follows
returns-clause-follows c =
    let b = c.args.source.now in
    let d = c.args.target.now in
    let i = c.args.degree in
    let x = c.resolution.result.now in
    let y = c.resolution-2.result.now in
    let X : x ≡ b.ext.resolution = c.resolution.ensures.same ∙ ap (λ (e : ExtValue). e.resolution) c.ext-from.ensures.same in
    let Y : y ≡ d.ext.resolution = c.resolution-2.ensures.same ∙ ap (λ (e : ExtValue). e.resolution) c.ext-to.ensures.same in
    let values : Vec Matrix Global → List MatrixValue = λ ls. ls.items in
    identity_told values (ring_of b.ext) i b.ext.resolution d.ext.resolution x y X Y refl c.identity_along.result c.args.work.now c.identity_along.new.work c.identity_along.ensures.follows

pub returns-clause-first : goal.returns-clause-first
returns-clause-first c =
    let b = c.args.source.now in
    let d = c.args.target.now in
    let i = c.args.degree in
    let x = c.resolution.result.now in
    let y = c.resolution-2.result.now in
    let X : x ≡ b.ext.resolution = c.resolution.ensures.same ∙ ap (λ (e : ExtValue). e.resolution) c.ext-from.ensures.same in
    let Y : y ≡ d.ext.resolution = c.resolution-2.ensures.same ∙ ap (λ (e : ExtValue). e.resolution) c.ext-to.ensures.same in
    let values : Vec Matrix Global → List MatrixValue = λ ls. ls.items in
    first_told values (ring_of b.ext) i b.ext.resolution d.ext.resolution x y X Y refl c.identity_along.result c.identity_along.ensures.first

pub returns-clause-rings : goal.returns-clause-rings
returns-clause-rings c =
    let b = c.args.source.now in
    let d = c.args.target.now in
    let i = c.args.degree in
    let x = c.resolution.result.now in
    let y = c.resolution-2.result.now in
    let X : x ≡ b.ext.resolution = c.resolution.ensures.same ∙ ap (λ (e : ExtValue). e.resolution) c.ext-from.ensures.same in
    let Y : y ≡ d.ext.resolution = c.resolution-2.ensures.same ∙ ap (λ (e : ExtValue). e.resolution) c.ext-to.ensures.same in
    let values : Vec Matrix Global → List MatrixValue = λ ls. ls.items in
    over_told values (ring_of b.ext) i b.ext.resolution d.ext.resolution x y X Y refl c.identity_along.result c.identity_along.ensures.rings

pub returns-clause-lifts : goal.returns-clause-lifts
returns-clause-lifts c =
    let b = c.args.source.now in
    let d = c.args.target.now in
    let i = c.args.degree in
    let x = c.resolution.result.now in
    let y = c.resolution-2.result.now in
    let X : x ≡ b.ext.resolution = c.resolution.ensures.same ∙ ap (λ (e : ExtValue). e.resolution) c.ext-from.ensures.same in
    let Y : y ≡ d.ext.resolution = c.resolution-2.ensures.same ∙ ap (λ (e : ExtValue). e.resolution) c.ext-to.ensures.same in
    let values : Vec Matrix Global → List MatrixValue = λ ls. ls.items in
    λ nested. lifts_told values (ring_of b.ext) i b.ext.resolution d.ext.resolution x y X Y refl c.identity_along.result c.identity_along.ensures.lifts nested.outer nested.inner nested.resolves_outer nested.resolves_inner nested.contained
