use Rattle.std.proofs.Common.{◌≡◌, length, get_or, ap, ◌∙◌}
use Rattle.fm_resolve.specs.Resolutions.{ResolutionValue}
use Rattle.fm_ext.specs.Exts as exts
use Rattle.fm_ext.proofs.Differentials.{read_of, ring_of}
use Rattle.fm_queries.proofs.Moves.{lift_long}
use Rattle.fm_queries.proofs.moving.theta.Goals as goal

pub returns-clause-ring : goal.returns-clause-ring
returns-clause-ring c =
    let y = c.args.ext.now in
    let m = c.index-lift-degree.result in
    let degree : length c.next-degree.result.now ≡ length y.resolution.next = ap length (c.next-degree.ensures.same ∙ ap (λ (x : ResolutionValue). x.next) c.resolution.ensures.same) in
    let at : m ≡ get_or y.lift (length y.resolution.next) m = c.index-lift-degree.is ∙ ap (λ ms. get_or ms (length c.next-degree.result.now) m) c.lift-lift.ensures.same ∙ ap (λ k. get_or y.lift k m) degree in
    ring_of (exts.ring_of y) y.lift (length y.resolution.next) m (lift_long y c.lift-lift.ensures.ext) at c.lift-lift.ensures.ext.lift

pub returns-clause-value : goal.returns-clause-value
returns-clause-value c =
    let y = c.args.ext.now in
    let m = c.index-lift-degree.result in
    let degree : length c.next-degree.result.now ≡ length y.resolution.next = ap length (c.next-degree.ensures.same ∙ ap (λ (x : ResolutionValue). x.next) c.resolution.ensures.same) in
    let at : m ≡ get_or y.lift (length y.resolution.next) m = c.index-lift-degree.is ∙ ap (λ ms. get_or ms (length c.next-degree.result.now) m) c.lift-lift.ensures.same ∙ ap (λ k. get_or y.lift k m) degree in
    read_of (exts.ring_of y) y.lift (length y.resolution.next) m (lift_long y c.lift-lift.ensures.ext) at
