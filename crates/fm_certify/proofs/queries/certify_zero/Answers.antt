use Rattle.std.proofs.Common.{◌≡◌, IfOk, length, sym, ◌∙◌, subst}
use Rattle.std.specs.Prelude.{string_bytes}
use Rattle.std.proofs.lemmas.Result.{IfOk-weaker}
use Rattle.fm_poly.specs.declared.ring.Ring.{Ring}
use Rattle.fm_queries.specs.Bases.{stable_graph}
use Rattle.fm_queries.proofs.StableGraphs.{stable_ring}
use Rattle.fm_syz.specs.GraphValues.{GraphValue}
use Rattle.fm_syz.specs.Insides.{HasColumns}
use Rattle.fm_writer.specs.Kinds.{excluding_line, named_line}
use Rattle.fm_writer.specs.declared.kinds.Excluding.TheVariants as excluding
use Rattle.fm_writer.specs.declared.kinds.Named.TheVariants as named
use Rattle.fm_certify.proofs.Appended.{claims_then}
use Rattle.fm_certify.proofs.ChainedCertificates.{certificate_of, claims_over, inside_over, names_counted}
use Rattle.fm_certify.proofs.queries.certify_zero.Goals as goal

pub push_inside-requires : goal.push_inside-requires
push_inside-requires c =
    let b = c.args.found.now.base in
    let whole = c.args.found.now.whole in
    let ring = stable_ring b c.stable_kernel-stable.ensures.base ∙ c.requires.ring in
    subst (λ (g : GraphValue). HasColumns g.matrix.ring (length g.matrix.columns) whole) (sym c.stable_kernel-stable.ensures.same)
    (subst (λ (r : Ring). HasColumns r (length (stable_graph b).matrix.columns) whole) (sym ring) c.requires.columns)

pub certificate-requires : goal.certificate-requires
certificate-requires c =
    let q = c.args.problem.now in
    let b = c.args.found.now.base in
    let ring = stable_ring b c.stable_kernel-stable.ensures.base ∙ c.requires.ring in
    let inside = inside_over q.ring (stable_graph b) c.stable_kernel-stable.result.now c.args.found.now.whole (named_line named.Whole) (excluding_line excluding.Proper) _ _
    c.stable_kernel-stable.ensures.same ring c.in_ok-push_inside.ensures in
    claims_over q.ring.vars _ _ _ _ c.new-claims.ensures.items c.deref.ensures.value (claims_then q.ring.vars _ _ _ _ _ c.in_ok-push_base_block.ensures inside) _
    (names_counted string_bytes _ _ _ c.as_slice.ensures c.requires.problem.bounded.named)

pub returns : goal.returns
returns c fs =
    let q = c.args.problem.now in
    let b = c.args.found.now.base in
    let ring = stable_ring b c.stable_kernel-stable.ensures.base ∙ c.requires.ring in
    let inside = inside_over q.ring (stable_graph b) c.stable_kernel-stable.result.now c.args.found.now.whole (named_line named.Whole) (excluding_line excluding.Proper) _ _
    c.stable_kernel-stable.ensures.same ring c.in_ok-push_inside.ensures in
    IfOk-weaker c.certificate.result _ _
    (λ text h. certificate_of q.ring.vars _ _ _ _ c.new-claims.ensures.items c.deref.ensures.value (claims_then q.ring.vars _ _ _ _ _ c.in_ok-push_base_block.ensures inside) _ _ text.items
    c.as_slice.ensures h) c.certificate.ensures
