use Rattle.std.proofs.Common.{◌≡◌, ◌∙◌, ◌+◌, ◌-◌, List, ap, subst, arith}
use Rattle.fm_certificates.specs.Certificates.{cocycles_line, lift_claims, relations_line, resolution_claims}
use Rattle.fm_ext.specs.Exts.{cocycles_matrix, ring_of}
use Rattle.fm_lift.specs.Lifts.{AreMatricesOver, matrices_meaning}
use Rattle.fm_mat.specs.Matrices.{MatrixValue}
use Rattle.fm_poly.specs.declared.ring.Ring.{Ring}
use Rattle.fm_resolve.specs.Resolutions.{ResolutionValue, resolution_value}
use Rattle.fm_syz.specs.GeneratorValues.{GeneratorsValue, PreimageValue}
use Rattle.fm_writer.specs.Kinds.{named_line}
use Rattle.fm_writer.specs.declared.kinds.Named.TheVariants.{Morphism}
use Rattle.fm_certify.specs.Claims.{HasClaims}
use Rattle.fm_certify.proofs.SingleExts.{both_part, ext_lines, flip_part, matrix_moved, preimage_moved}
use Rattle.fm_certify.proofs.exts.push_ext.Goals as goal

pub returns : goal.returns
returns c =
    let y = c.args.ext.now in
    let r = ring_of y in
    let i = c.args.degree in
    let is = c.resolution-resolution.ensures.ext in
    let held = c.resolution-resolution.result.now in
    let same = c.resolution-resolution.ensures.same in
    let number : c.from.result + 1 - 1 ≡ i = (let e = c.from.ensures in omega (arith, e)) in
    let found = c.found-cocycles.ensures ∙ ap (λ (g : GeneratorsValue). g.graph.matrix) c.generators.ensures.same
    ∙ ap (λ (p : PreimageValue). p.generators.graph.matrix) c.cocycles-2.ensures.same in
    ext_lines y i _ _ _ _ _ _ c.push_matrix.result
    (subst (λ (x : ResolutionValue). let s = x.first.matrix.ring in HasClaims s.vars c.args.claims.now.items (resolution_claims s (resolution_value s x)) c.push_resolution.new.claims.items) same
    c.in_ok-push_resolution.ensures)
    (subst (λ (ms : List MatrixValue). (s : Ring) → AreMatricesOver s ms
    → HasClaims s.vars c.push_resolution.new.claims.items (lift_claims s 0 (matrices_meaning s ms)) c.push_series.new.claims.items) c.lift.ensures.same
    c.in_ok-push_series.ensures r is.lift)
    (preimage_moved r y.cocycles c.cocycles.result.now _ _ cocycles_line _ _ c.cocycles.ensures.same is.cocycles
    (flip_part y.resolution held i (c.from.result + 1 - 1) c.differential.result.now _ same number c.differential.ensures.same c.differential.ensures.ring c.flip-up.ensures.value)
    c.in_ok-push_preimage.ensures)
    (preimage_moved r y.relations c.relations.result.now _ _ relations_line _ _ c.relations.ensures.same is.relations
    (both_part y.resolution held i (cocycles_matrix y) c.found-cocycles.result.now _ _ same found is.cocycles c.beside-both.ensures.value c.codifferential.ensures.value)
    c.in_ok-push_preimage-2.ensures)
    (matrix_moved r y.u c.u.result.now (named_line Morphism) _ _ c.push_matrix.result c.u.ensures.same is.morphism c.push_matrix.ensures)
