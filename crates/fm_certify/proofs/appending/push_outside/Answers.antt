use Rattle.std.proofs.Common.{ap, subst, ◌∙◌}
use Rattle.fm_certificates.specs.Certificates.{matrix_part}
use Rattle.fm_mat.specs.Matrices.{MatrixValue, matrix_meaning}
use Rattle.fm_writer.specs.Claims.{IsOperandOver}
use Rattle.fm_writer.specs.Kinds.{excluding_line}
use Rattle.fm_certify.proofs.Appended.{claim_appended}
use Rattle.fm_certify.proofs.SingleLines.{outside_line}
use Rattle.fm_certify.proofs.appending.push_outside.Goals as goal

pub returns : goal.returns
returns c =
    let g = c.args.graph.now in
    let r = g.matrix.ring in
    claim_appended r.vars _ _ _ _ c.in_ok-push.ensures.items
    (subst (λ (m : MatrixValue). IsOperandOver m.ring.vars c.matrix-2.result) c.matrix.ensures.same c.matrix-2.ensures.over)
    (outside_line r g c.args.outside.now (excluding_line c.args.kind) _ _ _
    (c.matrix-2.ensures.value ∙ ap (λ (m : MatrixValue). matrix_part m.ring (matrix_meaning m.ring m)) c.matrix.ensures.same) c.log.ensures c.as_slice.ensures.value)
