use Rattle.std.proofs.Common.{◌∙◌, ap, length, refl, subst, arith}
use Rattle.fm_certificates.specs.Certificates.{exact_line, matrix_part}
use Rattle.fm_mat.specs.Matrices.{MatrixValue, matrix_meaning}
use Rattle.fm_poly.specs.declared.ring.Ring.{Ring}
use Rattle.fm_writer.specs.Claims.{IsOperandOver}
use Rattle.fm_certify.proofs.Appended.{claim_appended}
use Rattle.fm_certify.proofs.SingleLines.{exact_shown}
use Rattle.fm_certify.proofs.SingleLoops.{exacts_begun, exacts_done, exacts_more}
use Rattle.fm_certify.proofs.SingleParts.{part_told, vars_told}
use Rattle.fm_certify.proofs.resolutions.push_exacts.Goals as goal

pub next-init : goal.next-init
next-init c = (exacts_begun _ c.args.j _ _, c.requires.room)

pub returns-in_default : goal.returns-in_default
returns-in_default c = exacts_done _ c.args.j _ _ _ c.next.number _ _ c.in_default.ensures.cases c.next.invariant.0

pub next-preserved : goal.next-preserved
next-preserved c =
    let count = ap length c.in-Some.ensures.cases.0 in
    let room = c.next.invariant.1 in
    let g = c.next.graph.now in
    let x = c.in-Some.x.now in (
      exacts_more _ c.args.j _ _ _ _ c.next.number _ g c.graph-graph.result.now x _ c.in-Some.later.now c.in-Some.ensures.cases.0 refl c.graph-graph.ensures
          (λ r ring kernel.
          let x_ring = kernel.generators.x_ring ∙ ring in
          let w_ring = kernel.generators.w_ring ∙ ring in
          claim_appended r.vars _ _ _ _ c.in_ok-push.ensures.items (
            subst (λ (q : Ring). IsOperandOver q.vars c.matrix-in-next.result) (ap (λ (m : MatrixValue). m.ring) c.matrix.ensures.same ∙ ring) c.matrix-in-next.ensures.over,
            vars_told r x.x _ c.x-in-next.ensures x_ring,
            vars_told r x.w _ c.w-in-next.ensures w_ring,
          )
          (exact_shown r g x (exact_line c.next.number) _ _ _ _
          (c.matrix-in-next.ensures.value ∙ ap (λ (m : MatrixValue). matrix_part m.ring (matrix_meaning m.ring m)) c.matrix.ensures.same
          ∙ ap (λ (q : Ring). matrix_part q (matrix_meaning q g.matrix)) ring)
          c.log.ensures (part_told r x.x _ _ c.x.ensures c.x-in-next.ensures x_ring c.tell_matrix.ensures)
          (part_told r x.w _ _ c.w.ensures c.w-in-next.ensures w_ring c.tell_matrix-in-next.ensures))) c.next.invariant.0,
      omega (arith, count, room),
    )
