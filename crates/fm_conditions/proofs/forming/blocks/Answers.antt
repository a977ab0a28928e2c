use Rattle.std.proofs.Common.{◌≡◌, sym, ap, ◌∙◌, subst}
use Rattle.fm_limit.specs.Facts.{diagonal_blocks}
use Rattle.fm_mat.specs.Matrices.{MatrixValue, matrix_meaning}
use Rattle.fm_poly.specs.declared.ring.Ring.{Ring}
use Rattle.fm_report.specs.Parts.{part_value}
use Rattle.fm_judge.specs.Claims.{blocks_part}
use Rattle.fm_pres.specs.Kept.{IsValue}
use Rattle.fm_conditions.proofs.Formed.{if_ok, printed_value}
use Rattle.fm_conditions.proofs.forming.blocks.Goals as goal

pub returns-clause-value : goal.returns-clause-value
returns-clause-value c = λ r K v.
    let k = c.args.k.now in
    let m = c.in_ok-blocks.blocks in
    let e = c.in_ok-blocks.ensures in
    let over = subst (λ (q : Ring). matrix_meaning q m ≡ diagonal_blocks q.prime q.vars (matrix_meaning q k)) v.ring e.value in
    if_ok c.shared.result (λ s h. subst (λ (x : MatrixValue). IsValue r (blocks_part r K) x) (sym h)
    (printed_value r (diagonal_blocks r.prime r.vars (part_value r K)) m (e.ring ∙ v.ring) (over ∙ ap (diagonal_blocks r.prime r.vars) v.meaning))) c.shared.ensures.value
