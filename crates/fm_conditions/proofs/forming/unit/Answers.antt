use Rattle.std.proofs.Common.{sym, subst}
use Rattle.fm_algebra.specs.PolynomialMatrices.{matrix_unit}
use Rattle.fm_mat.specs.Matrices.{MatrixValue}
use Rattle.fm_judge.specs.Claims.{unit_part}
use Rattle.fm_pres.specs.Kept.{IsValue}
use Rattle.fm_conditions.proofs.Formed.{if_ok, printed_value}
use Rattle.fm_conditions.proofs.forming.unit.Goals as goal

pub returns-clause-value : goal.returns-clause-value
returns-clause-value c =
    let r = c.args.ring in
    let e = c.in_ok-unit.ensures in
    if_ok c.shared.result (λ s h. subst (λ (x : MatrixValue). IsValue r (unit_part r c.args.n) x) (sym h)
    (printed_value r (matrix_unit r.prime r.vars c.args.n) c.in_ok-unit.unit e.ring e.value)) c.shared.ensures.value
