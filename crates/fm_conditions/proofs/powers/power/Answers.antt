use Rattle.std.proofs.Common.{◌≡◌, sym, ap, ◌∙◌, subst}
use Rattle.fm_algebra.specs.Polynomials.{polynomial_power}
use Rattle.fm_algebra.specs.PolynomialMatrices.{matrix_scalar}
use Rattle.fm_mat.specs.Matrices.{MatrixValue, matrix_meaning}
use Rattle.fm_poly.specs.Polys.{meaning}
use Rattle.fm_poly.specs.declared.ring.Ring.{Ring}
use Rattle.fm_judge.specs.Claims.{power_part}
use Rattle.fm_pres.specs.Kept.{IsValue}
use Rattle.fm_conditions.proofs.Formed.{if_ok, printed_value}
use Rattle.fm_conditions.proofs.SingleEntries.{power_entry}
use Rattle.fm_conditions.proofs.powers.power.Goals as goal

pub returns-clause-value : goal.returns-clause-value
returns-clause-value c =
    let f = c.args.f.now in
    let r = f.ring in
    let n = c.args.rows in
    let g = c.only_entry.result.now in
    let m = c.in_ok-power.power in
    let e = c.in_ok-power.ensures in
    let v = c.in_ok-product.ensures in
    let over : g.ring ≡ r = c.only_entry.ensures.ring ∙ v.value.ring in
    let is = subst (λ (q : Ring). matrix_meaning q m ≡ matrix_scalar q.prime q.vars (meaning q g.terms) n) over e.value in
    let entry = power_entry r f c.args.k c.in_ok-product.product g v.value v.columns c.only_entry.ensures.at in
    let scalar = matrix_scalar r.prime r.vars (polynomial_power r.prime r.vars c.args.k (meaning r f.terms)) n in
    if_ok c.shared.result (λ s h. subst (λ (x : MatrixValue). IsValue r (power_part r f c.args.k n) x) (sym h)
    (printed_value r scalar m (e.ring ∙ over) (is ∙ ap (λ a. matrix_scalar r.prime r.vars a n) entry))) c.shared.ensures.value
