use Rattle.std.proofs.Common.{rules, ◌≡◌, ◌+◌, suc, [], ◌∷◌, length, refl, sym, ap, ◌∙◌, subst, arith}
use Rattle.fm_algebra.specs.PolynomialMatrices.{matrix_unit}
use Rattle.fm_mat.specs.Matrices.{MatrixValue, matrix_meaning}
use Rattle.fm_poly.specs.declared.ring.Ring.{Ring}
use Rattle.fm_report.specs.Parts.{given}
use Rattle.fm_judge.specs.Claims.{factored_part}
use Rattle.fm_pres.specs.Kept.{IsValue}
use Rattle.fm_pres.proofs.Values.{given_value}
use Rattle.fm_conditions.proofs.Formed.{printed_value, factor_passes}
use Rattle.fm_conditions.proofs.powers.multiplied.Goals as goal

pub loop-count-init : goal.loop-count-init
loop-count-init c =
    let r = c.args.f.now.ring in
    let m = c.in_ok-power.power in
    let e = c.in_ok-power.ensures in
    record {
      few = omega arith;
      ring = e.ring ∙ c.ring.ensures;
      rows = e.rows;
      columns = e.count;
      value = printed_value r (matrix_unit r.prime r.vars 1) m (e.ring ∙ c.ring.ensures) (subst (λ (q : Ring). matrix_meaning q m ≡ matrix_unit q.prime q.vars 1) c.ring.ensures e.value);
    }

pub returns-in_err-power-2-clause-exponent : goal.returns-in_err-power-2-clause-exponent
returns-in_err-power-2-clause-exponent c = λ why.
    let f = c.args.f.now in
    let r = f.ring in
    let below = c.loop-count-test.true in
    let factor = subst (λ (x : MatrixValue). IsValue r (given 1 ((f ∷ []) ∷ [])) x) (sym c.in_ok-factor.ensures) (given_value r (record { ring = r; rows = 1; columns = (f ∷ []) ∷ [] }) refl) in
    factor_passes r f (suc c.loop-count.count) c.args.k (omega (arith, below)) (c.in_err-power-2.ensures.exponent r f c.loop-count.count c.loop-count.invariant.value factor (search rules))

pub loop-count-preserved : goal.loop-count-preserved
loop-count-preserved c =
    let f = c.args.f.now in
    let r = f.ring in
    let below = c.loop-count-test.true in
    let e = c.in_ok-power-2.ensures in
    let v = c.loop-count.invariant in
    let m = c.in_ok-power-2.power in
    let next : suc c.loop-count.count ≡ c.loop-count.count + 1 = omega arith in
    let factor = subst (λ (x : MatrixValue). IsValue r (given 1 ((f ∷ []) ∷ [])) x) (sym c.in_ok-factor.ensures) (given_value r (record { ring = r; rows = 1; columns = (f ∷ []) ∷ [] }) refl) in
    record {
      few = omega (arith, below);
      ring = e.ring ∙ v.ring;
      rows = e.rows ∙ v.rows;
      columns = e.columns ∙ ap (λ (x : MatrixValue). length x.columns) c.in_ok-factor.ensures;
      value = subst (λ j. IsValue r (factored_part r f j) m) next (e.value r f c.loop-count.count v.value factor);
    }
