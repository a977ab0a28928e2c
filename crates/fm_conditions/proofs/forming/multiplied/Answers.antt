use Rattle.std.proofs.Common.{rules, sym, subst}
use Rattle.fm_mat.specs.Matrices.{MatrixValue}
use Rattle.fm_report.specs.Parts.{times}
use Rattle.fm_pres.specs.Kept.{IsValue}
use Rattle.fm_pres.proofs.Values.{times_value, times_outside}
use Rattle.fm_conditions.proofs.Formed.{if_ok}
use Rattle.fm_conditions.proofs.forming.multiplied.Goals as goal

pub returns-in_err-product-clause-exponent : goal.returns-in_err-product-clause-exponent
returns-in_err-product-clause-exponent c = λ r A B v w why. times_outside r A B c.args.a.now c.args.b.now v w (c.in_err-product.ensures.exponent r v.ring (search rules))

pub returns-clause-value : goal.returns-clause-value
returns-clause-value c = λ r A B v w.
    let e = c.in_ok-product.ensures in
    if_ok c.shared.result (λ s h. subst (λ (x : MatrixValue). IsValue r (times A B) x) (sym h)
    (times_value r A B c.args.a.now c.args.b.now c.in_ok-product.product v w e.ring e.rows e.count (e.value r v.ring) (e.fits r v.ring))) c.shared.ensures.value
