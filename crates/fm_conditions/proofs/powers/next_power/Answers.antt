use Rattle.std.proofs.Common.{rules, [], ◌∷◌}
use Rattle.fm_report.specs.Parts.{given}
use Rattle.fm_judge.specs.Claims.{factored_part}
use Rattle.fm_pres.proofs.Values.{times_value, times_outside}
use Rattle.fm_conditions.proofs.powers.next_power.Goals as goal

pub returns-in_err-product-clause-exponent : goal.returns-in_err-product-clause-exponent
returns-in_err-product-clause-exponent c = λ r f k v w why.
    times_outside r (factored_part r f k) (given 1 ((f ∷ []) ∷ [])) c.args.power.now c.args.factor.now v w (c.in_err-product.ensures.exponent r v.ring (search rules))

pub returns-clause-value : goal.returns-clause-value
returns-clause-value c = λ r f k v w.
    let e = c.in_ok-product.ensures in
    times_value r (factored_part r f k) (given 1 ((f ∷ []) ∷ [])) c.args.power.now c.args.factor.now c.in_ok-product.product v w e.ring e.rows e.count (e.value r v.ring) (e.fits r v.ring)
