use Rattle.std.proofs.Common.{◌≡◌, ◌∙◌, ap, sym, subst}
use Rattle.fm_judge.specs.Claims.{factored_part}
use Rattle.fm_poly.specs.declared.ring.Ring.{Ring}
use Rattle.fm_pres.specs.Kept.{IsValue}
use Rattle.fm_conditions.specs.Constants.{least_exponent}
use Rattle.fm_conditions.proofs.ConstantPowers.{constant_value}
use Rattle.fm_conditions.proofs.powers.factor_count.Goals as goal

pub returns-clause-value : goal.returns-clause-value
returns-clause-value c = λ m v.
    let f = c.args.f.now in
    let r = f.ring in
    let e : c.least_exponent.result ≡ least_exponent r.prime c.args.k = c.least_exponent.ensures.exact ∙ ap (λ (q : Ring). least_exponent q.prime c.args.k) c.ring.ensures in
    constant_value r f c.args.k m c.is_constant.ensures.canonical (sym c.is_constant.ensures.exact ∙ c.if-not-is_constant.false) (subst (λ j. IsValue r (factored_part r f j) m) e v)
