use Rattle.std.proofs.Common.{◌≡◌, ap, sym, ◌∙◌, Ok, Err, subst, arith}
use Rattle.fm_algebra.specs.Polynomials.{polynomial_power}
use Rattle.fm_poly.specs.declared.ring.Ring.{Ring}
use Rattle.fm_poly.specs.Polys.{meaning}
use Rattle.fm_run.specs.Runs.{Exponent}
use Rattle.fm_plan.specs.Queries.{power_run}
use Rattle.fm_support.proofs.PowerRuns.{power_goes, power_stops, power_spends}
use Rattle.fm_support.proofs.powers.power.Goals as goal

pub returns-in-Ok-clause-follows : goal.returns-in-Ok-clause-follows
returns-in-Ok-clause-follows c = λ r units same.
    let f = c.args.f.now in
    subst (λ (s : Ring). power_run s c.args.k (meaning s f.terms) units ≡ record { end = Ok (meaning s c.in-Ok.power.terms); left = units }) same
    (power_goes f.ring c.args.k (meaning f.ring f.terms) c.in-Ok.ensures.fits units ∙ ap (λ x. record { end = Ok x; left = units }) (sym c.in-Ok.ensures.power))

pub returns-in-Ok-clause-value : goal.returns-in-Ok-clause-value
returns-in-Ok-clause-value c = λ r same.
    subst (λ (s : Ring). meaning s c.in-Ok.power.terms ≡ polynomial_power s.prime s.vars c.args.k (meaning s c.args.f.now.terms)) same c.in-Ok.ensures.power

pub returns-in-Err-Exponent-clause-follows : goal.returns-in-Err-Exponent-clause-follows
returns-in-Err-Exponent-clause-follows c = λ r units same.
    let f = c.args.f.now in
    subst (λ (s : Ring). power_run s c.args.k (meaning s f.terms) units ≡ record { end = Err Exponent; left = units }) same
    (power_stops f.ring c.args.k (meaning f.ring f.terms) (c.in-Err-Exponent.ensures.exponent (ap Err c.in-Err-Exponent.field-0-is)) units)

pub returns-in-Err-Memory-clause-follows : goal.returns-in-Err-Memory-clause-follows
returns-in-Err-Memory-clause-follows c = λ r units same. (omega arith, power_spends r c.args.k (meaning r c.args.f.now.terms) units)
