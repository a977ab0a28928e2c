use Rattle.fm_poly.proofs.PowerSteps.{Powers}
use Rattle.fm_poly.proofs.multiplying.power_of.Given as goal

abbrev pub invariant-loop : goal.invariant-loop
invariant-loop l = Powers l.ring l.f l.counter l.power.items
