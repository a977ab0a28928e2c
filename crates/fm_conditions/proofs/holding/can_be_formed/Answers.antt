use Rattle.std.proofs.Common.{rules}
use Rattle.fm_conditions.proofs.Equalities.{power_formed, power_passes}
use Rattle.fm_conditions.proofs.holding.can_be_formed.Goals as goal
use Rattle.fm_conditions.proofs.holding.can_be_formed.Goals.{in-Ok, in-Err-Exponent, in-Err-Memory}

pub returns : goal.returns
returns c = λ r e.
    let f = c.args.f.now in
    elim c.match-factored.branch [
      | in-Ok w ↦ rw w.result-is (power_formed r f.ring f c.args.k w.in-Ok.field-0 e w.in-Ok.ensures.value)
      | in-Err-Exponent w ↦ rw w.result-is (power_passes r f.ring f c.args.k e (c.factored.ensures.exponent (search rules)))
      | in-Err-Memory w ↦ rw w.result-is tt
    ]
