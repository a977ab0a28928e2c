use Rattle.std.proofs.Common.{◌≡◌}
use Rattle.fm_sample.specs.Samples.{monomials, past}
use Rattle.fm_sample.proofs.monomials.draw_monomials.Given as goal

abbrev pub invariant-loop : goal.invariant-loop
invariant-loop l = (l.draws.number ≡ past l.counter l.initial.draws.number) × (l.generators ≡ monomials l.counter l.initial.draws.number)
