use Rattle.std.proofs.Common.{◌≡◌}
use Rattle.fm_sample.specs.Samples.{ideals, past_ideals}
use Rattle.fm_sample.proofs.ideals.draw_ideals.Given as goal

abbrev pub invariant-loop-k : goal.invariant-loop-k
invariant-loop-k l = (l.draws.number ≡ past_ideals l.k l.fn.number) × (l.ideals ≡ ideals l.k l.fn.number)
