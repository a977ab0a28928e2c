use Rattle.std.proofs.Common.{min, ◌+◌, ◌^◌, ◌≡◌}
use Rattle.fm_mono.specs.Bounded.{exponent_bound}
use Rattle.fm_mono.proofs.entries.capped_power.Given as goal

abbrev pub invariant-loop-k : goal.invariant-loop-k
invariant-loop-k l = l.power ≡ min (l.p ^ l._k) (exponent_bound + 1)
