use Rattle.std.proofs.Common.{ℕ, ◌<◌, ◌≤◌, get_or}
use Rattle.fm_mono.specs.Bounded.{exponent_bound}
use Rattle.fm_mono.proofs.entries.all_within.Given as goal

abbrev pub invariant-loop-k : goal.invariant-loop-k
invariant-loop-k l = (j : ℕ) → j < l.k → get_or l.a j 0 ≤ exponent_bound
