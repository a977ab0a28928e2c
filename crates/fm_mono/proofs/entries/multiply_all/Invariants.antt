use Rattle.std.proofs.Common.{ℕ, ◌*◌, ◌<◌, ◌≤◌, ◌≡◌, get_or, length}
use Rattle.fm_mono.specs.Bounded.{exponent_bound}
use Rattle.fm_mono.proofs.entries.multiply_all.Given as goal

abbrev pub invariant-loop-k : goal.invariant-loop-k
invariant-loop-k l = record {
  places : length l.multiples ≡ 8;
  multiples : (j : ℕ) → j < l.k → get_or l.multiples j 0 ≡ l.q * get_or l.a j 0;
  within : (j : ℕ) → j < l.k → l.q * get_or l.a j 0 ≤ exponent_bound;
}
