use Rattle.std.proofs.Common.{ℕ, ◌-◌, ◌<◌, ◌≡◌, get_or, length}
use Rattle.fm_mono.proofs.entries.subtract_all.Given as goal

abbrev pub invariant-loop-k : goal.invariant-loop-k
invariant-loop-k l = record {
  places : length l.differences ≡ 8;
  entries : (j : ℕ) → j < l.k → get_or l.differences j 0 ≡ get_or l.a j 0 - get_or l.b j 0;
}
