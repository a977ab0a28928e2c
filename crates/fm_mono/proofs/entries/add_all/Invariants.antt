use Rattle.std.proofs.Common.{ℕ, ◌+◌, ◌<◌, ◌≡◌, get_or, length}
use Rattle.fm_mono.proofs.entries.add_all.Given as goal

abbrev pub invariant-loop-k : goal.invariant-loop-k
invariant-loop-k l = record {
  places : length l.sums ≡ 8;
  sums : (j : ℕ) → j < l.k → get_or l.sums j 0 ≡ get_or l.a j 0 + get_or l.b j 0;
}
