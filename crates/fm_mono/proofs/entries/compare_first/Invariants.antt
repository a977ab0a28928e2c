use Rattle.std.proofs.Common.{ℕ, ◌*◌, ◌<◌, ◌≡◌, get_or}
use Rattle.fm_mono.proofs.entries.compare_first.Given as goal

-- the entries of the pairs before number k are equal
abbrev pub invariant-loop-k : goal.invariant-loop-k
invariant-loop-k l = (j : ℕ) → j < 2 * l.k → get_or l.a j 0 ≡ get_or l.b j 0
