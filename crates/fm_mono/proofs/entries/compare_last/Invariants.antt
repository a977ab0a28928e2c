use Rattle.std.proofs.Common.{ℕ, ◌+◌, ◌*◌, ◌≤◌, ◌≡◌, get_or}
use Rattle.fm_mono.proofs.entries.compare_last.Given as goal

-- the entries of the last k pairs are equal, and what stands past the end
abbrev pub invariant-loop-k : goal.invariant-loop-k
invariant-loop-k l = (j : ℕ) → 8 ≤ j + 2 * l.k → get_or l.a j 0 ≡ get_or l.b j 0
