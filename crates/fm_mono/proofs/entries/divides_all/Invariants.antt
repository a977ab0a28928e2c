use Rattle.std.proofs.Common.{ℕ, ◌<◌, ◌≤◌, ◌↔◌, get_or, IsTrue}
use Rattle.fm_mono.proofs.entries.divides_all.Given as goal

abbrev pub invariant-loop-k : goal.invariant-loop-k
invariant-loop-k l = IsTrue l.all ↔ ((j : ℕ) → j < l.k → get_or l.a j 0 ≤ get_or l.b j 0)
