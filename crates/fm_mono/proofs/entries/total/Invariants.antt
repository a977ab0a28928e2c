use Rattle.std.proofs.Common.{◌≡◌, sum, take}
use Rattle.fm_mono.proofs.entries.total.Given as goal

abbrev pub invariant-loop-k : goal.invariant-loop-k
invariant-loop-k l = l.sum ≡ sum (take l.k l.a)
