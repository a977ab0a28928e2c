use Rattle.std.proofs.Common.{length}
use Rattle.fm_decide.proofs.CountsLeft.{IsCountLeft}
use Rattle.fm_decide.proofs.counting.count.Given as goal

abbrev pub invariant-queries : goal.invariant-queries
invariant-queries l = IsCountLeft l.fn.units l.fn.problem l.counts l.left

abbrev pub decreases-queries : goal.decreases-queries
decreases-queries l = length l.left
