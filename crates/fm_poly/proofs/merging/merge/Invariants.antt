use Rattle.std.proofs.Common.{◌+◌, length}
use Rattle.fm_poly.proofs.MergeSteps.{Merging}
use Rattle.fm_poly.proofs.merging.merge.Given as goal

abbrev pub invariant-terms : goal.invariant-terms
invariant-terms l = Merging l.ring l.initial.f l.initial.g l.out.items l.f l.g

abbrev pub decreases-terms : goal.decreases-terms
decreases-terms l = length l.f + length l.g
