use Rattle.std.proofs.Common.{◌≡◌, ◌++◌, length}
use Rattle.fm_vec.specs.Steps.{unplaced}
use Rattle.fm_vec.proofs.columns.without_component.Given as goal

abbrev pub invariant-terms : goal.invariant-terms
invariant-terms l = l.out.items ++ unplaced l.terms ≡ unplaced l.initial.terms

abbrev pub decreases-terms : goal.decreases-terms
decreases-terms l = length l.terms
