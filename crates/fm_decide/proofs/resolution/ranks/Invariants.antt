use Rattle.std.proofs.Common.{◌≡◌, ◌++◌, ◌∷◌, length}
use Rattle.fm_decide.proofs.Differentials.{widths_of}
use Rattle.fm_decide.proofs.resolution.ranks.Given as goal

abbrev pub invariant-generators : goal.invariant-generators
invariant-generators l = l.ranks.items ++ widths_of l.left ≡ 1 ∷ length l.fn.x.first.matrix.columns ∷ widths_of l.fn.x.next

abbrev pub decreases-generators : goal.decreases-generators
decreases-generators l = length l.left
