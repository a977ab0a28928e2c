use Rattle.std.proofs.Common.{◌≡◌, ◌++◌, ◌-◌, [], length, map, get_or}
use Rattle.fm_mat.specs.Columns.{AreNumbers}
use Rattle.fm_mat.proofs.picking.picked.Given as goal

abbrev pub invariant-numbers : goal.invariant-numbers
invariant-numbers l = record {
  numbers : AreNumbers (length l.columns) l.numbers;
  whole : l.out.items ++ map (λ j. get_or l.columns (j - 1) []) l.numbers ≡ map (λ j. get_or l.columns (j - 1) []) l.initial.numbers;
}

abbrev pub decreases-numbers : goal.decreases-numbers
decreases-numbers l = length l.numbers
