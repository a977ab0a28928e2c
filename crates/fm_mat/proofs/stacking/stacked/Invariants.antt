use Rattle.std.proofs.Common.{◌≡◌, ◌++◌, length}
use Rattle.fm_mat.specs.Columns.{each_above}
use Rattle.fm_mat.proofs.stacking.stacked.Given as goal

abbrev pub invariant-columns : goal.invariant-columns
invariant-columns l = record {
  even : length l.b ≡ length l.a;
  whole : l.out.items ++ each_above l.a l.b ≡ each_above l.initial.a l.initial.b;
}

abbrev pub decreases-columns : goal.decreases-columns
decreases-columns l = length l.a
