use Rattle.std.proofs.Common.{◌≡◌, ◌≤◌, ◌+◌, ◌++◌, length}
use Rattle.fm_mat.specs.Matrices.{AreColumns, column_meaning, columns_meaning}
use Rattle.fm_vec.specs.Components.{AreOver}
use Rattle.fm_conditions.specs.Listings.{nonzeros}
use Rattle.fm_conditions.proofs.listing.nonzero_firsts.Given as goal

abbrev pub invariant-columns : goal.invariant-columns
invariant-columns l = record {
  columns : AreColumns l.ring l.rows l.columns;
  over : AreOver l.ring l.out.items;
  few : length l.out.items + length l.columns ≤ length l.initial.columns;
  whole : column_meaning l.ring l.out.items ++ nonzeros l.ring (columns_meaning l.ring l.columns) ≡ nonzeros l.ring (columns_meaning l.ring l.initial.columns);
}

abbrev pub decreases-columns : goal.decreases-columns
decreases-columns l = length l.columns
