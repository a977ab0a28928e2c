use Rattle.std.proofs.Common.{◌≡◌, ◌+◌, ◌++◌, length}
use Rattle.fm_vec.specs.Components.{AreOver}
use Rattle.fm_mat.specs.Columns.{row_of}
use Rattle.fm_mat.specs.Matrices.{AreColumns, column_meaning, columns_meaning}
use Rattle.fm_mat.proofs.flipping.row.Given as goal

abbrev pub invariant-columns : goal.invariant-columns
invariant-columns l = record {
  shape : AreColumns l.ring l.rows l.columns;
  over : AreOver l.ring l.out.items;
  count : length l.out.items + length l.columns ≡ length l.initial.columns;
  whole : column_meaning l.ring l.out.items ++ row_of l.ring.prime l.ring.vars l.i (columns_meaning l.ring l.columns) ≡ row_of l.ring.prime l.ring.vars l.i (columns_meaning l.ring l.initial.columns);
}

abbrev pub decreases-columns : goal.decreases-columns
decreases-columns l = length l.columns
