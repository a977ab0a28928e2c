use Rattle.std.proofs.Common.{◌≡◌, ◌++◌, length, map}
use Rattle.fm_complete.specs.Divisions as divisions
use Rattle.fm_mat.specs.Matrices.{AreColumns, columns_meaning}
use Rattle.fm_graphs.specs.Listing.{terms_of}
use Rattle.fm_complete.specs.Standing.{AreOfShape}
use Rattle.fm_syz.proofs.column_vectors.vectors.Given as goal

abbrev pub invariant-columns : goal.invariant-columns
invariant-columns l = record {
  columns : AreColumns l.ring l.rows l.columns;
  shape : AreOfShape l.ring l.rows l.out.items;
  whole : divisions.terms_of l.out.items ++ map (terms_of l.ring) (columns_meaning l.ring l.columns) ≡ map (terms_of l.ring) (columns_meaning l.ring l.initial.columns);
}

abbrev pub decreases-columns : goal.decreases-columns
decreases-columns l = length l.columns
