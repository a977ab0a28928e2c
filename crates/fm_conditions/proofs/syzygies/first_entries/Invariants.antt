use Rattle.std.proofs.Common.{◌≡◌, ◌++◌, length, map, take}
use Rattle.fm_mat.specs.Matrices.{AreColumns, columns_meaning}
use Rattle.fm_conditions.proofs.syzygies.first_entries.Given as goal

abbrev pub invariant-columns : goal.invariant-columns
invariant-columns l = record {
  columns : AreColumns l.fn.ring l.long l.columns;
  shape : AreColumns l.fn.ring l.count l.out.items;
  whole : columns_meaning l.fn.ring l.out.items ++ map (take l.count) (columns_meaning l.fn.ring l.columns) ≡ map (take l.count) (columns_meaning l.fn.ring l.initial.columns);
}

abbrev pub decreases-columns : goal.decreases-columns
decreases-columns l = length l.columns
