use Rattle.std.proofs.Common.{◌≡◌, length}
use Rattle.fm_algebra.specs.Matrix.{listed}
use Rattle.fm_mat.specs.Columns.{row_of}
use Rattle.fm_mat.specs.Matrices.{AreColumns, columns_meaning}
use Rattle.fm_mat.proofs.flipping.flipped.Given as goal

abbrev pub invariant-loop-i : goal.invariant-loop-i
invariant-loop-i l = record {
  out : AreColumns l.ring (length l.columns) l.out.items;
  count : length l.out.items ≡ l.i;
  value : columns_meaning l.ring l.out.items ≡ listed l.i (λ i. row_of l.ring.prime l.ring.vars i (columns_meaning l.ring l.columns));
}
