use Rattle.std.proofs.Common.{◌≡◌, length}
use Rattle.fm_vec.specs.Components.{AreOver}
use Rattle.fm_groebner.specs.Graphs.{zero_vector}
use Rattle.fm_mat.specs.Bounds.{products_fit}
use Rattle.fm_mat.specs.Matrices.{AreColumns, column_meaning, columns_meaning}
use Rattle.fm_mat.specs.Acting.{acted}
use Rattle.fm_mat.proofs.multiplying.act.Given as goal

abbrev pub invariant-columns : goal.invariant-columns
invariant-columns l = record {
  columns : AreColumns l.ring l.rows l.a;
  w_over : AreOver l.ring l.w;
  sum_over : AreOver l.ring l.sum.items;
  sum_rows : length l.sum.items ≡ l.rows;
  inner : length l.w ≡ length l.a;
  whole : acted l.ring.prime l.ring.vars (column_meaning l.ring l.sum.items) (columns_meaning l.ring l.a) (column_meaning l.ring l.w)
      ≡ acted l.ring.prime l.ring.vars (zero_vector l.ring.prime l.ring.vars l.rows) (columns_meaning l.ring l.initial.a) (column_meaning l.ring l.initial.w);
  fit : products_fit l.ring.prime l.ring.vars (columns_meaning l.ring l.a) (column_meaning l.ring l.w) ≡ products_fit l.ring.prime l.ring.vars (columns_meaning l.ring l.initial.a) (column_meaning l.ring l.initial.w);
}

abbrev pub decreases-columns : goal.decreases-columns
decreases-columns l = length l.a
