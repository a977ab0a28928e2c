use Rattle.std.proofs.Common.{◌≡◌, ◌++◌, length, map}
use Rattle.std.specs.List.{list_all}
use Rattle.fm_algebra.specs.PolynomialMatrices.{vector_product}
use Rattle.fm_mat.specs.Bounds.{products_fit}
use Rattle.fm_mat.specs.Matrices.{AreColumns, columns_meaning}
use Rattle.fm_mat.proofs.multiplying.products.Given as goal

abbrev pub invariant-columns : goal.invariant-columns
invariant-columns l = record {
  columns : AreColumns l.ring (length l.a) l.b;
  out : AreColumns l.ring l.rows l.out.items;
  whole : columns_meaning l.ring l.out.items ++ map (vector_product l.ring.prime l.ring.vars (record { rows = l.rows; columns = columns_meaning l.ring l.a })) (columns_meaning l.ring l.b)
      ≡ map (vector_product l.ring.prime l.ring.vars (record { rows = l.rows; columns = columns_meaning l.ring l.a })) (columns_meaning l.ring l.initial.b);
  fit : list_all (products_fit l.ring.prime l.ring.vars (columns_meaning l.ring l.a)) (columns_meaning l.ring l.b) ≡ list_all (products_fit l.ring.prime l.ring.vars (columns_meaning l.ring l.a)) (columns_meaning l.ring l.initial.b);
}

abbrev pub decreases-columns : goal.decreases-columns
decreases-columns l = length l.b
