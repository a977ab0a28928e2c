use Rattle.std.proofs.Common.{◌≡◌, ◌+◌, ◌++◌, length}
use Rattle.fm_vec.specs.Components.{AreOver}
use Rattle.fm_poly.specs.Polys.{meaning}
use Rattle.fm_mat.specs.Matrices.{column_meaning}
use Rattle.fm_mat.specs.Acting.{with_product, entries_fit_with}
use Rattle.fm_mat.proofs.multiplying.plus_product.Given as goal

abbrev pub invariant-entries : goal.invariant-entries
invariant-entries l = record {
  s_over : AreOver l.ring l.s;
  c_over : AreOver l.ring l.c;
  out_over : AreOver l.ring l.out.items;
  rows : length l.c ≡ length l.s;
  count : length l.out.items + length l.s ≡ length l.initial.s;
  whole : column_meaning l.ring l.out.items ++ with_product l.ring.prime l.ring.vars (column_meaning l.ring l.s) (column_meaning l.ring l.c) (meaning l.ring l.g.terms)
      ≡ with_product l.ring.prime l.ring.vars (column_meaning l.ring l.initial.s) (column_meaning l.ring l.initial.c) (meaning l.ring l.g.terms);
  fit : entries_fit_with l.ring.prime l.ring.vars (column_meaning l.ring l.c) (meaning l.ring l.g.terms) ≡ entries_fit_with l.ring.prime l.ring.vars (column_meaning l.ring l.initial.c) (meaning l.ring l.g.terms);
}

abbrev pub decreases-entries : goal.decreases-entries
decreases-entries l = length l.s
