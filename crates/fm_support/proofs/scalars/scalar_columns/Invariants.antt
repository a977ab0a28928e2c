use Rattle.std.proofs.Common.{◌≡◌, cond, eqb, length}
use Rattle.fm_algebra.specs.Matrix.{listed}
use Rattle.fm_algebra.specs.Polynomials.{polynomial_zero}
use Rattle.fm_poly.specs.Polys.{meaning}
use Rattle.fm_mat.specs.Matrices.{AreColumns, columns_meaning}
use Rattle.fm_support.proofs.scalars.scalar_columns.Given as goal

abbrev pub invariant-loop-j : goal.invariant-loop-j
invariant-loop-j l = let r = l.f.ring in record {
  out : AreColumns r l.n l.out.items;
  count : length l.out.items ≡ l.j;
  value : columns_meaning r l.out.items ≡ listed l.j (λ j. listed l.n (λ i. cond (eqb i j) (meaning r l.f.terms) (polynomial_zero r.prime r.vars)));
}
