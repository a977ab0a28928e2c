use Rattle.std.proofs.Common.{◌≡◌, cond, eqb, length}
use Rattle.fm_algebra.specs.Matrix.{listed}
use Rattle.fm_algebra.specs.Polynomials.{polynomial_zero}
use Rattle.fm_vec.specs.Components.{AreOver}
use Rattle.fm_poly.specs.Polys.{meaning}
use Rattle.fm_mat.specs.Matrices.{column_meaning}
use Rattle.fm_support.proofs.scalars.scalar_column.Given as goal

abbrev pub invariant-loop-i : goal.invariant-loop-i
invariant-loop-i l = let r = l.f.ring in record {
  over : AreOver r l.out.items;
  count : length l.out.items ≡ l.i;
  value : column_meaning r l.out.items ≡ listed l.i (λ i. cond (eqb i l.j) (meaning r l.f.terms) (polynomial_zero r.prime r.vars));
}
