use Rattle.std.proofs.Common.{◌≡◌, cond, eqb, length}
use Rattle.fm_algebra.specs.Matrix.{listed}
use Rattle.fm_algebra.specs.Polynomials.{polynomial_one, polynomial_zero}
use Rattle.fm_vec.specs.Components.{AreOver}
use Rattle.fm_mat.specs.Matrices.{column_meaning}
use Rattle.fm_mat.proofs.units.unit_vector.Given as goal

abbrev pub invariant-loop-i : goal.invariant-loop-i
invariant-loop-i l = record {
  over : AreOver l.ring l.out.items;
  count : length l.out.items ≡ l.i;
  value : column_meaning l.ring l.out.items ≡ listed l.i (λ i. cond (eqb i l.j) (polynomial_one l.ring.prime l.ring.vars) (polynomial_zero l.ring.prime l.ring.vars));
}
