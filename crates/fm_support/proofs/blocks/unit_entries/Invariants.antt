use Rattle.std.proofs.Common.{◌≡◌, ◌/◌, ◌%◌, cond, eqb, length}
use Rattle.fm_algebra.specs.Matrix.{listed}
use Rattle.fm_algebra.specs.Polynomials.{polynomial_one, polynomial_zero}
use Rattle.fm_vec.specs.Components.{AreOver}
use Rattle.fm_mat.specs.Matrices.{column_meaning}
use Rattle.fm_support.proofs.blocks.unit_entries.Given as goal

abbrev pub invariant-loop-i : goal.invariant-loop-i
invariant-loop-i l = let r = l.fn.ring in record {
  over : AreOver r l.out.items;
  count : length l.out.items ≡ l.i;
  value : column_meaning r l.out.items ≡ listed l.i (λ i. cond (eqb (i / l.g) (i % l.g)) (polynomial_one r.prime r.vars) (polynomial_zero r.prime r.vars));
}
