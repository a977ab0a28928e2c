use Rattle.std.proofs.Common.{◌≡◌, ◌*◌, ◌/◌, ◌%◌, cond, eqb, length}
use Rattle.fm_algebra.specs.Matrix.{entry, listed}
use Rattle.fm_algebra.specs.Polynomials.{polynomials, polynomial_zero}
use Rattle.fm_mat.specs.Matrices.{AreColumns, columns_meaning}
use Rattle.fm_support.proofs.blocks.block_columns.Given as goal

abbrev pub invariant-loop-j : goal.invariant-loop-j
invariant-loop-j l = let r = l.ring in record {
  out : AreColumns r (l.g * l.g) l.out.items;
  count : length l.out.items ≡ l.j;
  value : columns_meaning r l.out.items ≡ listed l.j (λ j. listed (l.g * l.g) (λ i. cond (eqb (i / l.g) (j / l.width))
      (entry (polynomials r.prime r.vars) (record { rows = l.g; columns = columns_meaning r l.columns }) (i % l.g) (j % l.width)) (polynomial_zero r.prime r.vars)));
}
