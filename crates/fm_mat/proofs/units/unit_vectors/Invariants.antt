use Rattle.std.proofs.Common.{◌≡◌, length}
use Rattle.fm_algebra.specs.Matrix.{listed}
use Rattle.fm_groebner.specs.Graphs.{unit_vector}
use Rattle.fm_mat.specs.Matrices.{AreColumns, columns_meaning}
use Rattle.fm_mat.proofs.units.unit_vectors.Given as goal

abbrev pub invariant-loop-j : goal.invariant-loop-j
invariant-loop-j l = record {
  out : AreColumns l.ring l.n l.out.items;
  count : length l.out.items ≡ l.j;
  value : columns_meaning l.ring l.out.items ≡ listed l.j (unit_vector l.ring.prime l.ring.vars l.n);
}
