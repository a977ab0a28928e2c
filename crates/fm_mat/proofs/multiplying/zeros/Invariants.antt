use Rattle.std.proofs.Common.{◌≡◌, length}
use Rattle.fm_vec.specs.Components.{AreOver}
use Rattle.fm_groebner.specs.Graphs.{zero_vector}
use Rattle.fm_mat.specs.Matrices.{column_meaning}
use Rattle.fm_mat.proofs.multiplying.zeros.Given as goal

abbrev pub invariant-loop-k : goal.invariant-loop-k
invariant-loop-k l = record {
  over : AreOver l.ring l.out.items;
  rows : length l.out.items ≡ l._k;
  value : column_meaning l.ring l.out.items ≡ zero_vector l.ring.prime l.ring.vars l._k;
}
