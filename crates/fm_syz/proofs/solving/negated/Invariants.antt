use Rattle.std.proofs.Common.{◌≡◌, ◌+◌, ◌++◌, length}
use Rattle.fm_groebner.specs.Graphs.{vector_negative}
use Rattle.fm_vec.specs.Components.{AreOver}
use Rattle.fm_mat.specs.Matrices.{column_meaning}
use Rattle.fm_syz.proofs.solving.negated.Given as goal

abbrev pub invariant-entries : goal.invariant-entries
invariant-entries l = record {
  over : AreOver l.fn.ring l.fs;
  out_over : AreOver l.fn.ring l.out.items;
  count : length l.out.items + length l.fs ≡ length l.initial.fs;
  whole : column_meaning l.fn.ring l.out.items ++ vector_negative l.fn.ring.prime l.fn.ring.vars (column_meaning l.fn.ring l.fs) ≡ vector_negative l.fn.ring.prime l.fn.ring.vars (column_meaning l.fn.ring l.initial.fs);
}

abbrev pub decreases-entries : goal.decreases-entries
decreases-entries l = length l.fs
