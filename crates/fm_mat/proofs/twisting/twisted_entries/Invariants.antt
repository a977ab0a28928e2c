use Rattle.std.proofs.Common.{◌≡◌, ◌+◌, ◌++◌, length, map}
use Rattle.std.specs.List.{list_all}
use Rattle.fm_algebra.specs.Polynomials.{frobenius_twist}
use Rattle.fm_vec.specs.Components.{AreOver}
use Rattle.fm_mat.specs.Bounds.{twist_fits}
use Rattle.fm_mat.specs.Matrices.{column_meaning}
use Rattle.fm_mat.proofs.twisting.twisted_entries.Given as goal

abbrev pub invariant-entries : goal.invariant-entries
invariant-entries l = record {
  over : AreOver l.ring l.fs;
  out_over : AreOver l.ring l.out.items;
  count : length l.out.items + length l.fs ≡ length l.initial.fs;
  whole : column_meaning l.ring l.out.items ++ map (frobenius_twist l.ring.prime l.ring.vars l.e) (column_meaning l.ring l.fs) ≡ map (frobenius_twist l.ring.prime l.ring.vars l.e) (column_meaning l.ring l.initial.fs);
  fit : list_all (twist_fits l.ring.prime l.ring.vars l.e) (column_meaning l.ring l.fs) ≡ list_all (twist_fits l.ring.prime l.ring.vars l.e) (column_meaning l.ring l.initial.fs);
}

abbrev pub decreases-entries : goal.decreases-entries
decreases-entries l = length l.fs
