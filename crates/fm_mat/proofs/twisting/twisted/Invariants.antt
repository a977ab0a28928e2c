use Rattle.std.proofs.Common.{◌≡◌, ◌++◌, length, map}
use Rattle.std.specs.List.{list_all}
use Rattle.fm_algebra.specs.Polynomials.{frobenius_twist}
use Rattle.fm_mat.specs.Bounds.{twist_fits}
use Rattle.fm_mat.specs.Matrices.{AreColumns, columns_meaning}
use Rattle.fm_mat.proofs.twisting.twisted.Given as goal

abbrev pub invariant-columns : goal.invariant-columns
invariant-columns l = record {
  shape : AreColumns l.ring l.rows l.columns;
  out : AreColumns l.ring l.rows l.out.items;
  whole : columns_meaning l.ring l.out.items ++ map (map (frobenius_twist l.ring.prime l.ring.vars l.e)) (columns_meaning l.ring l.columns) ≡ map (map (frobenius_twist l.ring.prime l.ring.vars l.e)) (columns_meaning l.ring l.initial.columns);
  fit : list_all (λ c. list_all (twist_fits l.ring.prime l.ring.vars l.e) c) (columns_meaning l.ring l.columns) ≡ list_all (λ c. list_all (twist_fits l.ring.prime l.ring.vars l.e) c) (columns_meaning l.ring l.initial.columns);
}

abbrev pub decreases-columns : goal.decreases-columns
decreases-columns l = length l.columns
