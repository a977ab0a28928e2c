use Rattle.std.proofs.Common.{◌≡◌, length}
use lib.Pointwise.{pointwise}
use Rattle.fm_mat.specs.Matrices.{AreColumns, columns_meaning}
use Rattle.fm_parts.specs.Values.{same_vector}
use Rattle.fm_conditions.proofs.comparing.same_columns.Given as goal

abbrev pub invariant-columns : goal.invariant-columns
invariant-columns l =
    AreColumns l.ring l.rows l.cs × AreColumns l.ring l.rows l.ds
    × (pointwise (same_vector l.ring) (columns_meaning l.ring l.cs-2) (columns_meaning l.ring l.ds-2) ≡ pointwise (same_vector l.ring) (columns_meaning l.ring l.cs) (columns_meaning l.ring l.ds))

abbrev pub decreases-columns : goal.decreases-columns
decreases-columns l = length l.cs
