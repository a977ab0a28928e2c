use Rattle.std.proofs.Common.{◌≡◌, length}
use Rattle.std.specs.List.{list_all}
use Rattle.fm_graphs.specs.Listing.{terms_of}
use Rattle.fm_graphs.specs.Trims.{is_zero}
use Rattle.fm_mat.specs.Matrices.{AreColumns, columns_meaning}
use Rattle.fm_conditions.proofs.comparing.are_zero_columns.Given as goal

abbrev pub invariant-columns : goal.invariant-columns
invariant-columns l =
    AreColumns l.ring l.rows l.columns
    × (list_all (λ v. is_zero (terms_of l.ring v)) (columns_meaning l.ring l.columns-2) ≡ list_all (λ v. is_zero (terms_of l.ring v)) (columns_meaning l.ring l.columns))

abbrev pub decreases-columns : goal.decreases-columns
decreases-columns l = length l.columns
