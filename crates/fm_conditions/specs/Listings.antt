-- The first entries of columns.
use Rattle.std.specs.Prelude.{List, [], ◌∷◌}
use Rattle.std.specs.List.{filter}
use Rattle.fm_poly.specs.declared.ring.Ring.{Ring}
use Rattle.fm_graphs.specs.Listing.{VectorOf}
use Rattle.fm_graphs.specs.Trims.{is_nonzero}
use Rattle.fm_mat.specs.Columns.{row_of}

-- those that aren't zero
abbrev pub nonzeros : (r : Ring) → List (VectorOf r) → VectorOf r
nonzeros r cs = filter (λ f. is_nonzero r (f ∷ [])) (row_of r.prime r.vars 0 cs)
