-- The rank of the first free module of a resolution.
use Rattle.std.proofs.Common.{◌≡◌, length}
use Rattle.std.proofs.lemmas.List.{length-map}
use Rattle.fm_limit.specs.ResolvedIdeal.{matrix_at, rank}
use Rattle.fm_poly.specs.declared.ring.Ring.{Ring}
use Rattle.fm_mat.specs.Matrices.{column_meaning}
use Rattle.fm_resolve.specs.Resolutions.{ResolutionValue}
use Rattle.fm_ext.specs.Exts.{differentials}

pub first_rank : (r : Ring) (x : ResolutionValue) → rank r.prime r.vars (differentials r x) 1 ≡ length x.first.matrix.columns
unfolding matrix_at
first_rank r x = length-map x.first.matrix.columns (column_meaning r)
