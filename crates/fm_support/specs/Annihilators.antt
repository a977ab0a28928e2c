-- The work of the task `annihilator`.
use Rattle.std.specs.Prelude.{◌↔◌}
use Rattle.fm_algebra.specs.Polynomials.{Polynomial}
use Rattle.fm_algebra.specs.PolynomialMatrices.{matrix_scalar}
use Rattle.fm_limit.specs.ResolvedIdeal.{InIdeal}
use Rattle.fm_mat.specs.Matrices.{matrix_meaning}
use Rattle.fm_syz.specs.GeneratorValues.{PreimageValue}
use Rattle.fm_graphs.specs.Graphs.{MatrixOf}
use Rattle.fm_graphs.specs.Trims.{Preimage, preimage_run}
use Rattle.fm_limit.specs.Facts.{ColumnsInImage, unit_column, diagonal_blocks, first_entries}
use Rattle.fm_poly.specs.declared.ring.Ring.{Ring}
use Rattle.fm_run.specs.Runs.{Work}

-- all a that send the unit matrix, as one column, into the image of the blocks of K
abbrev pub annihilator_work : (r : Ring) → MatrixOf r → Work (Preimage r)
annihilator_work r K = preimage_run r (unit_column r.prime r.vars K.rows) (diagonal_blocks r.prime r.vars K)

-- the entries of the row generate all a with a times the unit matrix in im K
abbrev pub Annihilates : (r : Ring) → MatrixOf r → PreimageValue → Type 0
Annihilates r K P = (a : Polynomial r.prime r.vars) → InIdeal r.prime r.vars (first_entries r.prime r.vars (matrix_meaning r P.generators.graph.matrix)) a
    ↔ ColumnsInImage r.prime r.vars K (matrix_scalar r.prime r.vars a K.rows)
