-- Vectors through the transposes of twisted matrices.
use Rattle.std.specs.Prelude.{ℕ, Bool, length, ◌&&◌}
use Rattle.std.specs.List.{list_all}
use Rattle.fm_algebra.specs.PolynomialMatrices.{matrix_column, matrix_product, matrix_transpose, matrix_twist}
use Rattle.fm_ext.specs.Exts.{ExtValue}
use Rattle.fm_lift.specs.Lifts.{matrices_meaning}
use Rattle.fm_limit.specs.ResolvedIdeal.{matrix_at}
use Rattle.fm_mat.specs.Bounds.{entries_fit, products_fit}
use Rattle.fm_poly.specs.declared.ring.Ring.{Ring}
use Rattle.fm_run.specs.Runs.{Work, ◌>>=◌}
use Rattle.fm_graphs.specs.Bounds.{twisted_matrix}
use Rattle.fm_graphs.specs.Graphs.{MatrixOf}
use Rattle.fm_graphs.specs.Listing.{VectorOf}
use Rattle.fm_graphs.specs.Trims.{spanned}

module _ (r : Ring) (e : ℕ) (A : MatrixOf r) where
  -- the transpose of A^[q], for q = p^e
  abbrev pub dual : MatrixOf r
  dual = matrix_transpose r.prime r.vars (matrix_twist r.prime r.vars e A)

  module _ (z : VectorOf r) where
    -- the column of its product with z
    abbrev pub dual_column : MatrixOf r
    dual_column = matrix_product r.prime r.vars dual (matrix_column r.prime r.vars z)

    -- no exponent of a twist or of a product of entries passes the bound
    abbrev pub dual_fits : Bool
    dual_fits = entries_fit r.prime r.vars e A && list_all (products_fit r.prime r.vars dual.columns) (matrix_column r.prime r.vars z).columns

-- a move of (e, z) passes no bound: neither the twist of theta_i nor the products of its entries with those of z do
abbrev pub move_fits : (r : Ring) → ExtValue → ℕ → VectorOf r → Bool
move_fits r y e z = dual_fits r e (matrix_at r.prime r.vars (matrices_meaning r y.lift) (length y.resolution.next)) z

-- whether z lies in the image of A^[q], for q = p^e
abbrev pub coboundary_work : (r : Ring) → ℕ → MatrixOf r → VectorOf r → Work Bool
coboundary_work r e A z = twisted_matrix r.prime r.vars e A >>= λ D. spanned r D.columns z
