-- Products and twists of matrices: they spend no unit, and may pass the bound on exponents.
use Rattle.std.specs.Prelude.{ℕ}
use Rattle.std.specs.List.{list_all}
use Rattle.fm_gfp.specs.declared.prime.Prime.{Prime}
use Rattle.fm_algebra.specs.PolynomialMatrices.{PolynomialMatrix, matrix_product, matrix_twist}
use Rattle.fm_mat.specs.Bounds.{products_fit, entries_fit}
use Rattle.fm_run.specs.Runs.{Work, bounded}

module _ (p : Prime) (n : ℕ) where
  -- A * B
  unfoldable pub multiplied : PolynomialMatrix p n → PolynomialMatrix p n → Work (PolynomialMatrix p n)
  multiplied A B = bounded (list_all (products_fit p n A.columns) B.columns) (matrix_product p n A B)

  -- A^[q], for q = p^e
  unfoldable pub twisted_matrix : ℕ → PolynomialMatrix p n → Work (PolynomialMatrix p n)
  twisted_matrix e A = bounded (entries_fit p n e A) (matrix_twist p n e A)
