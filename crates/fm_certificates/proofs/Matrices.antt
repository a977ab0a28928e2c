-- Matrices as parts: what they mean, and that they can be written.
use Rattle.std.proofs.Common.{ℕ, zero, suc, ◌≡◌, ◌/◌, ◌%◌, ◌*◌, eqb, true, List, [], ◌∷◌, map, length, refl, ap₂}
use Rattle.std.specs.List.{list_all}
use Rattle.fm_algebra.specs.PolynomialMatrices.{matrix_transpose, matrix_zero, matrix_column}
use Rattle.fm_limit.specs.ResolvedIdeal.{matrix_at}
use Rattle.fm_limit.specs.Facts.{unit_column, diagonal_blocks}
use Rattle.fm_poly.specs.declared.ring.Ring.{Ring}
use Rattle.fm_graphs.specs.Listing.{VectorOf}
use Rattle.fm_graphs.specs.Graphs.{MatrixOf, Graph}
use Rattle.fm_graphs.specs.Trims.{Preimage}
use Rattle.fm_graphs.specs.Within.{are_within, IsMatrixWithin}
use Rattle.fm_graphs.proofs.WithinMatrices.{zero_within, unit_within, chosen, entry_within, table_within, zeros_within, transpose_within, column_within}
use Rattle.fm_report.specs.Parts.{part_value, part_values}
use Rattle.fm_plan.specs.Results.{Resolution, differentials_of}
use Rattle.fm_plan.specs.Within.{AreMatricesWithin, ArePreimagesWithin, IsResolutionWithin}
use Rattle.fm_plan.proofs.WithinBases.{matrix_at_within}
use Rattle.fm_answers.proofs.PrintedMatrices.{matrix_means, columns_writable}
use Rattle.fm_certificates.specs.Certificates.{matrix_part, vector_part, columns_part, codifferential_part}
use Rattle.fm_standard.specs.Said.{IsWritablePart}

module _ (r : Ring) where
  -- ---- what they mean
  pub part_means : (A : MatrixOf r) → part_value r (matrix_part r A) ≡ A
  part_means A = matrix_means r A

  pub parts_mean : (As : List (MatrixOf r)) → part_values r (map (matrix_part r) As) ≡ As
  parts_mean [] = refl
  parts_mean (A ∷ As) = ap₂ (λ B Bs. B ∷ Bs) (part_means A) (parts_mean As)

  -- ---- matrices within the bound on exponents
  pub unit_column_within : (g : ℕ) → IsMatrixWithin r (unit_column r.prime r.vars g)
  unfolding unit_column
  unit_column_within g = table_within r.prime r.vars (g * g) 1 _ (λ i j. chosen r.prime r.vars (eqb (i / g) (i % g)) _ _ (unit_within r.prime r.vars) (zero_within r.prime r.vars))

  pub blocks_within : (K : MatrixOf r) → IsMatrixWithin r K → IsMatrixWithin r (diagonal_blocks r.prime r.vars K)
  unfolding diagonal_blocks
  blocks_within K w = table_within r.prime r.vars _ _ _ (λ i j.
      chosen r.prime r.vars (eqb (i / K.rows) (j / length K.columns)) _ _ (entry_within r.prime r.vars K w (i % K.rows) (j % length K.columns)) (zero_within r.prime r.vars))

  next_within : (xs : List (Preimage r)) → ArePreimagesWithin r xs → AreMatricesWithin r (map (λ (g : Graph r). g.matrix) (map (λ (x : Preimage r). x.graph) xs))
  next_within [] w = tt
  next_within (x ∷ xs) w = (w.0.graph.matrix, next_within xs w.1)

  pub differentials_within : (x : Resolution r) → IsResolutionWithin r x → AreMatricesWithin r (differentials_of r x)
  differentials_within x w = (w.first.matrix, next_within x.next w.next)

  -- ---- that they can be written
  pub matrix_writable : (A : MatrixOf r) → IsMatrixWithin r A → IsWritablePart r (matrix_part r A)
  matrix_writable A w = columns_writable r A.columns w

  pub columns_part_writable : (m : ℕ) (vs : List (VectorOf r)) → list_all (are_within r.prime r.vars) vs ≡ true → IsWritablePart r (columns_part r m vs)
  columns_part_writable m vs w = columns_writable r vs w

  pub vector_writable : (v : VectorOf r) → are_within r.prime r.vars v ≡ true → IsWritablePart r (vector_part r v)
  vector_writable v w = matrix_writable (matrix_column r.prime r.vars v) (column_within r.prime r.vars v w)

  pub codifferential_writable : (x : Resolution r) → IsResolutionWithin r x → (i : ℕ) → IsWritablePart r (codifferential_part r x i)
  codifferential_writable x w zero =
      matrix_writable (matrix_transpose r.prime r.vars (matrix_zero r.prime r.vars 0 1)) (transpose_within r.prime r.vars (matrix_zero r.prime r.vars 0 1) (zeros_within r.prime r.vars 0 1))
  codifferential_writable x w (suc i) = matrix_writable (matrix_at r.prime r.vars (differentials_of r x) i) (matrix_at_within r (differentials_of r x) (differentials_within x w) i)
