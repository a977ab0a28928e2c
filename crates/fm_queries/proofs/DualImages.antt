-- A vector through the transpose of a twisted matrix, by the calls of its operations.
use Rattle.std.proofs.Common.{ℕ, ◌≡◌, Bool, true, false, IfOk, OnOk, List, [], ◌∷◌, length, Result, Ok, Err, sym, ap, ◌∙◌, subst, subst₂}
use Rattle.std.specs.Prelude.{◌&&◌}
use Rattle.std.specs.List.{list_all}
use Rattle.fm_algebra.specs.Matrix.{column_matrix}
use Rattle.fm_algebra.specs.PolynomialMatrices.{matrix_column, matrix_product}
use Rattle.fm_poly.specs.declared.ring.Ring.{Ring}
use Rattle.fm_poly.specs.declared.poly_error.PolyError.{PolyError}
use Rattle.fm_poly.specs.Polys.{PolyValue, meaning}
use Rattle.fm_mat.specs.Bounds.{entries_fit, products_fit}
use Rattle.fm_mat.specs.Matrices.{MatrixValue, column_meaning, columns_meaning, matrix_meaning}
use Rattle.fm_mat.proofs.Steps.{map_length}
use Rattle.fm_graphs.specs.Graphs.{MatrixOf}
use Rattle.fm_graphs.specs.Listing.{VectorOf}
use Rattle.fm_queries.specs.Duals.{dual, dual_column, dual_fits}

-- the matrix of one column
pub column_value : (r : Ring) (fs : List PolyValue) (column : MatrixValue) → column ≡ record { ring = r; rows = length fs; columns = fs ∷ [] }
    → matrix_meaning r column ≡ matrix_column r.prime r.vars (column_meaning r fs)
unfolding matrix_column column_matrix
column_value r fs column is =
    ap (matrix_meaning r) is ∙ ap (λ k. record { rows = k; columns = column_meaning r fs ∷ [] }) (sym (map_length (λ (f : PolyValue). meaning r f.terms) fs))

both : (a b v : Bool) → a ≡ true → b ≡ v → (a && b) ≡ v
both a b v h k = subst (λ a. (a && b) ≡ v) (sym h) k

module _ (r : Ring) (e : ℕ) (A : MatrixOf r) (z : VectorOf r) (flipped column : MatrixValue) (flips : matrix_meaning r flipped ≡ dual r e A) (is : matrix_meaning r column ≡ matrix_column r.prime r.vars z) where
  pub product_value : (result : Result MatrixValue PolyError) → IfOk result (λ m. matrix_meaning r m ≡ matrix_product r.prime r.vars (matrix_meaning r flipped) (matrix_meaning r column))
      → IfOk result (λ m. matrix_meaning r m ≡ dual_column r e A z)
  product_value result h = subst₂ (λ (F C : MatrixOf r). IfOk result (λ m. matrix_meaning r m ≡ matrix_product r.prime r.vars F C)) flips is h

  module _ (twists : entries_fit r.prime r.vars e A ≡ true) where
    product_fits : (v : Bool) → list_all (products_fit r.prime r.vars (columns_meaning r flipped.columns)) (columns_meaning r column.columns) ≡ v → dual_fits r e A z ≡ v
    product_fits v h = both (entries_fit r.prime r.vars e A) _ v twists (subst₂ (λ (F C : MatrixOf r). list_all (products_fit r.prime r.vars F.columns) C.columns ≡ v) flips is h)

    pub image_fits : (result : Result MatrixValue PolyError) → OnOk result (list_all (products_fit r.prime r.vars (columns_meaning r flipped.columns)) (columns_meaning r column.columns) ≡ true)
        → OnOk result (dual_fits r e A z ≡ true)
    image_fits (Ok m) h = product_fits true h
    image_fits (Err e') h = tt

    pub image_passes : list_all (products_fit r.prime r.vars (columns_meaning r flipped.columns)) (columns_meaning r column.columns) ≡ false → dual_fits r e A z ≡ false
    image_passes h = product_fits false h
