-- A move of a class: theta_i and its shape.
use Rattle.std.proofs.Common.{ℕ, ◌≡◌, ◌<◌, List, [], length, get_or, sym, ap, ◌∙◌, subst, arith}
use Rattle.fm_algebra.specs.Matrix.{column_matrix}
use Rattle.fm_algebra.specs.PolynomialMatrices.{HasShape, matrix_column, matrix_twist, vector_product}
use Rattle.fm_algebra.proofs.PolynomialMatrices.{act_column}
use Rattle.fm_limit.specs.Classes.{moved_once}
use Rattle.fm_limit.specs.ResolvedIdeal.{matrix_at, rank}
use Rattle.fm_limit.proofs.MatrixWords.{twist_fits, transpose_fits, shape_rows, shape_columns}
use Rattle.fm_poly.specs.declared.ring.Ring.{Ring}
use Rattle.fm_poly.specs.Polys.{PolyValue, meaning}
use Rattle.fm_mat.specs.Matrices.{MatrixValue, column_meaning, matrix_meaning}
use Rattle.fm_mat.proofs.Steps.{map_length}
use Rattle.fm_graphs.specs.Graphs.{MatrixOf}
use Rattle.fm_lift.specs.Lifts.{matrices_meaning}
use Rattle.fm_ext.specs.Exts.{ExtValue, IsExt, cocycles_matrix, differentials, ideal_of, ring_of}
use Rattle.fm_queries.specs.Duals.{dual, dual_column}
use Rattle.fm_queries.proofs.ClassTests.{first_column}

module _ (y : ExtValue) (E : IsExt y) where
  abbrev r : Ring
  r = ring_of y

  abbrev i : ℕ
  i = length y.resolution.next

  abbrev high : ℕ
  high = rank r.prime r.vars (differentials r y.resolution) i

  pub lift_long : i < length y.lift
  lift_long = let count = E.resolved.frobenius.count in let long = map_length (matrix_meaning r) y.lift in omega (arith, count, long)

  module _ (theta : MatrixValue) (value : matrix_at r.prime r.vars (matrices_meaning r y.lift) i ≡ matrix_meaning r theta) where
    shape : HasShape r.prime r.vars high high (matrix_meaning r theta)
    shape = subst (HasShape r.prime r.vars high high) value (E.resolved.frobenius.fits i (let count = E.resolved.frobenius.count in omega (arith, count)))

    pub theta_rows : theta.rows ≡ (cocycles_matrix y).rows
    theta_rows = shape_rows r.prime r.vars high high (matrix_meaning r theta) shape ∙ sym E.cocycles_rows

    pub theta_columns : length theta.columns ≡ (cocycles_matrix y).rows
    theta_columns = sym (map_length (column_meaning r) theta.columns) ∙ shape_columns r.prime r.vars high high (matrix_meaning r theta) shape ∙ sym E.cocycles_rows

    -- the image is one column, that of the move
    pub moved_value : (e : ℕ) (z : List PolyValue) → length z ≡ (cocycles_matrix y).rows → (m : MatrixValue) → matrix_meaning r m ≡ dual_column r e (matrix_meaning r theta) (column_meaning r z)
        → 0 < length m.columns → (d v : List PolyValue) → v ≡ get_or m.columns 0 d → column_meaning r v ≡ moved_once r.prime r.vars i (ideal_of r y) e (column_meaning r z)
    unfolding moved_once matrix_column column_matrix
    moved_value e z long m means some d v is =
        let T = matrix_meaning r theta in
        let Z = column_meaning r z in
        let l : length Z ≡ high = map_length (λ (f : PolyValue). meaning r f.terms) z ∙ long ∙ E.cocycles_rows in
        let dual_shape = transpose_fits r.prime r.vars high high (matrix_twist r.prime r.vars e T) (twist_fits r.prime r.vars e high high T shape) in
        sym (first_column r m (dual_column r e T Z) d v means some is) ∙ ap (λ (A : MatrixOf r). get_or A.columns 0 []) (act_column r.prime r.vars high high (dual r e T) Z dual_shape l)
        ∙ ap (λ (A : MatrixOf r). vector_product r.prime r.vars (dual r e A) Z) (sym value)
