-- The equation of a preimage: A * found + B * x = 0.
use Rattle.std.proofs.Common.{ℕ, ◌<◌, ◌≡◌, [], ◌++◌, length, get_or, sym, ap, ap₂, ◌∙◌, subst}
use Rattle.fm_gfp.specs.declared.prime.Prime.{Prime}
use Rattle.fm_algebra.specs.Ring.{Ring as AlgebraRing}
use Rattle.fm_algebra.specs.Families.{Mat, mul, add, nil, basis, read, vector}
use Rattle.fm_algebra.specs.Polynomials.{polynomials, frobenius_twist}
use Rattle.fm_algebra.specs.PolynomialMatrices.{PolynomialMatrix, HasShape, InKernel, matrix_beside, matrix_product, matrix_sum, matrix_zero}
use Rattle.fm_algebra.proofs.Concrete.{polynomials_laws, polynomials_frobenius}
use Rattle.fm_algebra.proofs.Images.{nil_columns}
use Rattle.fm_algebra.proofs.Tables.{read_injective, read_sum, sum_shaped, read_zero, zero_shaped}
use Rattle.fm_limit.proofs.FactsRead.{matrices_laws}
use Rattle.fm_limit.proofs.Reading.{column_read}
use Rattle.fm_limit.proofs.MatrixWords.{product_read, product_fits, shape_columns}
use Rattle.fm_poly.specs.declared.ring.Ring.{Ring}
use Rattle.fm_graphs.specs.Graphs.{MatrixOf}
use Rattle.fm_graphs.specs.Trims.{Preimage}
use Rattle.fm_graphs.proofs.Columns.{column_length, in_place}
use Rattle.fm_graphs.proofs.Joins.{in_kernel}
use Rattle.fm_graphs.proofs.Preimages.{IsPreimage}

module _ (p : Prime) (n : ℕ) (A B F X : PolynomialMatrix p n) (k : ℕ) (fits : B.rows ≡ A.rows) (a_shape : HasShape p n A.rows (length A.columns) A) (b_shape : HasShape p n A.rows (length B.columns) B)
    (f_shape : HasShape p n (length A.columns) k F) (x_shape : HasShape p n (length B.columns) k X)
    (kernel : (j : ℕ) → j < k → InKernel p n (matrix_beside p n A B) (get_or F.columns j [] ++ get_or X.columns j [])) where
  abbrev P : AlgebraRing
  P = polynomials p n

  abbrev a : ℕ
  a = length A.columns

  abbrev b : ℕ
  b = length B.columns

  abbrev m : ℕ
  m = A.rows

  column_sum : (j : ℕ) (h : j < k) → add P (mul P (read P m a A) (vector P a (get_or F.columns j []))) (mul P (read P m b B) (vector P b (get_or X.columns j []))) ≡ nil P m 1
  unfolding InKernel matrix_beside
  column_sum j h =
      let f_long = column_length p n a k F f_shape (get_or F.columns j []) (in_place [] F.columns j (subst (λ q. j < q) (sym (shape_columns p n a k F f_shape)) h)) in
      let x_long = column_length p n b k X x_shape (get_or X.columns j []) (in_place [] X.columns j (subst (λ q. j < q) (sym (shape_columns p n b k X x_shape)) h)) in
      (in_kernel p n A B fits (get_or F.columns j []) (get_or X.columns j []) f_long x_long).0 (kernel j h)

  abbrev S : Mat P m k
  S = add P (mul P (read P m a A) (read P a k F)) (mul P (read P m b B) (read P b k X))

  sum_is : S ≡ nil P m k
  sum_is = nil_columns (matrices_laws p n) S (λ j h.
      let L = matrices_laws p n in
      let e = basis P k j h in
      L.dist_right (mul P (read P m a A) (read P a k F)) (mul P (read P m b B) (read P b k X)) e
      ∙ ap₂ (add P) (L.assoc (read P m a A) (read P a k F) e ∙ ap (mul P (read P m a A)) (column_read P (frobenius_twist p n) (polynomials_laws p n) (polynomials_frobenius p n) a k F j h))
      (L.assoc (read P m b B) (read P b k X) e ∙ ap (mul P (read P m b B)) (column_read P (frobenius_twist p n) (polynomials_laws p n) (polynomials_frobenius p n) b k X j h))
      ∙ column_sum j h)

  pub equation : matrix_sum p n (matrix_product p n A F) (matrix_product p n B X) ≡ matrix_zero p n m k
  unfolding HasShape matrix_sum matrix_zero
  equation =
      let s = product_fits p n m a k A F a_shape f_shape in
      let t = product_fits p n m b k B X b_shape x_shape in
      read_injective P m k (matrix_sum p n (matrix_product p n A F) (matrix_product p n B X)) (matrix_zero p n m k) (sum_shaped P m k (matrix_product p n A F) (matrix_product p n B X) s.0 s.1) (zero_shaped P m k)
      (read_sum P m k (matrix_product p n A F) (matrix_product p n B X) s.0 s.1
      ∙ ap₂ (add P) (product_read p n m a k A F a_shape f_shape) (product_read p n m b k B X b_shape x_shape) ∙ sum_is ∙ sym (read_zero P m k))

-- PRE's matrix X
pub preimage_equation : (r : Ring) (A B : MatrixOf r) (Q : Preimage r) → B.rows ≡ A.rows → HasShape r.prime r.vars A.rows (length A.columns) A → HasShape r.prime r.vars A.rows (length B.columns) B → IsPreimage r A B Q
    → matrix_sum r.prime r.vars (matrix_product r.prime r.vars A Q.found) (matrix_product r.prime r.vars B Q.x) ≡ matrix_zero r.prime r.vars A.rows (length Q.found.columns)
preimage_equation r A B Q fits s t J = equation r.prime r.vars A B Q.found Q.x (length Q.found.columns) fits s t J.generating.found_shape J.generating.x_shape
    (λ j h. subst (λ M. InKernel r.prime r.vars M (get_or Q.found.columns j [] ++ get_or Q.x.columns j [])) J.matrix (J.generating.kernel j h))
