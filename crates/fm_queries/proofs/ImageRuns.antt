-- Whether a vector lies in the image of a twisted matrix: the twist, and the test.
use Rattle.std.proofs.Common.{ℕ, ◌≡◌, ◌↔◌, Bool, IsTrue, IfOk, Result, Ok, Err, ap, ◌∙◌, subst}
use Rattle.fm_algebra.specs.PolynomialMatrices.{InImage, matrix_twist}
use Rattle.fm_poly.specs.declared.ring.Ring.{Ring}
use Rattle.fm_run.specs.declared.stop.Stop.{Stop}
use Rattle.fm_run.specs.Runs.{Follows, Spends, halt_of}
use Rattle.fm_run.proofs.Calls.{row_goes, row_stops}
use Rattle.fm_run.proofs.Ends.{bounded_value}
use Rattle.fm_run.proofs.Spending.{then_spends}
use Rattle.fm_mat.specs.Matrices.{MatrixValue, matrix_meaning}
use Rattle.fm_graphs.specs.Bounds.{twisted_matrix}
use Rattle.fm_graphs.specs.Graphs.{MatrixOf}
use Rattle.fm_graphs.specs.Listing.{VectorOf}
use Rattle.fm_graphs.specs.Trims.{spanned}
use Rattle.fm_graphs.proofs.Spending.{spanned_spends, twist_spends}
use Rattle.fm_queries.specs.Duals.{coboundary_work}

module _ (r : Ring) (e : ℕ) (A : MatrixOf r) (z : VectorOf r) where
  pub coboundary_spends : Spends (coboundary_work r e A z)
  coboundary_spends = then_spends (twisted_matrix r.prime r.vars e A) (λ D. spanned r D.columns z) (twist_spends r e A) (λ D. spanned_spends r D.columns z)

  pub power_stops : (units : ℕ) (s : Stop) → Follows {X = MatrixValue} (matrix_meaning r) (Err s) units units (twisted_matrix r.prime r.vars e A units) → Follows {X = Bool} (λ b. b) (Err s) units units (coboundary_work r e A z units)
  power_stops units s h = row_stops (twisted_matrix r.prime r.vars e A) (λ D. spanned r D.columns z) units units (matrix_meaning r) (λ (b : Bool). b) halt_of s (λ D. spanned_spends r D.columns z) h

  module _ (units : ℕ) (D : MatrixValue) (power : twisted_matrix r.prime r.vars e A units ≡ record { end = Ok (matrix_meaning r D); left = units }) where
    pub test_goes : (new : ℕ) (answer : Result Bool Stop) → Follows (λ b. b) answer units new (spanned r (matrix_meaning r D).columns z units) → Follows (λ b. b) answer units new (coboundary_work r e A z units)
    test_goes new answer h = row_goes (twisted_matrix r.prime r.vars e A) (λ D. spanned r D.columns z) units new (matrix_meaning r D) units power (twist_spends r e A) (λ (b : Bool). b) halt_of answer h

    pub power_is : matrix_twist r.prime r.vars e A ≡ matrix_meaning r D
    unfolding twisted_matrix
    power_is = bounded_value _ (matrix_twist r.prime r.vars e A) (matrix_meaning r D) units units power
