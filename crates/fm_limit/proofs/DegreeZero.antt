-- Degree 0, along any row of polynomials, whether or not it generates the ideal
use Rattle.std.proofs.Common.{ℕ, zero, suc, ◌+◌, ◌≤◌, ◌≡◌, ◌∙◌, ◌↔◌, refl, sym, ap, subst, arith, [], ◌∷◌, Some, None}
use Rattle.fm_gfp.specs.declared.prime.Prime.{Prime}
use Rattle.fm_algebra.specs.Matrix.{component}
use Rattle.fm_algebra.specs.Families.{only, Mat, mul, read, nil, unit, flip, each, vector, element}
use Rattle.fm_algebra.specs.Polynomials.{Polynomial, polynomials, polynomial_zero, frobenius_twist}
use Rattle.fm_algebra.specs.PolynomialMatrices.{matrix_unit}
use Rattle.fm_algebra.proofs.Concrete.{polynomials_laws}
use Rattle.fm_algebra.proofs.FamilyPowers.{single}
use Rattle.fm_limit.proofs.Independence.{flip_unit}
use Rattle.fm_algebra.proofs.ListImages.{through}
use Rattle.fm_limit.specs.System as system
use Rattle.fm_limit.specs.DirectSystem.{IsCoboundary, move, moved}
use Rattle.fm_limit.specs.ResolvedIdeal.{ResolvedIdeal, matrix_at}
use Rattle.fm_limit.specs.Classes.{matrices, complex_of, theta_of, degree_in, vector_in, IsClass, IsCoboundaryAfter, IsZeroClass}
use Rattle.fm_limit.specs.Verdicts.{Holds, zero_class}
use Rattle.fm_limit.proofs.Homotopy.{coboundary_first}
use Rattle.fm_limit.proofs.FactsRead.{matrices_laws}
use Rattle.fm_limit.proofs.MatrixWords.{unit_read}

module _ (p : Prime) (n : ℕ) (I : ResolvedIdeal p n) (first : matrix_at p n I.lift 0 ≡ matrix_unit p n 1) where
  theta_is : theta_of p n I.differentials I.lift zero ≡ unit (polynomials p n) 1
  unfolding matrix_at
  theta_is = ap (read (polynomials p n) 1 1) first ∙ unit_read p n 1

  -- moves change nothing
  pub moved_nothing : (s e : ℕ) (z : Mat (polynomials p n) 1 1) → moved (matrices p n) (degree_in p n 0 I) s e z ≡ z
  unfolding system.moved
  moved_nothing zero e z = refl
  moved_nothing (suc s) e z =
      let q : move (matrices p n) (degree_in p n 0 I) e z ≡ z = ap (λ t. mul (polynomials p n) (flip (polynomials p n) {m = 1} {n = 1} (each (polynomials p n) (frobenius_twist p n e) {m = 1} {n = 1} t)) z) theta_is ∙ ap (λ t. mul (polynomials p n) (flip (polynomials p n) {m = 1} {n = 1} t) z) ((matrices_laws p n).twist_unit e 1) ∙ ap (λ t. mul (polynomials p n) t z) (flip_unit (matrices_laws p n) 1) ∙ (matrices_laws p n).unit_left z in
      ap (moved (matrices p n) (degree_in p n 0 I) s (suc e)) q ∙ moved_nothing s (suc e) z

  element_is : (f : Polynomial p n) → vector_in p n 0 I (f ∷ []) ≡ element (polynomials p n) f
  unfolding component
  element_is f = single (polynomials_laws p n) (frobenius_twist p n) (vector (polynomials p n) 1 (f ∷ [])) (element (polynomials p n) f) refl

  nil_is : (f : Polynomial p n) → (element (polynomials p n) f ≡ nil (polynomials p n) 1 1) ↔ (f ≡ polynomial_zero p n)
  unfolding nil polynomial_zero
  nil_is f = (λ e. ap (λ X. X zero only zero only) e, λ e. single (polynomials_laws p n) (frobenius_twist p n) (element (polynomials p n) f) (nil (polynomials p n) 1 1) e)

  -- any number of moves makes f a coboundary exactly if it is 0
  pub first_killed : (s e : ℕ) (f : Polynomial p n) → IsCoboundaryAfter p n 0 I s e (f ∷ []) ↔ (f ≡ polynomial_zero p n)
  unfolding IsCoboundaryAfter
  first_killed s e f =
      let z = vector_in p n 0 I (f ∷ []) in
      let h = coboundary_first (matrices_laws p n) (complex_of p n I.differentials) (theta_of p n I.differentials I.lift) (e + s) z in
      let k = subst (λ x. IsCoboundaryAfter p n 0 I s e (f ∷ []) ↔ (x ≡ nil (polynomials p n) 1 1)) (element_is f) (subst (λ x. IsCoboundary (matrices p n) (degree_in p n 0 I) (e + s) x ↔ (z ≡ nil (polynomials p n) 1 1)) (sym (moved_nothing s e z)) h) in
      through k (nil_is f)

  pub first_zero : (e : ℕ) (f : Polynomial p n) → IsZeroClass p n 0 I e (f ∷ []) ↔ (f ≡ polynomial_zero p n)
  unfolding IsZeroClass IsCoboundaryAfter
  first_zero e f = (λ h. (first_killed h.0 e f).0 h.1, λ q. (zero, (first_killed zero e f).1 q))

  pub first_yes : (e : ℕ) (f : Polynomial p n) → IsClass p n 0 I e (f ∷ []) → f ≡ polynomial_zero p n → Holds p n (zero_class 0 I e (f ∷ []) (Some e))
  first_yes e f c q = (c, (zero, (let r : e + zero ≡ e = omega arith in r), ((first_killed zero e f).1 q, λ k h. (let b : zero ≤ k = omega arith in b))))

  pub first_never : (e : ℕ) (f : Polynomial p n) → IsClass p n 0 I e (f ∷ []) → ¬ (f ≡ polynomial_zero p n) → Holds p n (zero_class 0 I e (f ∷ []) None)
  first_never e f c q = (c, λ h. q ((first_zero e f).0 h))
