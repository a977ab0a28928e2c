-- Heads of vectors of polynomials, and of their functions.
use Rattle.std.proofs.Common.{◌≡◌, ℕ, zero, suc, ◌-◌, ◌<◌, ◌≤◌, List, length, sym, ap, ◌∙◌, subst, arith, Greater}
use Rattle.std.specs.Ordering.{ordering_reverse}
use Rattle.std.proofs.Math.ListN.{get_or-eq_default}
use native.Mathlib.Nat.{zero-mod}
use native.Mathlib.Decide.{dec_lt, ℕ_discrete}
use Rattle.fm_gfp.specs.Primes.{prime_value}
use Rattle.fm_gfp.specs.declared.prime.Prime.{Prime}
use Rattle.fm_mono.specs.declared.order.Order.{Order}
use Rattle.fm_algebra.specs.Gf.{gf, gf_is_zero, same_residue}
use Rattle.fm_algebra.specs.Poly.{coeff}
use Rattle.fm_algebra.specs.Matrix.{component}
use Rattle.fm_algebra.specs.Polynomials.{Polynomial, polynomials, coefficient, polynomial_zero}
use Rattle.fm_algebra.proofs.Gf.{gf_laws}
use Rattle.fm_algebra.proofs.Poly.{coeff_fixed}
use Rattle.fm_algebra.proofs.PolyRing.{coeff_zero}
use Rattle.fm_term.specs.Places.{place_cmp}
use Rattle.fm_groebner.specs.Bases.{vector_component, IsHead}
use Rattle.fm_groebner.proofs.Setting as setting
use Rattle.fm_groebner.proofs.Monomials.{Monomial}
use Rattle.fm_groebner.proofs.Ordered.{ordered}
use Rattle.fm_groebner.proofs.PlaceOrder.{less_of_cmp, cmp_of_less, cmp_flip}
use Rattle.fm_groebner.proofs.Values.{component_from, value_is}
use Rattle.fm_groebner.proofs.TermValues.{space, vector_value, val_outside}

module _ (p : Prime) (n m : ℕ) (o : Order) where
  -- a coefficient is zero in the field where its number is
  pub number_of_zero : (c : (gf p).Carrier) → c ≡ (gf p).zero → c.number ≡ 0
  number_of_zero c e = ap (λ x. x.number) e ∙ zero-mod (prime_value p)

  pub zero_of_number : (c : (gf p).Carrier) → c.number ≡ 0 → c ≡ (gf p).zero
  zero_of_number c e = same_residue c (gf p).zero (e ∙ sym (zero-mod (prime_value p)))

  coefficient_of_zero : (a : List ℕ) → coefficient p n (polynomial_zero p n) a ≡ 0
  unfolding coefficient polynomial_zero
  coefficient_of_zero a = number_of_zero (coeff (polynomials p n).zero a) (ap (λ h. h a) (coeff_zero (gf p) (gf_laws p) (gf_is_zero p) n))

  beyond : (v : List (Polynomial p n)) (i : ℕ) → length v ≤ i → component (polynomials p n) v i ≡ polynomial_zero p n
  unfolding component polynomial_zero
  beyond v i h = get_or-eq_default v (polynomials p n).zero h

  pub component_within : (v : List (Polynomial p n)) → length v ≡ m → (i : ℕ) (a : List ℕ) → ¬ (coefficient p n (vector_component p n v i) a ≡ 0) → (0 < i) × (i ≤ m)
  component_within v l zero a nz = absurd (nz (coefficient_of_zero a))
  component_within v l (suc i) a nz = elim (dec_lt i m) [
    | yes h ↦ (omega arith, omega (arith, h))
    | no w ↦ absurd (nz (ap (λ f. coefficient p n f a) (beyond v i (far w)) ∙ coefficient_of_zero a))
  ]
    where
      far : ¬ (i < m) → length v ≤ i
      far w = omega (arith, l)

  pub exponents_fit : (f : Polynomial p n) (a : List ℕ) → ¬ (coefficient p n f a ≡ 0) → length a ≡ n
  unfolding coefficient
  exponents_fit f a nz = elim (ℕ_discrete (length a) n) [
    | yes e ↦ e
    | no w ↦ absurd (nz (number_of_zero (coeff f a) (coeff_fixed f a w)))
  ]

  -- the coefficient of x^a * e_i
  pub val_coefficient : (v : List (Polynomial p n)) (i : ℕ) (a : Monomial n) → 0 < i → i ≤ m → (vector_value p n m o v (m - i, a)).number ≡ coefficient p n (vector_component p n v i) a.exponents
  unfolding coefficient
  val_coefficient v zero a h k = absurd (omega (arith, h))
  val_coefficient v (suc i) a h k = ap (λ x. x.number) (value_is (ordered o n) (gf p) (gf_laws p) (gf_is_zero p) m v (m - suc i, a)
      ∙ ap (λ f. coeff f a.exponents) (component_from (ordered o n) (gf p) (gf_laws p) (gf_is_zero p) m i v (omega (arith, k))))

  -- a head of a vector of polynomials is one of its function
  pub head_to : (v : List (Polynomial p n)) → length v ≡ m → (i : ℕ) (a : List ℕ) → IsHead p n o v i a
      → (0 < i) × (i ≤ m) × (fits : length a ≡ n) × setting.IsHead (space p n m o) (vector_value p n m o v) (m - i, record { exponents = a; fits = fits })
  head_to v l i a hd = (pos, within, fits, ((λ e. hd.nonzero (sym (val_coefficient v i at pos within) ∙ number_of_zero (vector_value p n m o v (m - i, at)) e)), above))
    where
      bounds : (0 < i) × (i ≤ m)
      bounds = component_within v l i a hd.nonzero

      pos : 0 < i
      pos = bounds.0

      within : i ≤ m
      within = bounds.1

      fits : length a ≡ n
      fits = exponents_fit (vector_component p n v i) a hd.nonzero

      at : Monomial n
      at = record { exponents = a; fits = fits }

      level : (k : ℕ) → k < m → m - (m - k) ≡ k
      level k h = omega arith

      greater : (k : ℕ) (b : Monomial n) → k < m → (space p n m o).Less (m - i, at) (k, b) → place_cmp o (m - k) b.exponents i a ≡ Greater
      greater k b h less = cmp_flip o (m - k) i b.exponents a
          ∙ ap ordering_reverse (cmp_of_less o n m i (m - k) at b within (omega arith) (subst (λ z. (space p n m o).Less (m - i, at) (z, b)) (sym (level k h)) less))

      above : (b : ℕ × Monomial n) → (space p n m o).Less (m - i, at) b → vector_value p n m o v b ≡ (gf p).zero
      above b less = elim (dec_lt b.0 m) [
        | no w ↦ val_outside p n m o v b w
        | yes h ↦ elim (ℕ_discrete (coefficient p n (vector_component p n v (m - b.0)) b.1.exponents) 0) [
          | yes z ↦ zero_of_number (vector_value p n m o v b) (ap (λ k. (vector_value p n m o v (k, b.1)).number) (sym (level b.0 h)) ∙ val_coefficient v (m - b.0) b.1 (omega (arith, h)) (omega arith) ∙ z)
          | no nz ↦ absurd (hd.greatest (m - b.0) b.1.exponents nz (greater b.0 b.1 h less))
        ]
      ]

  -- and the other way round
  pub head_from : (v : List (Polynomial p n)) → length v ≡ m → (i : ℕ) (a : Monomial n) → 0 < i → i ≤ m → setting.IsHead (space p n m o) (vector_value p n m o v) (m - i, a) → IsHead p n o v i a.exponents
  head_from v l i a pos within hd = record {
    nonzero = λ z. hd.0 (zero_of_number (vector_value p n m o v (m - i, a)) (val_coefficient v i a pos within ∙ z));
    greatest = λ j b nz e.
        let w = component_within v l j b nz in
        let bm : Monomial n = record { exponents = b; fits = exponents_fit (vector_component p n v j) b nz } in
        nz (sym (val_coefficient v j bm w.0 w.1) ∙ number_of_zero (vector_value p n m o v (m - j, bm))
        (hd.1 (m - j, bm) (less_of_cmp o n m i j a bm within (cmp_flip o i j a.exponents b ∙ ap ordering_reverse e))));
  }

  -- the place of a head has a component
  pub head_level : (v : List (Polynomial p n)) (b : ℕ × Monomial n) → setting.IsHead (space p n m o) (vector_value p n m o v) b → b.0 < m
  head_level v b hd = elim (dec_lt b.0 m) [ yes h ↦ h | no w ↦ absurd (hd.0 (val_outside p n m o v b w)) ]
