-- The coefficients of polynomials over GF(p), in the words that contracts cite
use Rattle.std.proofs.Common.{◌≡◌, ◌<◌, ℕ, ◌+◌, ◌-◌, ◌*◌, ◌%◌, List, length, replicate, ◌⊎◌, inl, inr, refl, ap, sym, ◌∙◌, mod-eq_of_lt, mul-one, mul-zero}
use Rattle.std.proofs.Math.Nat.{zero-mod, add-mod-mod}
use Rattle.std.proofs.lemmas.Nat.{mul-mod_first}
use native.Mathlib.Decide.{ℕ_discrete}
use Rattle.fm_gfp.specs.Primes.{prime_value}
use Rattle.fm_gfp.specs.declared.prime.Prime.{Prime}
use Rattle.fm_gfp.proofs.Residues.{prime_above_one}
use Rattle.fm_algebra.specs.Splits.{over_splits}
use Rattle.fm_algebra.specs.Series.{unit}
use Rattle.fm_algebra.specs.Gf.{gf, gf_is_zero, prime_positive, residue, same_residue}
use Rattle.fm_algebra.specs.Poly.{Among, apart, coeff, polynomial, same_tuple}
use Rattle.fm_algebra.specs.PolyRing.{support}
use Rattle.fm_algebra.specs.Polynomials.{Polynomial, polynomials, coefficient, polynomial_zero, polynomial_one, polynomial_sum, polynomial_difference, polynomial_product, polynomial_negative, polynomial_multiple, polynomial_term}
use Rattle.fm_algebra.proofs.Algebra.{add_neg, add_cancel, mul_zero}
use Rattle.fm_algebra.proofs.Gf.{gf_laws, gf_field, number_splits}
use Rattle.fm_algebra.proofs.Poly.{support_covers, coeff_fixed, same_at_tuples, at_tuple, restricted}
use Rattle.fm_algebra.proofs.PolyRing.{coeff_zero, coeff_add, coeff_mul, coeff_neg, coeff_multiple, coeff_one, multiple_mul, unit_at_zeros, unit_elsewhere}
use Rattle.fm_algebra.proofs.TuplePlaces.{length_zeros}
use Rattle.fm_algebra.proofs.Monomial.{coeff_monomial_at, single_same, single_other}
use Rattle.fm_algebra.proofs.Domain.{domain}
use Rattle.fm_algebra.proofs.Lex.{lex_order}
use Rattle.fm_algebra.proofs.Concrete.{polynomials_laws}

module _ (p : Prime) (n : ℕ) where
  -- ---- a polynomial is its coefficients
  pub coefficient_below : (f : Polynomial p n) (a : List ℕ) → coefficient p n f a < prime_value p
  unfolding coefficient
  coefficient_below f a = (coeff f a).below

  pub coefficient_other_length : (f : Polynomial p n) (a : List ℕ) → ¬ (length a ≡ n) → coefficient p n f a ≡ 0
  unfolding coefficient
  coefficient_other_length f a w = ap (λ c. c.number) (coeff_fixed f a w) ∙ zero-mod (prime_value p)

  pub same_coefficients : (f g : Polynomial p n) → ((a : List ℕ) → length a ≡ n → coefficient p n f a ≡ coefficient p n g a) → f ≡ g
  unfolding coefficient
  same_coefficients f g h = same_at_tuples (gf p) (gf_is_zero p) n f g (λ a l. same_residue _ _ (h a l))

  pub finitely_many : (f : Polynomial p n) → (ks : List (List ℕ)) × ((a : List ℕ) → ¬ (coefficient p n f a ≡ 0) → Among a ks)
  unfolding coefficient
  finitely_many f = (
    support f,
    λ a w. elim (ℕ_discrete (length a) n) [
      | yes l ↦ elim (support_covers f a l) [ inl z ↦ absurd (w (ap (λ c. c.number) z ∙ zero-mod (prime_value p))) | inr v ↦ v ]
      | no v ↦ absurd (w (coefficient_other_length f a v))
    ],
  )

  pub any_coefficients : (h : List ℕ → ℕ) (ks : List (List ℕ)) → ((a : List ℕ) → length a ≡ n → h a < prime_value p) → ((a : List ℕ) → length a ≡ n → ¬ (h a ≡ 0) → Among a ks)
      → (f : Polynomial p n) × ((a : List ℕ) → length a ≡ n → coefficient p n f a ≡ h a)
  unfolding coefficient
  any_coefficients h ks below listed = (
    polynomial (gf p) (gf_is_zero p) n (λ a. residue (prime_value p) (prime_positive p) (h a)) ks,
    λ a l. ap (λ c. c.number) (at_tuple (gf p) (gf_is_zero p) n (λ a. residue (prime_value p) (prime_positive p) (h a)) ks (λ b m. elim (ℕ_discrete (h b) 0) [
      | yes z ↦ inl (ap (residue (prime_value p) (prime_positive p)) z)
      | no w ↦ inr (listed b m w)
    ]) a l) ∙ mod-eq_of_lt (below a l),
  )

  -- ---- the coefficients of each operation
  pub coefficient_zero : (a : List ℕ) → coefficient p n (polynomial_zero p n) a ≡ 0
  unfolding coefficient polynomial_zero
  coefficient_zero a = ap (λ h. (h a).number) (coeff_zero (gf p) (gf_laws p) (gf_is_zero p) n) ∙ zero-mod (prime_value p)

  pub coefficient_one : coefficient p n (polynomial_one p n) (replicate n 0) ≡ 1
  unfolding coefficient polynomial_one
  coefficient_one =
      ap (λ c. c.number) (coeff_one (gf p) (gf_laws p) (gf_is_zero p) n (replicate n 0)
      ∙ restricted (gf p) (gf_is_zero p) n (unit (gf p)) (replicate n 0) (ℕ_discrete (length (replicate {A = ℕ} n 0)) n) (length_zeros n)
      ∙ unit_at_zeros (gf_laws p) n n) ∙ mod-eq_of_lt (prime_above_one p)

  pub coefficient_one_elsewhere : (a : List ℕ) → ¬ (a ≡ replicate n 0) → coefficient p n (polynomial_one p n) a ≡ 0
  unfolding coefficient polynomial_one
  coefficient_one_elsewhere a w = elim (ℕ_discrete (length a) n) [
    | yes l ↦ ap (λ c. c.number) (coeff_one (gf p) (gf_laws p) (gf_is_zero p) n a
        ∙ restricted (gf p) (gf_is_zero p) n (unit (gf p)) a (ℕ_discrete (length a) n) l
        ∙ unit_elsewhere (gf_laws p) n n a l w) ∙ zero-mod (prime_value p)
    | no v ↦ coefficient_other_length (polynomials p n).one a v
  ]

  pub coefficient_sum : (f g : Polynomial p n) (a : List ℕ) → coefficient p n (polynomial_sum p n f g) a ≡ (coefficient p n f a + coefficient p n g a) % prime_value p
  unfolding coefficient polynomial_sum
  coefficient_sum f g a = ap (λ h. (h a).number) (coeff_add (gf p) (gf_laws p) (gf_is_zero p) n f g)

  pub coefficient_negative : (f : Polynomial p n) (a : List ℕ) → coefficient p n (polynomial_negative p n f) a ≡ (prime_value p - coefficient p n f a) % prime_value p
  unfolding coefficient polynomial_negative
  coefficient_negative f a = ap (λ h. (h a).number) (coeff_neg (gf p) (gf_laws p) (gf_is_zero p) n f)

  pub coefficient_multiple : (c : ℕ) (f : Polynomial p n) (a : List ℕ) → coefficient p n (polynomial_multiple p n c f) a ≡ (c * coefficient p n f a) % prime_value p
  unfolding coefficient polynomial_multiple
  coefficient_multiple c f a =
      ap (λ h. (h a).number) (coeff_multiple (gf p) (gf_laws p) (gf_is_zero p) n (residue (prime_value p) (prime_positive p) c) f)
      ∙ mul-mod_first c (coeff f a).number (prime_value p)

  pub coefficient_product : (f g : Polynomial p n) (a : List ℕ)
      → coefficient p n (polynomial_product p n f g) a ≡ over_splits ◌+◌ a (λ b c. coefficient p n f b * coefficient p n g c) % prime_value p
  unfolding coefficient polynomial_product
  coefficient_product f g a =
      ap (λ h. (h a).number) (coeff_mul (gf p) (gf_laws p) (gf_is_zero p) n f g)
      ∙ number_splits (prime_value p) (prime_positive p) a _ (λ b c. (coeff f b).number * (coeff g c).number) (λ b c. refl)

  -- ---- terms
  pub coefficient_term : (c : ℕ) (a : List ℕ) → length a ≡ n → coefficient p n (polynomial_term p n c a) a ≡ c % prime_value p
  unfolding coefficient polynomial_term
  coefficient_term c a l =
      ap (λ x. x.number) (coeff_monomial_at (gf p) (gf_laws p) (gf_is_zero p) n (residue (prime_value p) (prime_positive p) c) a a l ∙ single_same (gf p) _ a)

  pub coefficient_term_elsewhere : (c : ℕ) (a b : List ℕ) → ¬ (b ≡ a) → coefficient p n (polynomial_term p n c a) b ≡ 0
  unfolding coefficient polynomial_term
  coefficient_term_elsewhere c a b w = elim (ℕ_discrete (length b) n) [
    | yes l ↦ ap (λ x. x.number) (coeff_monomial_at (gf p) (gf_laws p) (gf_is_zero p) n (residue (prime_value p) (prime_positive p) c) a b l
        ∙ single_other (gf p) _ a b w) ∙ zero-mod (prime_value p)
    | no v ↦ coefficient_other_length (polynomial_term p n c a) b v
  ]

  pub term_other_length : (c : ℕ) (a : List ℕ) → ¬ (length a ≡ n) → polynomial_term p n c a ≡ polynomial_zero p n
  term_other_length c a w = same_coefficients _ _ (λ b l. coefficient_term_elsewhere c a b (λ e. w (ap length (sym e) ∙ l)) ∙ sym (coefficient_zero b))

  -- ---- multiples
  product_with_one : (f : Polynomial p n) → polynomial_product p n (polynomial_one p n) f ≡ f
  unfolding polynomial_product polynomial_one
  product_with_one f = (polynomials_laws p n).one_mul f

  pub multiple_of_product : (c : ℕ) (f g : Polynomial p n) → polynomial_multiple p n c (polynomial_product p n f g) ≡ polynomial_product p n (polynomial_multiple p n c f) g
  unfolding polynomial_multiple polynomial_product
  multiple_of_product c f g = multiple_mul (gf p) (gf_laws p) (gf_is_zero p) n (residue (prime_value p) (prime_positive p) c) f g

  -- 1 is a term
  pub one_is_a_term : polynomial_one p n ≡ polynomial_term p n 1 (replicate n 0)
  one_is_a_term = same_coefficients _ _ (λ a l. elim (same_tuple a (replicate n 0)) [
    | inl s ↦ ap (coefficient p n (polynomial_one p n)) s.0 ∙ coefficient_one
        ∙ sym (ap (coefficient p n (polynomial_term p n 1 (replicate n 0))) s.0 ∙ coefficient_term 1 (replicate n 0) (length_zeros n) ∙ mod-eq_of_lt (prime_above_one p))
    | inr w ↦ coefficient_one_elsewhere a (apart a (replicate n 0) w) ∙ sym (coefficient_term_elsewhere 1 (replicate n 0) a (apart a (replicate n 0) w))
  ])

  -- c * 1 is a constant term
  multiple_of_one : (c : ℕ) → polynomial_multiple p n c (polynomial_one p n) ≡ polynomial_term p n c (replicate n 0)
  multiple_of_one c = same_coefficients _ _ (λ a l. coefficient_multiple c (polynomial_one p n) a ∙ elim (same_tuple a (replicate n 0)) [
    | inl s ↦ ap (λ x. (c * coefficient p n (polynomial_one p n) x) % prime_value p) s.0 ∙ ap (λ k. (c * k) % prime_value p) coefficient_one ∙ ap (λ k. k % prime_value p) (mul-one c)
        ∙ sym (ap (coefficient p n (polynomial_term p n c (replicate n 0))) s.0 ∙ coefficient_term c (replicate n 0) (length_zeros n))
    | inr w ↦ ap (λ k. (c * k) % prime_value p) (coefficient_one_elsewhere a (apart a (replicate n 0) w)) ∙ ap (λ k. k % prime_value p) (mul-zero c) ∙ zero-mod (prime_value p)
        ∙ sym (coefficient_term_elsewhere c (replicate n 0) a (apart a (replicate n 0) w))
  ])

  -- a multiple is the product with a constant
  pub multiple_is_a_product : (c : ℕ) (f : Polynomial p n) → polynomial_multiple p n c f ≡ polynomial_product p n (polynomial_term p n c (replicate n 0)) f
  multiple_is_a_product c f =
      ap (polynomial_multiple p n c) (sym (product_with_one f)) ∙ multiple_of_product c (polynomial_one p n) f
      ∙ ap (λ g. polynomial_product p n g f) (multiple_of_one c)

  pub coefficient_difference : (f g : Polynomial p n) (a : List ℕ)
      → coefficient p n (polynomial_difference p n f g) a ≡ (coefficient p n f a + (prime_value p - coefficient p n g a)) % prime_value p
  unfolding polynomial_difference
  coefficient_difference f g a =
      coefficient_sum f (polynomial_negative p n g) a
      ∙ ap (λ k. (coefficient p n f a + k) % prime_value p) (coefficient_negative g a)
      ∙ add-mod-mod (coefficient p n f a) (prime_value p - coefficient p n g a) (prime_value p)

  -- ---- an integral domain
  pub one_differs : ¬ (polynomial_one p n ≡ polynomial_zero p n)
  one_differs e = differs (sym coefficient_one ∙ ap (λ f. coefficient p n f (replicate n 0)) e ∙ coefficient_zero (replicate n 0))
    where
      differs : ¬ (◌≡◌ {A = ℕ} 1 0)
      differs e = cc

  pub polynomials_domain : (f g : Polynomial p n) → polynomial_product p n f g ≡ polynomial_zero p n → (f ≡ polynomial_zero p n) ⊎ (g ≡ polynomial_zero p n)
  unfolding polynomial_product polynomial_zero
  polynomials_domain f g e = domain (gf p) (gf_laws p) (gf_field p) (gf_is_zero p) n lex_order f g e

  -- a factor that is not 0 may be cancelled
  pub cancel_factor : (f g h : Polynomial p n) → ¬ (f ≡ polynomial_zero p n) → polynomial_product p n f g ≡ polynomial_product p n f h → g ≡ h
  unfolding polynomial_product polynomial_zero
  cancel_factor f g h w e =
      let L = polynomials_laws p n in
      let minus = (polynomials p n).neg h in
      elim (domain (gf p) (gf_laws p) (gf_field p) (gf_is_zero p) n lex_order f ((polynomials p n).add g minus)
      (L.mul_add f g minus ∙ ap (λ x. (polynomials p n).add x ((polynomials p n).mul f minus)) e ∙ sym (L.mul_add f h minus) ∙ ap ((polynomials p n).mul f) (add_neg L h) ∙ mul_zero L f)) [
        | inl z ↦ absurd (w z)
        | inr z ↦ add_cancel L minus g h (L.add_comm minus g ∙ z ∙ sym (L.neg_add h))
      ]
