-- Twists and slices over GF(p), in the words that contracts cite
use Rattle.std.proofs.Common.{◌≡◌, ℕ, zero, suc, ◌*◌, ◌^◌, List, [], ◌∷◌, map, length, inl, inr, refl, ap, ap₂, sym, ◌∙◌, one-mul}
use Rattle.std.proofs.Math.Nat.{zero-mod}
use native.Mathlib.Nat.{pow-suc, pow-zero}
use native.Mathlib.Decide.{ℕ_discrete}
use Rattle.fm_tuple.specs.Tuple.{tuple_multiple}
use Rattle.fm_tuple.proofs.Tuples.{length_tuple_multiple}
use Rattle.fm_gfp.specs.Primes.{prime_value}
use Rattle.fm_gfp.specs.declared.prime.Prime.{Prime}
use Rattle.fm_algebra.specs.Ring.{Ring, IsRing}
use Rattle.fm_algebra.specs.Series.{Series}
use Rattle.fm_algebra.specs.Gf.{gf, gf_is_zero, prime_positive, residue}
use Rattle.fm_algebra.specs.Poly.{coeff}
use Rattle.fm_algebra.specs.PolyRing.{multiple}
use Rattle.fm_algebra.specs.Power.{power}
use Rattle.fm_algebra.specs.Twist.{AllBelow, Digits, tuple_place, twist, twisted, where_zero}
use Rattle.fm_algebra.specs.Polynomials.{Polynomial, polynomials, coefficient, polynomial_zero, polynomial_one, polynomial_sum, polynomial_product, polynomial_negative, polynomial_multiple, polynomial_power, polynomial_term, polynomial_of, frobenius_twist, frobenius_slice}
use Rattle.fm_algebra.proofs.Algebra.{mul_zero, neg_unique, add_neg}
use Rattle.fm_algebra.proofs.Gf.{gf_laws}
use Rattle.fm_algebra.proofs.Poly.{same_poly}
use Rattle.fm_algebra.proofs.PolyRing.{coeff_multiple}
use Rattle.fm_algebra.proofs.Slices.{twist_add, twist_mul, twist_one, twist_zero, twist_injective}
use Rattle.fm_algebra.proofs.Twist.{coeff_twist, coeff_slice, twisted_at, twisted_multiple}
use Rattle.fm_algebra.proofs.Frobenius.{frobenius_power, twist_monomial}
use Rattle.fm_algebra.proofs.Concrete.{polynomials_laws, polynomials_sliced, q_positive}
use Rattle.fm_algebra.proofs.PolynomialWords.{term_other_length}

module _ {K : Ring} (L : IsRing K) (c : K.Carrier) where
  scaled_where : (r : ℕ) (x : K.Carrier) → where_zero K r (K.mul c x) ≡ K.mul c (where_zero K r x)
  scaled_where zero x = refl
  scaled_where (suc r) x = sym (mul_zero L c)

  -- the twist of c * h
  twisted_scaled : (q : ℕ) (h : Series K) (a : List ℕ) → twisted K q (λ b. K.mul c (h b)) a ≡ K.mul c (twisted K q h a)
  unfolding twisted
  twisted_scaled q h [] = refl
  twisted_scaled q h (k ∷ a) = ap (where_zero K _) (twisted_scaled q (λ b. h (_ ∷ b)) a) ∙ scaled_where _ _

module _ (p : Prime) (n : ℕ) where
  -- ---- the coefficients of a twist
  pub twist_at_multiple : (e : ℕ) (f : Polynomial p n) (b : List ℕ) → coefficient p n (frobenius_twist p n e f) (tuple_multiple (prime_value p ^ e) b) ≡ coefficient p n f b
  unfolding coefficient frobenius_twist
  twist_at_multiple e f b =
      ap (λ h. (h (tuple_multiple (prime_value p ^ e) b)).number) (coeff_twist (gf p) (gf_is_zero p) n (prime_value p ^ e) f)
      ∙ ap (λ c. c.number) (twisted_multiple (gf p) (prime_value p ^ e) (q_positive p n e) (coeff f) b)

  pub twist_elsewhere : (e : ℕ) (f : Polynomial p n) (a : List ℕ) → ((b : List ℕ) → ¬ (a ≡ tuple_multiple (prime_value p ^ e) b)) → coefficient p n (frobenius_twist p n e f) a ≡ 0
  unfolding coefficient frobenius_twist
  twist_elsewhere e f a w =
      ap (λ h. (h a).number) (coeff_twist (gf p) (gf_is_zero p) n (prime_value p ^ e) f)
      ∙ elim (twisted_at (gf p) (prime_value p ^ e) (coeff f) a) [
        | inl z ↦ ap (λ c. c.number) z ∙ zero-mod (prime_value p)
        | inr t ↦ absurd (w t.0 t.1)
      ]

  -- ---- a ring homomorphism
  module _ (e : ℕ) where
    pub twist_of_zero : frobenius_twist p n e (polynomial_zero p n) ≡ polynomial_zero p n
    unfolding polynomial_zero
    twist_of_zero = twist_zero (polynomials_laws p n) (polynomials_sliced p n e)

    pub twist_of_one : frobenius_twist p n e (polynomial_one p n) ≡ polynomial_one p n
    unfolding polynomial_one
    twist_of_one = twist_one (polynomials_laws p n) (polynomials_sliced p n e)

    pub twist_of_sum : (f g : Polynomial p n) → frobenius_twist p n e (polynomial_sum p n f g) ≡ polynomial_sum p n (frobenius_twist p n e f) (frobenius_twist p n e g)
    unfolding polynomial_sum
    twist_of_sum f g = twist_add (polynomials_laws p n) (polynomials_sliced p n e) f g

    pub twist_of_product : (f g : Polynomial p n) → frobenius_twist p n e (polynomial_product p n f g) ≡ polynomial_product p n (frobenius_twist p n e f) (frobenius_twist p n e g)
    unfolding polynomial_product
    twist_of_product f g = twist_mul (polynomials_laws p n) (polynomials_sliced p n e) f g

    pub twist_of_negative : (f : Polynomial p n) → frobenius_twist p n e (polynomial_negative p n f) ≡ polynomial_negative p n (frobenius_twist p n e f)
    unfolding polynomial_negative
    twist_of_negative f =
        neg_unique (polynomials_laws p n) (frobenius_twist p n e f) (frobenius_twist p n e ((polynomials p n).neg f))
        (sym (twist_add (polynomials_laws p n) (polynomials_sliced p n e) f ((polynomials p n).neg f))
        ∙ ap (frobenius_twist p n e) (add_neg (polynomials_laws p n) f) ∙ twist_zero (polynomials_laws p n) (polynomials_sliced p n e))

    pub twist_of_multiple : (c : ℕ) (f : Polynomial p n) → frobenius_twist p n e (polynomial_multiple p n c f) ≡ polynomial_multiple p n c (frobenius_twist p n e f)
    unfolding polynomial_multiple frobenius_twist
    twist_of_multiple c f =
        let q = prime_value p ^ e in
        let d = residue (prime_value p) (prime_positive p) c in
        same_poly (gf p) n _ _ (λ a.
        ap (λ h. h a) (coeff_twist (gf p) (gf_is_zero p) n q (multiple (gf p) (gf_is_zero p) n d f))
        ∙ ap (λ h. twisted (gf p) q h a) (coeff_multiple (gf p) (gf_laws p) (gf_is_zero p) n d f)
        ∙ twisted_scaled (gf_laws p) d q (coeff f) a
        ∙ ap (λ h. (gf p).mul d (h a)) (sym (coeff_twist (gf p) (gf_is_zero p) n q f))
        ∙ sym (ap (λ h. h a) (coeff_multiple (gf p) (gf_laws p) (gf_is_zero p) n d (twist (gf p) (gf_is_zero p) n q f))))

    pub twist_of_power : (k : ℕ) (f : Polynomial p n) → frobenius_twist p n e (polynomial_power p n k f) ≡ polynomial_power p n k (frobenius_twist p n e f)
    unfolding polynomial_power power
    twist_of_power zero f = twist_one (polynomials_laws p n) (polynomials_sliced p n e)
    twist_of_power (suc k) f =
        twist_mul (polynomials_laws p n) (polynomials_sliced p n e) f (power (polynomials p n) k f)
        ∙ ap ((polynomials p n).mul (frobenius_twist p n e f)) (twist_of_power k f)

    -- ---- terms
    fitting : (c : ℕ) (a : List ℕ) → length a ≡ n → frobenius_twist p n e (polynomial_term p n c a) ≡ polynomial_term p n c (tuple_multiple (prime_value p ^ e) a)
    unfolding polynomial_term frobenius_twist
    fitting c a l = twist_monomial (gf p) (gf_laws p) (gf_is_zero p) n (prime_value p ^ e) (q_positive p n e) (residue (prime_value p) (prime_positive p) c) a l

    pub twist_of_term : (c : ℕ) (a : List ℕ) → frobenius_twist p n e (polynomial_term p n c a) ≡ polynomial_term p n c (tuple_multiple (prime_value p ^ e) a)
    twist_of_term c a = elim (ℕ_discrete (length a) n) [
      | yes l ↦ fitting c a l
      | no w ↦ ap (frobenius_twist p n e) (term_other_length p n c a w) ∙ twist_of_zero
          ∙ sym (term_other_length p n c (tuple_multiple (prime_value p ^ e) a) (λ l. w (sym (length_tuple_multiple (prime_value p ^ e) a) ∙ l)))
    ]

    -- each term of the list twisted
    abbrev pub twisted_terms : List (List ℕ × ℕ) → List (List ℕ × ℕ)
    twisted_terms ts = map (λ t. (tuple_multiple (prime_value p ^ e) t.0, t.1)) ts

    pub twist_of_terms : (ts : List (List ℕ × ℕ)) → frobenius_twist p n e (polynomial_of p n ts) ≡ polynomial_of p n (twisted_terms ts)
    unfolding polynomial_of
    twist_of_terms [] = twist_of_zero
    twist_of_terms (t ∷ ts) = twist_of_sum (polynomial_term p n t.1 t.0) (polynomial_of p n ts) ∙ ap₂ (polynomial_sum p n) (twist_of_term t.1 t.0) (twist_of_terms ts)

    pub twist_one_to_one : (f g : Polynomial p n) → frobenius_twist p n e f ≡ frobenius_twist p n e g → f ≡ g
    twist_one_to_one = twist_injective (polynomials_laws p n) (polynomials_sliced p n e)

    -- ---- a power
    pub power_is_twist : (f : Polynomial p n) → polynomial_power p n (prime_value p ^ e) f ≡ frobenius_twist p n e f
    unfolding polynomial_power frobenius_twist
    power_is_twist f = frobenius_power p (gf_is_zero p) n e f

    -- ---- slices
    pub slice_coefficient : (a b : List ℕ) (f : Polynomial p n) → length a ≡ n → AllBelow (prime_value p ^ e) a → length b ≡ n
        → coefficient p n (frobenius_slice p n e a f) b ≡ coefficient p n f (tuple_place (prime_value p ^ e) b a)
    unfolding coefficient frobenius_slice
    slice_coefficient a b f l w m = ap (λ c. c.number) (coeff_slice (gf p) (gf_is_zero p) n (prime_value p ^ e) a f l w b m)

    abbrev pub digits : (a : List ℕ) → length a ≡ n → AllBelow (prime_value p ^ e) a → Digits n (prime_value p ^ e)
    digits a l w = record { tuple = a; fits = l; below = w }

    pub slice_of_sum : (a : List ℕ) (f g : Polynomial p n) → length a ≡ n → AllBelow (prime_value p ^ e) a
        → frobenius_slice p n e a (polynomial_sum p n f g) ≡ polynomial_sum p n (frobenius_slice p n e a f) (frobenius_slice p n e a g)
    unfolding polynomial_sum
    slice_of_sum a f g l w = (polynomials_sliced p n e).slice_add (digits a l w) f g

    pub slice_of_product : (a : List ℕ) (f g : Polynomial p n) → length a ≡ n → AllBelow (prime_value p ^ e) a
        → frobenius_slice p n e a (polynomial_product p n (frobenius_twist p n e f) g) ≡ polynomial_product p n f (frobenius_slice p n e a g)
    unfolding polynomial_product
    slice_of_product a f g l w = (polynomials_sliced p n e).slice_mul (digits a l w) f g

    pub same_slices : (f g : Polynomial p n) → ((a : List ℕ) → length a ≡ n → AllBelow (prime_value p ^ e) a → frobenius_slice p n e a f ≡ frobenius_slice p n e a g) → f ≡ g
    same_slices f g h = (polynomials_sliced p n e).same f g (λ d. h d.tuple d.fits d.below)

    pub any_slices : (u : List ℕ → Polynomial p n)
        → (f : Polynomial p n) × ((a : List ℕ) → length a ≡ n → AllBelow (prime_value p ^ e) a → frobenius_slice p n e a f ≡ u a)
    any_slices u = (
      (polynomials_sliced p n e).glue (λ d. u d.tuple),
      λ a l w. (polynomials_sliced p n e).slice_glue (λ d. u d.tuple) (digits a l w),
    )

  pub prime_power_is_twist : (f : Polynomial p n) → polynomial_power p n (prime_value p) f ≡ frobenius_twist p n 1 f
  prime_power_is_twist f =
      ap (λ k. polynomial_power p n k f) (sym (one-mul (prime_value p)) ∙ ap (λ k. k * prime_value p) (sym (pow-zero (prime_value p))) ∙ sym (pow-suc (prime_value p) 0))
      ∙ power_is_twist 1 f
