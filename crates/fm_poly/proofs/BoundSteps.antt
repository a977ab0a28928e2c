-- What a test of each term of a list says of the polynomial that the list means
use Rattle.std.proofs.Common.{◌≡◌, ◌<◌, ℕ, ◌+◌, ◌%◌, ◌^◌, Bool, ◌&&◌, true, false, if◌then◌else◌, List, [], ◌∷◌, length, inl, inr, refl, ap, sym, ◌∙◌, subst, mod-eq_of_lt, arith}
use Rattle.std.proofs.Math.Nat.{zero-mod, zero-add}
use Rattle.std.specs.List.{list_all}
use native.Mathlib.Decide.{ℕ_discrete}
use Rattle.fm_tuple.specs.Tuple.{tuple_sum, tuple_multiple}
use Rattle.fm_tuple.proofs.Tuples.{tuple_sum_comm}
use Rattle.fm_mono.specs.Bounded.{is_bounded}
use Rattle.fm_gfp.specs.Primes.{prime_value}
use Rattle.fm_algebra.specs.Poly.{same_tuple, tuple_eq, apart}
use Rattle.fm_algebra.specs.Polynomials.{Polynomial, coefficient, polynomial_term, listed_coefficient}
use Rattle.fm_algebra.proofs.PolynomialWords.{coefficient_below, coefficient_other_length, coefficient_sum, coefficient_term_elsewhere}
use Rattle.fm_algebra.proofs.TermWords.{coefficient_of, first_coefficient}
use Rattle.fm_poly.specs.declared.ring.Ring.{Ring}
use Rattle.fm_poly.specs.declared.term.Term.{Term}
use Rattle.fm_poly.specs.Polys.{pairs, meaning, IsCanonical}
use Rattle.fm_poly.specs.Steps.{products_fit, twists_fit}
use Rattle.fm_poly.specs.Bounds.{ProductFits, ProductPasses, TwistFits, TwistPasses}
use Rattle.fm_poly.proofs.OrderedTerms.{monomial_order, canonical_back, meaning_cons}

-- ---- tests
both_left : (a b : Bool) → (a && b) ≡ true → a ≡ true
both_left true b e = refl
both_left false b e = e

both_right : (a b : Bool) → (a && b) ≡ true → b ≡ true
both_right true b e = e
both_right false b e = cc

module _ (test : List ℕ → Bool) where
  abbrev pub all_pass : List Term → Bool
  all_pass ts = list_all (λ t. test t.mono) ts

  listed_passes : (ts : List Term) (a : List ℕ) → all_pass ts ≡ true → ¬ (listed_coefficient (pairs ts) a ≡ 0) → test a ≡ true
  listed_passes [] a h w = absurd (w refl)
  listed_passes (t ∷ ts) a h w = elim (same_tuple a t.mono) [
    | inl s ↦ ap test s.0 ∙ both_left (test t.mono) (all_pass ts) h
    | inr v ↦ listed_passes ts a (both_right (test t.mono) (all_pass ts) h)
        (λ z. w (ap (λ b. (if b then t.coeff else 0) + listed_coefficient (pairs ts) a) v ∙ zero-add (listed_coefficient (pairs ts) a) ∙ z))
  ]

  module _ (r : Ring) where
    -- where each term passes a test, each exponent tuple of the polynomial does
    pub tuples_pass : (ts : List Term) (a : List ℕ) → all_pass ts ≡ true → ¬ (coefficient r.prime r.vars (meaning r ts) a ≡ 0) → test a ≡ true
    unfolding meaning
    tuples_pass ts a h w = elim (ℕ_discrete (length a) r.vars) [
      | yes l ↦ listed_passes ts a h (λ z. w (coefficient_of r.prime r.vars (pairs ts) a l ∙ ap (λ k. k % prime_value r.prime) z ∙ zero-mod (prime_value r.prime)))
      | no v ↦ absurd (w (coefficient_other_length r.prime r.vars (meaning r ts) a v))
    ]

    first_nonzero : (t : Term) (ts : List Term) → IsCanonical r (t ∷ ts) → ¬ (coefficient r.prime r.vars (meaning r (t ∷ ts)) t.mono ≡ 0)
    unfolding meaning
    first_nonzero t ts c z =
        let same : t.coeff ≡ 0 = sym (first_coefficient r.prime r.vars (monomial_order r.order) (t.mono, t.coeff) (pairs ts) c.listed c.falls) ∙ z in
        let positive : 0 < t.coeff = c.listed.1 in
        omega arith

    later_nonzero : (t : Term) (ts : List Term) (a : List ℕ) → IsCanonical r (t ∷ ts) → ¬ (coefficient r.prime r.vars (meaning r ts) a ≡ 0) → ¬ (coefficient r.prime r.vars (meaning r (t ∷ ts)) a ≡ 0)
    later_nonzero t ts a c w = elim (same_tuple a t.mono) [
      | inl s ↦ subst (λ b. ¬ (coefficient r.prime r.vars (meaning r (t ∷ ts)) b ≡ 0)) (sym s.0) (first_nonzero t ts c)
      | inr v ↦ λ z. w (sym (beside v) ∙ z)
    ]
      where
        beside : tuple_eq a t.mono ≡ false → coefficient r.prime r.vars (meaning r (t ∷ ts)) a ≡ coefficient r.prime r.vars (meaning r ts) a
        beside v =
            ap (λ f. coefficient r.prime r.vars f a) (meaning_cons r t ts)
            ∙ coefficient_sum r.prime r.vars (polynomial_term r.prime r.vars t.coeff t.mono) (meaning r ts) a
            ∙ ap (λ k. (k + coefficient r.prime r.vars (meaning r ts) a) % prime_value r.prime) (coefficient_term_elsewhere r.prime r.vars t.coeff t.mono a (apart a t.mono v))
            ∙ ap (λ k. k % prime_value r.prime) (zero-add (coefficient r.prime r.vars (meaning r ts) a))
            ∙ mod-eq_of_lt (coefficient_below r.prime r.vars (meaning r ts) a)

    pub record Failing (ts : List Term) : Type 0 where
      pub a : List ℕ
      pub a_of_ts : ¬ (coefficient r.prime r.vars (meaning r ts) a ≡ 0)
      pub fails : test a ≡ false

    failing_at : (t : Term) (ts : List Term) (b : Bool) → test t.mono ≡ b → IsCanonical r (t ∷ ts) → (b && all_pass ts) ≡ false → (all_pass ts ≡ false → Failing ts) → Failing (t ∷ ts)
    failing_at t ts true e c h ih = let later : Failing ts = ih h in record { a = later.a; a_of_ts = later_nonzero t ts later.a c later.a_of_ts; fails = later.fails }
    failing_at t ts false e c h ih = record { a = t.mono; a_of_ts = first_nonzero t ts c; fails = e }

    -- where a term of a canonical list fails a test, an exponent tuple of the polynomial does
    pub tuple_fails : (ts : List Term) → IsCanonical r ts → all_pass ts ≡ false → Failing ts
    tuple_fails [] c h = cc
    tuple_fails (t ∷ ts) c h = failing_at t ts (test t.mono) refl c h (λ w. tuple_fails ts (canonical_back r (t ∷ []) ts c) w)

-- ---- the tests of products and twists
module _ (r : Ring) where
  abbrev Value : Type 0
  Value = Polynomial r.prime r.vars

  pub product_fits : (f g : List Term) → products_fit f g ≡ true → ProductFits r.prime r.vars (meaning r f) (meaning r g)
  product_fits f g h = record {
    within = λ a b u v. tuples_pass (λ c. is_bounded (tuple_sum a c)) r g b (tuples_pass (λ c. list_all (λ t. is_bounded (tuple_sum c t.mono)) g) r f a h u) v;
  }

  pub product_passes : (f g : List Term) → IsCanonical r f → IsCanonical r g → products_fit f g ≡ false → ProductPasses r.prime r.vars (meaning r f) (meaning r g)
  product_passes f g c d h =
      let row : Failing (λ k. list_all (λ t. is_bounded (tuple_sum k t.mono)) g) r f = tuple_fails (λ k. list_all (λ t. is_bounded (tuple_sum k t.mono)) g) r f c h in
      let place : Failing (λ k. is_bounded (tuple_sum row.a k)) r g = tuple_fails (λ k. is_bounded (tuple_sum row.a k)) r g d row.fails in
      record { a = row.a; b = place.a; a_of_f = row.a_of_ts; b_of_g = place.a_of_ts; passes = place.fails }

  -- a coefficient that is not 0 stands at a tuple of n exponents
  fits : (f : Value) (a : List ℕ) → ¬ (coefficient r.prime r.vars f a ≡ 0) → length a ≡ r.vars
  fits f a w = elim (ℕ_discrete (length a) r.vars) [ yes l ↦ l | no v ↦ absurd (w (coefficient_other_length r.prime r.vars f a v)) ]

  turned : (f g : Value) (a b : List ℕ) → ¬ (coefficient r.prime r.vars f a ≡ 0) → ¬ (coefficient r.prime r.vars g b ≡ 0) → tuple_sum a b ≡ tuple_sum b a
  turned f g a b u v = tuple_sum_comm a b (fits f a u ∙ sym (fits g b v))

  pub product_fits_turned : (f g : Value) → ProductFits r.prime r.vars f g → ProductFits r.prime r.vars g f
  product_fits_turned f g h = record { within = λ a b u v. ap is_bounded (turned g f a b u v) ∙ h.within b a v u }

  pub product_passes_turned : (f g : Value) → ProductPasses r.prime r.vars f g → ProductPasses r.prime r.vars g f
  product_passes_turned f g h = record { a = h.b; b = h.a; a_of_f = h.b_of_g; b_of_g = h.a_of_f; passes = ap is_bounded (turned g f h.b h.a h.b_of_g h.a_of_f) ∙ h.passes }

  pub twist_fits : (e : ℕ) (f : List Term) → twists_fit r e f ≡ true → TwistFits r.prime r.vars e (meaning r f)
  twist_fits e f h = record { within = λ a u. tuples_pass (λ c. is_bounded (tuple_multiple (prime_value r.prime ^ e) c)) r f a h u }

  pub twist_passes : (e : ℕ) (f : List Term) → IsCanonical r f → twists_fit r e f ≡ false → TwistPasses r.prime r.vars e (meaning r f)
  twist_passes e f c h =
      let place : Failing (λ k. is_bounded (tuple_multiple (prime_value r.prime ^ e) k)) r f = tuple_fails (λ k. is_bounded (tuple_multiple (prime_value r.prime ^ e) k)) r f c h in
      record { a = place.a; a_of_f = place.a_of_ts; passes = place.fails }
