-- Tests of exponents on supports say what the program's refusals say.
use Rattle.std.proofs.Common.{ℕ, ◌≡◌, ◌<◌, ◌^◌, Bool, true, false, ◌&&◌, List, [], ◌∷◌, length, inl, inr, refl, sym, ap, ◌∙◌, arith}
use Rattle.std.specs.List.{list_all}
use native.Mathlib.Decide.{ℕ_discrete}
use Rattle.fm_tuple.specs.Tuple.{tuple_sum, tuple_multiple}
use Rattle.fm_gfp.specs.Primes.{prime_value}
use Rattle.fm_gfp.specs.declared.prime.Prime.{Prime}
use Rattle.std.proofs.Math.Nat.{zero-mod}
use Rattle.fm_mono.specs.Bounded.{is_bounded}
use Rattle.fm_algebra.specs.Gf.{gf}
use Rattle.fm_algebra.specs.Poly.{Among, coeff}
use Rattle.fm_algebra.specs.PolyRing.{support}
use Rattle.fm_algebra.specs.Polynomials.{Polynomial, coefficient}
use Rattle.fm_algebra.proofs.Poly.{support_covers}
use Rattle.fm_algebra.proofs.PolynomialWords.{coefficient_other_length}
use Rattle.fm_poly.specs.Bounds.{ProductFits, ProductPasses, TwistFits, TwistPasses}
use Rattle.fm_mat.specs.Bounds.{product_fits, twist_fits}
use Rattle.fm_algebra.proofs.Places.{at_place}

-- ---- tests of a list
pub all_pass : (test : List ℕ → Bool) (ks : List (List ℕ)) → ((a : List ℕ) → Among a ks → test a ≡ true) → list_all test ks ≡ true
all_pass test [] h = refl
all_pass test (k ∷ ks) h = ap (λ b. b && list_all test ks) (h k (inl refl)) ∙ all_pass test ks (λ a i. h a (inr i))

and_false : (b : Bool) → (b && false) ≡ false
and_false true = refl
and_false false = refl

one_fails : (test : List ℕ → Bool) (a : List ℕ) (ks : List (List ℕ)) → Among a ks → test a ≡ false → list_all test ks ≡ false
one_fails test a [] i h = absurd i
one_fails test a (k ∷ ks) (inl e) h = ap (λ b. b && list_all test ks) (ap test (sym e) ∙ h)
one_fails test a (k ∷ ks) (inr i) h = ap (λ b. test k && b) (one_fails test a ks i h) ∙ and_false (test k)

module _ (p : Prime) (n : ℕ) where
  -- the support is where the coefficients are not 0
  pub nonzero : (f : Polynomial p n) (a : List ℕ) → Among a (support f) → ¬ (coefficient p n f a ≡ 0)
  nonzero f a i z = let h : 0 < coefficient p n f a = (at_place p n f a i).1 in omega (arith, h, z)

  zero_number : (f : Polynomial p n) (a : List ℕ) → coeff f a ≡ (gf p).zero → coefficient p n f a ≡ 0
  unfolding coefficient
  zero_number f a z = ap (λ x. x.number) z ∙ zero-mod (prime_value p)

  pub supported : (f : Polynomial p n) (a : List ℕ) → ¬ (coefficient p n f a ≡ 0) → Among a (support f)
  supported f a w = elim (ℕ_discrete (length a) n) [
    | yes l ↦ elim (support_covers f a l) [ inl z ↦ absurd (w (zero_number f a z)) | inr i ↦ i ]
    | no v ↦ absurd (w (coefficient_other_length p n f a v))
  ]

  pub fits_as_test : (f g : Polynomial p n) → ProductFits p n f g → product_fits p n f g ≡ true
  fits_as_test f g h = all_pass (λ a. list_all (λ b. is_bounded (tuple_sum a b)) (support g)) (support f)
      (λ a i. all_pass (λ b. is_bounded (tuple_sum a b)) (support g) (λ b j. h.within a b (nonzero f a i) (nonzero g b j)))

  pub passes_as_test : (f g : Polynomial p n) → ProductPasses p n f g → product_fits p n f g ≡ false
  passes_as_test f g h = one_fails (λ a. list_all (λ b. is_bounded (tuple_sum a b)) (support g)) h.a (support f) (supported f h.a h.a_of_f)
      (one_fails (λ b. is_bounded (tuple_sum h.a b)) h.b (support g) (supported g h.b h.b_of_g) h.passes)

  pub twist_as_test : (e : ℕ) (f : Polynomial p n) → TwistFits p n e f → twist_fits p n e f ≡ true
  twist_as_test e f h = all_pass (λ a. is_bounded (tuple_multiple (prime_value p ^ e) a)) (support f) (λ a i. h.within a (nonzero f a i))

  pub twist_passes_as_test : (e : ℕ) (f : Polynomial p n) → TwistPasses p n e f → twist_fits p n e f ≡ false
  twist_passes_as_test e f h = one_fails (λ a. is_bounded (tuple_multiple (prime_value p ^ e) a)) h.a (support f) (supported f h.a h.a_of_f) h.passes
