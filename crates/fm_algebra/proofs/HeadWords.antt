-- Heads and falling lists of terms over GF(p), in the words that contracts cite
use Rattle.std.proofs.Common.{◌≡◌, ◌<◌, ℕ, ◌*◌, ◌^◌, ◌%◌, List, [], ◌∷◌, map, length, ◌⊎◌, inl, inr, refl, ap, ap₂, sym, ◌∙◌, Greater, arith, eq-zero-or-pos, mod-eq_of_lt}
use Rattle.std.proofs.Math.Nat.{zero-mod}
use Rattle.std.specs.declared.cmp.Ordering.{Ordering}
use Rattle.fm_tuple.specs.Tuple.{tuple_sum, tuple_multiple}
use Rattle.fm_gfp.specs.Primes.{prime_value}
use Rattle.fm_gfp.specs.declared.prime.Prime.{Prime}
use Rattle.fm_algebra.specs.Gf.{gf, gf_is_zero, prime_positive, residue, Residue, same_residue}
use Rattle.fm_algebra.specs.Poly.{coeff}
use Rattle.fm_algebra.specs.Monomial.{sum_of_terms}
use Rattle.fm_algebra.specs.Heads.{IsMonomialOrder, AllLess, IsFalling, AreTerms}
use Rattle.fm_algebra.specs.Polynomials.{Polynomial, coefficient, polynomial_zero, polynomial_product, polynomial_of, frobenius_twist, AreListedTerms, HasHead}
use Rattle.fm_algebra.proofs.Gf.{gf_laws, gf_field}
use Rattle.fm_algebra.proofs.Domain.{zero_or_head, head_unique, head_mul, coeff_head_mul}
use Rattle.fm_algebra.proofs.HeadTwist.{head_twist}
use Rattle.fm_algebra.proofs.FallingTerms.{falling_terms}
use Rattle.fm_algebra.proofs.TermWords.{Terms, of_reduced, reduced}
use Rattle.fm_algebra.proofs.Concrete.{q_positive}

module _ (p : Prime) (n : ℕ) (R : List ℕ → List ℕ → Ordering) where
  -- ---- what a head is
  pub head_says : (f : Polynomial p n) (a : List ℕ) → HasHead p n R f a
      → (length a ≡ n) × (0 < coefficient p n f a) × ((b : List ℕ) → R b a ≡ Greater → coefficient p n f b ≡ 0)
  unfolding HasHead coefficient
  head_says f a h = (
    h.fits,
    elim (eq-zero-or-pos (coeff f a).number) [ inl z ↦ absurd (h.nonzero (same_residue _ _ (z ∙ sym (zero-mod (prime_value p))))) | inr pos ↦ pos ],
    λ b g. ap (λ c. c.number) (h.zero_above b g) ∙ zero-mod (prime_value p),
  )

  pub head_if : (f : Polynomial p n) (a : List ℕ) → length a ≡ n → 0 < coefficient p n f a → ((b : List ℕ) → R b a ≡ Greater → coefficient p n f b ≡ 0) → HasHead p n R f a
  unfolding HasHead coefficient
  head_if f a l pos above = record {
    fits = l;
    nonzero = λ z. differs pos (ap (λ c. c.number) z ∙ zero-mod (prime_value p));
    zero_above = λ b g. same_residue _ _ (above b g ∙ sym (zero-mod (prime_value p)));
  }
    where
      differs : {k : ℕ} → 0 < k → ¬ (k ≡ 0)
      differs pos z = omega arith

  -- ---- falling lists with numbers as coefficients
  abbrev numbers : List (List ℕ × Residue (prime_value p)) → Terms p n
  numbers ts = map (λ t. (t.0, t.1.number)) ts

  reduced_numbers : (ts : List (List ℕ × Residue (prime_value p))) → reduced p n (numbers ts) ≡ ts
  reduced_numbers [] = refl
  reduced_numbers (t ∷ ts) = ap₂ (λ c us. (t.0, c) ∷ us) (same_residue (residue (prime_value p) (prime_positive p) t.1.number) t.1 (mod-eq_of_lt t.1.below)) (reduced_numbers ts)

  are_listed : (ts : List (List ℕ × Residue (prime_value p))) → AreTerms (gf p) n ts → AreListedTerms p n (numbers ts)
  are_listed [] w = tt
  are_listed (t ∷ ts) w = (w.0, positive t.1 w.1, t.1.below, are_listed ts w.2)
    where
      positive : (c : Residue (prime_value p)) → ¬ (c ≡ (gf p).zero) → 0 < c.number
      positive c w = elim (eq-zero-or-pos c.number) [ inl z ↦ absurd (w (same_residue _ _ (z ∙ sym (zero-mod (prime_value p))))) | inr pos ↦ pos ]

  all_less_numbers : (a : List ℕ) (ts : List (List ℕ × Residue (prime_value p))) → AllLess R a ts → AllLess R a (numbers ts)
  all_less_numbers a [] w = tt
  all_less_numbers a (t ∷ ts) w = (w.0, all_less_numbers a ts w.1)

  falling_numbers : (ts : List (List ℕ × Residue (prime_value p))) → IsFalling R ts → IsFalling R (numbers ts)
  falling_numbers [] w = tt
  falling_numbers (t ∷ ts) w = (all_less_numbers t.0 ts w.0, falling_numbers ts w.1)

  -- ---- in a monomial order
  module _ (o : IsMonomialOrder R) where
    pub zero_or_has_head : (f : Polynomial p n) → (f ≡ polynomial_zero p n) ⊎ ((a : List ℕ) × HasHead p n R f a)
    unfolding HasHead polynomial_zero
    zero_or_has_head f = zero_or_head (gf p) (gf_laws p) (gf_is_zero p) n o f

    pub one_head_of : (f : Polynomial p n) (a b : List ℕ) → HasHead p n R f a → HasHead p n R f b → a ≡ b
    unfolding HasHead
    one_head_of f a b h k = head_unique (gf p) (gf_laws p) (gf_is_zero p) n o f a b h k

    pub head_of_product : (f g : Polynomial p n) (a b : List ℕ) → HasHead p n R f a → HasHead p n R g b → HasHead p n R (polynomial_product p n f g) (tuple_sum a b)
    unfolding HasHead polynomial_product
    head_of_product f g a b h k = head_mul (gf p) (gf_laws p) (gf_field p) (gf_is_zero p) n o f g a b h k

    pub leading_of_product : (f g : Polynomial p n) (a b : List ℕ) → HasHead p n R f a → HasHead p n R g b
        → coefficient p n (polynomial_product p n f g) (tuple_sum a b) ≡ (coefficient p n f a * coefficient p n g b) % prime_value p
    unfolding HasHead polynomial_product coefficient
    leading_of_product f g a b h k = ap (λ c. c.number) (coeff_head_mul (gf p) (gf_laws p) (gf_field p) (gf_is_zero p) n o f g a b h k)

    pub head_of_twist : (e : ℕ) (f : Polynomial p n) (a : List ℕ) → HasHead p n R f a → HasHead p n R (frobenius_twist p n e f) (tuple_multiple (prime_value p ^ e) a)
    unfolding HasHead frobenius_twist
    head_of_twist e f a h = head_twist o (gf p) (gf_is_zero p) n (prime_value p ^ e) (q_positive p n e) f a h

    pub falling_list : (f : Polynomial p n) → (ts : List (List ℕ × ℕ)) × AreListedTerms p n ts × IsFalling R ts × (polynomial_of p n ts ≡ f)
    falling_list f =
        let found = falling_terms (gf p) (gf_laws p) (gf_is_zero p) n o f in (
          numbers found.0,
          are_listed found.0 found.1,
          falling_numbers found.0 found.2,
          of_reduced p n (numbers found.0) ∙ ap (sum_of_terms (gf p) (gf_is_zero p) n) (reduced_numbers found.0) ∙ found.3,
        )
