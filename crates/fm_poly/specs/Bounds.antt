-- Which operations pass the bound on exponents: it is told of the terms of the values, and terms that would cancel count.
use Rattle.std.specs.Prelude.{ℕ, ◌^◌, ◌<◌, ◌≡◌, List, [], ◌∷◌, true, false}
use Rattle.fm_tuple.specs.Tuple.{tuple_sum, tuple_multiple}
use Rattle.fm_gfp.specs.Primes.{prime_value}
use Rattle.fm_gfp.specs.declared.prime.Prime.{Prime}
use Rattle.fm_mono.specs.Bounded.{is_bounded}
use Rattle.fm_algebra.specs.Polynomials.{Polynomial, coefficient, polynomial_power}

-- each exponent of these terms is within the bound
abbrev pub AreWithinBound : List (List ℕ × ℕ) → Type 0
AreWithinBound [] = Unit {0}
AreWithinBound (t ∷ ts) = (is_bounded t.0 ≡ true) × AreWithinBound ts

module _ (p : Prime) (n : ℕ) where
  -- each exponent of f is within the bound
  pub record IsWithinBound (f : Polynomial p n) : Type 0 where
    pub within : (a : List ℕ) → ¬ (coefficient p n f a ≡ 0) → is_bounded a ≡ true

  -- an exponent of f is above the bound
  pub record IsBeyondBound (f : Polynomial p n) : Type 0 where
    pub a : List ℕ
    pub a_of_f : ¬ (coefficient p n f a ≡ 0)
    pub passes : is_bounded a ≡ false

  -- each monomial of f times each monomial of g is within the bound
  pub record ProductFits (f g : Polynomial p n) : Type 0 where
    pub within : (a b : List ℕ) → ¬ (coefficient p n f a ≡ 0) → ¬ (coefficient p n g b ≡ 0) → is_bounded (tuple_sum a b) ≡ true

  -- a monomial of f times a monomial of g passes the bound
  pub record ProductPasses (f g : Polynomial p n) : Type 0 where
    pub a : List ℕ
    pub b : List ℕ
    pub a_of_f : ¬ (coefficient p n f a ≡ 0)
    pub b_of_g : ¬ (coefficient p n g b ≡ 0)
    pub passes : is_bounded (tuple_sum a b) ≡ false

  -- the twist of each monomial of f by q = p ^ e is within the bound
  pub record TwistFits (e : ℕ) (f : Polynomial p n) : Type 0 where
    pub within : (a : List ℕ) → ¬ (coefficient p n f a ≡ 0) → is_bounded (tuple_multiple (prime_value p ^ e) a) ≡ true

  -- the twist of a monomial of f by q = p ^ e passes the bound
  pub record TwistPasses (e : ℕ) (f : Polynomial p n) : Type 0 where
    pub a : List ℕ
    pub a_of_f : ¬ (coefficient p n f a ≡ 0)
    pub passes : is_bounded (tuple_multiple (prime_value p ^ e) a) ≡ false

  -- each of the products f^0 * f, .., f^(k-1) * f is within the bound
  pub record PowerFits (k : ℕ) (f : Polynomial p n) : Type 0 where
    pub within : (j : ℕ) → j < k → ProductFits (polynomial_power p n j f) f

  -- one of these products passes the bound
  pub record PowerPasses (k : ℕ) (f : Polynomial p n) : Type 0 where
    pub j : ℕ
    pub below : j < k
    pub passes : ProductPasses (polynomial_power p n j f) f
