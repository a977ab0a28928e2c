-- Monomial orders, heads, and falling lists of terms (Cox, Little and O'Shea, Ideals, Varieties, and Algorithms, chapter 2, section 2).
use Rattle.std.specs.Prelude.{◌≡◌, ℕ, List, [], ◌∷◌, length}
use Rattle.std.specs.Cmp.{IsTotalOrder}
use Rattle.std.specs.declared.cmp.Ordering.{Ordering}
use Rattle.std.specs.declared.cmp.Ordering.TheVariants.{Less, Equal, Greater}
use Rattle.fm_tuple.specs.Tuple.{tuple_sum}
use Rattle.fm_algebra.specs.Ring.{Ring}
use Rattle.fm_algebra.specs.Poly.{Poly, coeff}

-- a total order of the exponent tuples that respects sums; that it is a well-order plays no part here
pub record IsMonomialOrder (R : List ℕ → List ℕ → Ordering) : Type 0 where
  pub total : IsTotalOrder R
  pub exact : (a b : List ℕ) → R a b ≡ Equal → a ≡ b
  pub respects : (a b c : List ℕ) → length a ≡ length c → length b ≡ length c → R (tuple_sum a c) (tuple_sum b c) ≡ R a b

-- a is the head of f, the exponents of its leading monomial: the coefficient at a is not 0, and at every greater tuple it is
pub record IsHead {K : Ring} {n : ℕ} (R : List ℕ → List ℕ → Ordering) (f : Poly K n) (a : List ℕ) : Type 0 where
  pub fits : length a ≡ n
  pub nonzero : ¬ (coeff f a ≡ K.zero)
  pub zero_above : (b : List ℕ) → R b a ≡ Greater → coeff f b ≡ K.zero

-- every tuple of the list is less than a
abbrev pub AllLess : {C : Type 0} → (List ℕ → List ℕ → Ordering) → List ℕ → List (List ℕ × C) → Type 0
AllLess R a [] = Unit {0}
AllLess R a (t ∷ ts) = (R t.0 a ≡ Less) × AllLess R a ts

-- the tuples of the list fall strictly
abbrev pub IsFalling : {C : Type 0} → (List ℕ → List ℕ → Ordering) → List (List ℕ × C) → Type 0
IsFalling R [] = Unit {0}
IsFalling R (t ∷ ts) = AllLess R t.0 ts × IsFalling R ts

-- every tuple has n exponents, and no coefficient is zero
abbrev pub AreTerms : (K : Ring) (n : ℕ) → List (List ℕ × K.Carrier) → Type 0
AreTerms K n [] = Unit {0}
AreTerms K n (t ∷ ts) = (length t.0 ≡ n) × ¬ (t.1 ≡ K.zero) × AreTerms K n ts
