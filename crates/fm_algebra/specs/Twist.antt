-- Twists and slices of polynomials (Kunz, Characterizations of regular local rings of characteristic p, American Journal of Mathematics 91, 1969).
use Rattle.std.specs.Prelude.{ℕ, zero, suc, ◌/◌, ◌%◌, ◌<◌, List, [], ◌∷◌, ◌++◌, map, length, ◌≡◌}
use Rattle.fm_tuple.specs.Tuple.{tuple_sum, tuple_multiple}
use Rattle.fm_algebra.specs.Ring.{Ring}
use Rattle.fm_algebra.specs.Series.{Series}
use Rattle.fm_algebra.specs.Poly.{Poly, coeff, polynomial}
use Rattle.fm_algebra.specs.PolyRing.{support}

-- q * b + a
abbrev pub tuple_place : ℕ → List ℕ → List ℕ → List ℕ
tuple_place q b a = tuple_sum (tuple_multiple q b) a

-- each entry divided by q with remainder: the quotients, and the remainders
abbrev pub tuple_quotient : ℕ → List ℕ → List ℕ
tuple_quotient q a = map (λ i. i / q) a

abbrev pub tuple_remainder : ℕ → List ℕ → List ℕ
tuple_remainder q a = map (λ i. i % q) a

-- each entry is below q
abbrev pub AllBelow : ℕ → List ℕ → Type 0
AllBelow q [] = Unit {0}
AllBelow q (r ∷ a) = (r < q) × AllBelow q a

-- a tuple of n numbers below q
pub record Digits (n q : ℕ) : Type 0 where
  pub tuple : List ℕ
  pub fits : length tuple ≡ n
  pub below : AllBelow q tuple

-- the tuples i ∷ a with i below q and a of a list
unfoldable pub with_first_below : ℕ → List (List ℕ) → List (List ℕ)
with_first_below zero ks = []
with_first_below (suc i) ks = map (λ a. i ∷ a) ks ++ with_first_below i ks

-- the list of all tuples of n numbers below q
unfoldable pub tuples_below : ℕ → ℕ → List (List ℕ)
tuples_below zero q = [] ∷ []
tuples_below (suc n) q = with_first_below q (tuples_below n q)

module _ (K : Ring) where
  -- c where the remainder is 0, and else 0
  abbrev pub where_zero : ℕ → K.Carrier → K.Carrier
  where_zero zero c = c
  where_zero (suc r) c = K.zero

  -- the coefficient at q * b is that of h at b; at a tuple that is no q * b it is 0
  unfoldable pub twisted : ℕ → Series K → Series K
  twisted q h [] = h []
  twisted q h (k ∷ a) = where_zero (k % q) (twisted q (λ b. h (k / q ∷ b)) a)

  module _ (is_zero : (c : K.Carrier) → Dec (c ≡ K.zero)) (n : ℕ) where
    -- the twist: f with every exponent multiplied by q
    unfoldable pub twist : ℕ → Poly K n → Poly K n
    twist q f = polynomial K is_zero n (twisted q (coeff f)) (map (tuple_multiple q) (support f))

    -- the slice of f at a: its coefficient at b is that of f at q * b + a, so that f is the sum of all x ^ a * (slice at a)^[q] with a below q
    unfoldable pub slice : ℕ → List ℕ → Poly K n → Poly K n
    slice q a f = polynomial K is_zero n (λ b. coeff f (tuple_place q b a)) (map (tuple_quotient q) (support f))
