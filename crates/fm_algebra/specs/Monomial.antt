-- Monomials with a coefficient, and the meaning of a list of terms.
use Rattle.std.specs.Prelude.{◌≡◌, ℕ, List, [], ◌∷◌, Bool, true, false}
use Rattle.std.specs.Ordering.{eq_by_cmp}
use Rattle.fm_algebra.specs.Ring.{Ring}
use Rattle.fm_algebra.specs.Series.{Series}
use Rattle.fm_algebra.specs.Poly.{Poly, polynomial, tuple_cmp}
use Rattle.fm_algebra.specs.PolyRing.{poly}

module _ (K : Ring) where
  -- c where the test holds, and else 0
  abbrev pub where_true : Bool → K.Carrier → K.Carrier
  where_true true c = c
  where_true false c = K.zero

  -- c at the tuple a, and 0 elsewhere
  unfoldable pub single : K.Carrier → List ℕ → Series K
  single c a b = where_true (eq_by_cmp tuple_cmp b a) c

  module _ (is_zero : (c : K.Carrier) → Dec (c ≡ K.zero)) (n : ℕ) where
    -- c * x ^ a, where a has n exponents; where it has not, 0
    unfoldable pub monomial : K.Carrier → List ℕ → Poly K n
    monomial c a = polynomial K is_zero n (single c a) (a ∷ [])

    -- the sum of the terms of a list, each an exponent tuple and a coefficient
    unfoldable pub sum_of_terms : List (List ℕ × K.Carrier) → Poly K n
    sum_of_terms [] = (poly K is_zero n).zero
    sum_of_terms (t ∷ ts) = (poly K is_zero n).add (monomial t.1 t.0) (sum_of_terms ts)
