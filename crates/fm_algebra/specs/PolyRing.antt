-- The ring of polynomials over a ring K in n variables: every operation is given by the coefficients of its result.
use Rattle.std.specs.Prelude.{ℕ, List, [], ◌∷◌, ◌++◌, map, ◌≡◌, replicate}
use Rattle.std.specs.FinMap as maps
use Rattle.fm_tuple.specs.Tuple.{tuple_sum}
use Rattle.fm_algebra.specs.Ring.{Ring}
use Rattle.fm_algebra.specs.Series.{series, plus, times, unit}
use Rattle.fm_algebra.specs.Poly.{Poly, coeff, polynomial}

-- the sums b + c with b of the first list and c of the second
unfoldable pub tuple_sums : List (List ℕ) → List (List ℕ) → List (List ℕ)
tuple_sums [] cs = []
tuple_sums (b ∷ bs) cs = map (tuple_sum b) cs ++ tuple_sums bs cs

-- the tuples at which a polynomial has a term
abbrev pub support : {K : Ring} {n : ℕ} → Poly K n → List (List ℕ)
support f = maps.keys f.terms

module _ (K : Ring) (is_zero : (c : K.Carrier) → Dec (c ≡ K.zero)) (n : ℕ) where
  -- the coefficient of f + g at a is the sum of both; that of f * g is the sum of f b * g c over all b and c with b + c = a
  abbrev pub poly : Ring
  poly = record {
    Carrier = Poly K n;
    zero = polynomial K is_zero n (series K).zero [];
    one = polynomial K is_zero n (unit K) (replicate n 0 ∷ []);
    add = λ f g. polynomial K is_zero n (plus K (coeff f) (coeff g)) (support f ++ support g);
    mul = λ f g. polynomial K is_zero n (times K (coeff f) (coeff g)) (tuple_sums (support f) (support g));
    neg = λ f. polynomial K is_zero n ((series K).neg (coeff f)) (support f);
  }

  -- c * f
  unfoldable pub multiple : K.Carrier → Poly K n → Poly K n
  multiple c f = polynomial K is_zero n (λ a. K.mul c (coeff f a)) (support f)
