-- A polynomial is the sum of its terms: the places of its support, each of n exponents and with a coefficient that is not 0.
use Rattle.std.proofs.Common.{ℕ, ◌+◌, ◌%◌, ◌<◌, ◌&&◌, ◌≡◌, ◌⊎◌, inl, inr, if◌then◌else◌, Bool, true, false, T, List, [], ◌∷◌, map, length, Option, Some, None, refl, sym, ap, ◌∙◌, subst, arith, mod-eq_of_lt}
use Rattle.std.proofs.lemmas.Bool.{false≢true, or_left, or_right}
use Rattle.std.specs.Ordering.{is_lt, is_eq}
use Rattle.std.specs.List.{list_any}
use Rattle.std.specs.Cmp.{tied_itself}
use Rattle.std.specs.Cmp.Lexicographic.{nat_list_cmp_total}
use Rattle.std.specs.FinMap as maps
use Rattle.std.specs.FinMap.{is_sorted}
use Rattle.std.specs.Option.{unwrap_or}
use Rattle.std.specs.Prelude.{is_some}
use Rattle.std.proofs.Math.Nat.{zero-mod}
use native.Mathlib.Decide.{ℕ_discrete}
use Rattle.fm_gfp.specs.Primes.{prime_value}
use Rattle.fm_gfp.specs.declared.prime.Prime.{Prime}
use Rattle.fm_gfp.proofs.Residues.{prime_positive}
use Rattle.fm_algebra.specs.Gf.{gf, same_residue}
use Rattle.fm_algebra.specs.Poly.{coeff, tuple_cmp, tuple_eq, Among, same_tuple}
use Rattle.fm_algebra.specs.PolyRing.{support}
use Rattle.fm_algebra.specs.Polynomials.{Polynomial, coefficient, polynomial_of, listed_coefficient}
use Rattle.fm_algebra.proofs.Poly.{support_covers}
use Rattle.fm_algebra.proofs.PolynomialWords.{coefficient_below, same_coefficients}
use Rattle.fm_algebra.proofs.TermWords.{coefficient_of}

abbrev AreDistinct : List (List ℕ) → Type 0
AreDistinct [] = Unit {0}
AreDistinct (a ∷ rest) = (Among a rest → ⊥) × AreDistinct rest

t_first : (x y : Bool) → T (x && y) → T x
t_first true y h = tt
t_first false y h = h

t_second : (x y : Bool) → T (x && y) → T y
t_second true y h = h
t_second false y h = absurd h

above_all : {X : Type 0} (a : List ℕ) (es : List (List ℕ × X)) → T (maps.Entries.below_all tuple_cmp a es) → Among a (map (λ e. e.0) es) → ⊥
above_all a [] h i = i
above_all a (e ∷ es) h (inl s) = subst (λ o. T (is_lt o)) (ap (tuple_cmp a) (sym s) ∙ tied_itself nat_list_cmp_total a) (t_first (is_lt (tuple_cmp a e.0)) (maps.Entries.below_all tuple_cmp a es) h)
above_all a (e ∷ es) h (inr i) = above_all a es (t_second (is_lt (tuple_cmp a e.0)) (maps.Entries.below_all tuple_cmp a es) h) i

distinct_keys : {X : Type 0} (es : List (List ℕ × X)) → T (is_sorted tuple_cmp es) → AreDistinct (map (λ e. e.0) es)
distinct_keys [] h = tt
distinct_keys (e ∷ es) h = (
  above_all e.0 es (t_first (maps.Entries.below_all tuple_cmp e.0 es) (is_sorted tuple_cmp es) h),
  distinct_keys es (t_second (maps.Entries.below_all tuple_cmp e.0 es) (is_sorted tuple_cmp es) h),
)

any_among : (a : List ℕ) (ks : List (List ℕ)) → Among a ks → list_any (tuple_eq a) ks ≡ true
any_among a [] i = absurd i
any_among a (k ∷ ks) (inl e) = or_left (tuple_eq a k) (list_any (tuple_eq a) ks) (ap (tuple_eq a) (sym e) ∙ ap is_eq (tied_itself nat_list_cmp_total a))
any_among a (k ∷ ks) (inr i) = or_right (tuple_eq a k) (list_any (tuple_eq a) ks) (any_among a ks i)

module _ (p : Prime) (n : ℕ) (f : Polynomial p n) where
  distinct : AreDistinct (support f)
  distinct = distinct_keys (maps.entries f.terms) (maps.entries_sorted f.terms)

  some_number : (c : (gf p).Carrier) → ¬ (c ≡ (gf p).zero) → 0 < c.number
  some_number c w = elim (ℕ_discrete c.number 0) [ yes z ↦ absurd (w (same_residue c (gf p).zero (z ∙ sym (zero-mod (prime_value p))))) | no v ↦ omega (arith, v) ]

  -- a place has n exponents and a coefficient that isn't 0
  pub at_place : (a : List ℕ) → Among a (support f) → (length a ≡ n) × (0 < coefficient p n f a)
  unfolding coefficient coeff
  at_place a i = go (maps.get f.terms a) refl (maps.contains_key-keys f.terms a ∙ any_among a (support f) i)
    where
      go : (o : Option (gf p).Carrier) → maps.get f.terms a ≡ o → is_some (maps.get f.terms a) ≡ true → (length a ≡ n) × (0 < (unwrap_or (maps.get f.terms a) (gf p).zero).number)
      go None e s = absurd (false≢true (sym (ap is_some e) ∙ s))
      go (Some c) e s =
          let k = f.ok a c e in
          (k.0, subst (λ o. 0 < (unwrap_or o (gf p).zero).number) (sym e) (some_number c k.1))

  zero_coefficient : (b : List ℕ) → coeff f b ≡ (gf p).zero → coefficient p n f b ≡ 0
  unfolding coefficient
  zero_coefficient b z = ap (λ x. x.number) z ∙ zero-mod (prime_value p)

  abbrev listed : List (List ℕ) → List (List ℕ × ℕ)
  listed ks = map (λ a. (a, coefficient p n f a)) ks

  counted : (ks : List (List ℕ)) → AreDistinct ks → (b : List ℕ) → (Among b ks × (listed_coefficient (listed ks) b ≡ coefficient p n f b)) ⊎ ((Among b ks → ⊥) × (listed_coefficient (listed ks) b ≡ 0))
  counted [] d b = inr ((λ i. i), refl)
  counted (k ∷ ks) d b = elim (same_tuple b k) [
    | inl s ↦ inl (inl s.0, ap (λ x. (if x then coefficient p n f k else 0) + listed_coefficient (listed ks) b) s.1 ∙ none s.0 (counted ks d.1 b))
    | inr w ↦ elim (counted ks d.1 b) [
      | inl i ↦ inl (inr i.0, ap (λ x. (if x then coefficient p n f k else 0) + listed_coefficient (listed ks) b) w ∙ zero_plus (listed_coefficient (listed ks) b) ∙ i.1)
      | inr i ↦ inr ((λ j. elim j [ inl e ↦ other w e | inr h ↦ i.0 h ]), ap (λ x. (if x then coefficient p n f k else 0) + listed_coefficient (listed ks) b) w ∙ zero_plus (listed_coefficient (listed ks) b) ∙ i.1)
    ]
  ]
    where
      zero_plus : (x : ℕ) → 0 + x ≡ x
      zero_plus x = omega arith

      other : tuple_eq b k ≡ false → b ≡ k → ⊥
      other w e = false≢true (sym w ∙ ap (tuple_eq b) (sym e) ∙ ap is_eq (tied_itself nat_list_cmp_total b))

      plus_zero : (x y : ℕ) → y ≡ 0 → x + y ≡ x
      plus_zero x y e = omega arith

      none : b ≡ k → (Among b ks × (listed_coefficient (listed ks) b ≡ coefficient p n f b)) ⊎ ((Among b ks → ⊥) × (listed_coefficient (listed ks) b ≡ 0))
          → coefficient p n f k + listed_coefficient (listed ks) b ≡ coefficient p n f b
      none e (inl i) = absurd (d.0 (subst (λ x. Among x ks) e i.0))
      none e (inr i) = plus_zero (coefficient p n f k) (listed_coefficient (listed ks) b) i.1 ∙ ap (coefficient p n f) (sym e)

  -- a polynomial is the sum of its terms
  pub sum_of_places : polynomial_of p n (map (λ a. (a, coefficient p n f a)) (support f)) ≡ f
  sum_of_places = same_coefficients p n (polynomial_of p n (listed (support f))) f (λ b l. coefficient_of p n (listed (support f)) b l ∙ go b l (counted (support f) distinct b))
    where
      go : (b : List ℕ) → length b ≡ n → (Among b (support f) × (listed_coefficient (listed (support f)) b ≡ coefficient p n f b)) ⊎ ((Among b (support f) → ⊥) × (listed_coefficient (listed (support f)) b ≡ 0))
          → listed_coefficient (listed (support f)) b % prime_value p ≡ coefficient p n f b
      go b l (inl i) = ap (λ x. x % prime_value p) i.1 ∙ mod-eq_of_lt (coefficient_below p n f b)
      go b l (inr i) = elim (support_covers f b l) [
        | inl z ↦ ap (λ x. x % prime_value p) i.1 ∙ mod-eq_of_lt (prime_positive p) ∙ sym (zero_coefficient b z)
        | inr j ↦ absurd (i.0 j)
      ]
