-- Polynomials over a ring K in n variables (Lang, Algebra, chapter II, section 3).
use Rattle.std.specs.Prelude.{◌≡◌, ℕ, List, [], ◌∷◌, length, Bool, Option, Some, None, ◌⊎◌, T, true, false, cond}
use Rattle.std.specs.Ordering.{nat_cmp, eq_by_cmp, is_eq}
use Rattle.std.specs.declared.cmp.Ordering.{Ordering}
use Rattle.std.specs.declared.cmp.Ordering.TheVariants.{Less, Equal, Greater}
use Rattle.std.specs.Cmp.{tied_itself}
use Rattle.std.specs.Cmp.Lexicographic.{slice_cmp, nat_list_cmp_total}
use Rattle.std.specs.Option.{unwrap_or}
use Rattle.std.specs.FinMap as maps
use Rattle.std.specs.FinMap.{FinMap, nat_cmp-IsAntisymmetric, slice_cmp-IsAntisymmetric}
use mathlib.Core.Path.{refl, sym, ap, ◌∙◌, subst}
use mathlib.Core.Logic.{inl, inr}
use native.Mathlib.Decide.{ℕ_discrete}
use Rattle.fm_algebra.specs.Ring.{Ring}
use Rattle.fm_algebra.specs.Series.{Series}

-- an order of the tuples in which a map keeps its keys; it has no other meaning
abbrev pub tuple_cmp : List ℕ → List ℕ → Ordering
tuple_cmp = slice_cmp nat_cmp

-- whether two tuples are equal
abbrev pub tuple_eq : List ℕ → List ℕ → Bool
tuple_eq a b = eq_by_cmp tuple_cmp a b

-- a polynomial: a finite map from tuples of n exponents to coefficients that are not 0
pub record Poly (K : Ring) (n : ℕ) : Type 0 where
  pub terms : FinMap tuple_cmp K.Carrier
  pub ok : (a : List ℕ) (c : K.Carrier) → maps.get terms a ≡ Some c → (length a ≡ n) × ¬ (c ≡ K.zero)

-- the coefficient at a tuple: 0 where the map has none
unfoldable pub coeff : {K : Ring} {n : ℕ} → Poly K n → Series K
coeff {K} f a = unwrap_or (maps.get f.terms a) K.zero

-- ---- a polynomial by its coefficients is `polynomial h ks`, at the end; what it needs comes first
-- unequal tuples are unequal as keys
pub apart : (a b : List ℕ) → eq_by_cmp tuple_cmp a b ≡ false → ¬ (a ≡ b)
apart a b n e = subst T (sym (ap is_eq (tied_itself nat_list_cmp_total b)) ∙ ap (λ x. eq_by_cmp tuple_cmp x b) (sym e) ∙ n) tt

-- a is one of the listed tuples
abbrev pub Among : List ℕ → List (List ℕ) → Type 0
Among a [] = ⊥
Among a (b ∷ bs) = (a ≡ b) ⊎ Among a bs

-- two tuples are equal, or unequal as keys
tie : (a b : List ℕ) (r : Ordering) → tuple_cmp a b ≡ r → ((a ≡ b) × (eq_by_cmp tuple_cmp a b ≡ true)) ⊎ (eq_by_cmp tuple_cmp a b ≡ false)
tie a b Less e = inr (ap is_eq e)
tie a b Equal e = inl (slice_cmp-IsAntisymmetric nat_cmp-IsAntisymmetric a b e, ap is_eq e)
tie a b Greater e = inr (ap is_eq e)

pub same_tuple : (a b : List ℕ) → ((a ≡ b) × (eq_by_cmp tuple_cmp a b ≡ true)) ⊎ (eq_by_cmp tuple_cmp a b ≡ false)
same_tuple a b = tie a b (tuple_cmp a b) refl

abbrev HasNone : {A : Type 0} → Option A → Type 0
HasNone None = Unit {0}
HasNone (Some c) = ⊥

pub None≢Some : {A : Type 0} {c : A} → ¬ (None ≡ Some c)
None≢Some e = subst HasNone e tt

pub Some-same : {A : Type 0} {c d : A} → Some c ≡ Some d → c ≡ d
Some-same {c = c} e = ap (λ o. unwrap_or o c) e

module _ (K : Ring) (is_zero : (c : K.Carrier) → Dec (c ≡ K.zero)) where
  -- the map with c at a, unless c is 0
  with_term : (a : List ℕ) (c : K.Carrier) → Dec (c ≡ K.zero) → FinMap tuple_cmp K.Carrier → FinMap tuple_cmp K.Carrier
  with_term a c (yes z) m = m
  with_term a c (no z) m = maps.insert m a c

  -- the values of h at the tuples of a list, but for zeros
  pub table : Series K → List (List ℕ) → FinMap tuple_cmp K.Carrier
  table h [] = maps.empty
  table h (a ∷ ks) = with_term a (h a) (is_zero (h a)) (table h ks)

  get-with_term : (h : Series K) (a q : List ℕ) (d : Dec (h a ≡ K.zero)) (m : FinMap tuple_cmp K.Carrier)
      → ((maps.get (with_term a (h a) d m) q ≡ maps.get m q) × (q ≡ a → h a ≡ K.zero))
      ⊎ ((q ≡ a) × ¬ (h a ≡ K.zero) × (maps.get (with_term a (h a) d m) q ≡ Some (h q)))
  unfolding with_term
  get-with_term h a q (yes z) m = inl (refl, λ e. z)
  get-with_term h a q (no z) m = elim (same_tuple q a) [
    | inl s ↦ inr (s.0, z, maps.get-insert nat_list_cmp_total m a (h a) q ∙ ap (λ b. cond b (Some (h a)) (maps.get m q)) s.1 ∙ ap (λ x. Some (h x)) (sym s.0))
    | inr n ↦ inl (
      maps.get-insert nat_list_cmp_total m a (h a) q ∙ ap (λ b. cond b (Some (h a)) (maps.get m q)) n,
      λ e. absurd (apart q a n e),
    )
  ]

  -- what the table has at a tuple
  pub get-table : (h : Series K) (ks : List (List ℕ)) (q : List ℕ)
      → ((maps.get (table h ks) q ≡ None) × (Among q ks → h q ≡ K.zero)) ⊎ (¬ (h q ≡ K.zero) × (maps.get (table h ks) q ≡ Some (h q)))
  unfolding table
  get-table h [] q = inl (maps.get-empty tuple_cmp q, λ z. absurd z)
  get-table h (a ∷ ks) q = elim (get-with_term h a q (is_zero (h a)) (table h ks)) [
    | inr s ↦ inr ((λ z. s.1 (ap h (sym s.0) ∙ z)), s.2)
    | inl e ↦ elim (get-table h ks q) [
      | inl r ↦ inl (e.0 ∙ r.0, λ z. elim z [ inl i ↦ ap h i ∙ e.1 i | inr w ↦ r.1 w ])
      | inr s ↦ inr (s.0, e.0 ∙ s.1)
    ]
  ]

  module _ (n : ℕ) where
    -- h at tuples of n exponents, and 0 at all others
    abbrev pub restrict_by : Series K → (a : List ℕ) → Dec (length a ≡ n) → K.Carrier
    restrict_by h a (yes e) = h a
    restrict_by h a (no e) = K.zero

    -- the same, the length decided
    abbrev pub restrict : Series K → Series K
    restrict h a = restrict_by h a (ℕ_discrete (length a) n)

    pub restrict-length : (h : Series K) (a : List ℕ) (d : Dec (length a ≡ n)) → ¬ (restrict_by h a d ≡ K.zero) → length a ≡ n
    restrict-length h a (yes e) nz = e
    restrict-length h a (no e) nz = absurd (nz refl)

    -- the polynomial with the coefficients of h at the listed tuples of n exponents, and 0 elsewhere
    unfoldable pub polynomial : Series K → List (List ℕ) → Poly K n
    polynomial h ks = record {
      terms = table (restrict h) ks;
      ok = λ a c e. elim (get-table (restrict h) ks a) [
        | inl r ↦ absurd (None≢Some (sym r.0 ∙ e))
        | inr s ↦ (restrict-length h a (ℕ_discrete (length a) n) s.0, λ z. s.0 (Some-same (sym s.1 ∙ e) ∙ z))
      ];
    }
