-- The places of keys in their order.
use Rattle.std.proofs.Common.{ℕ, zero, suc, ◌+◌, ◌≡◌, Bool, true, false, ◌&&◌, ◌||◌, if◌then◌else◌, nat_eq, List, [], ◌∷◌, ◌++◌, map, length, Option, Some, None, refl, sym, ap, ap₂, ◌∙◌, arith}
use Rattle.std.specs.List.{list_any, position_or_len, prefix_len}
use Rattle.std.specs.Prelude.{not}
use Rattle.std.proofs.lemmas.Bool.{eqb-true, eq-eqb}
use Rattle.std.proofs.lemmas.List.{length-map, map-append}
use Rattle.fm_words.specs.Parts.{Bytes}
use Rattle.fm_words.specs.Words.{same_bytes}
use Rattle.fm_standard.specs.Writing.{place_from}

abbrev number_or_none : Bool → ℕ → Option ℕ
number_or_none true n = Some n
number_or_none false n = None

module _ {K A : Type 0} (view : K → A) (same : K → Bool) (test : A → Bool) (agree : (k : K) → same k ≡ test (view k)) where
  placed : (n : ℕ) (keys : List K) → place_from n test (map view keys) ≡ number_or_none (list_any same keys) (n + suc (position_or_len same keys))
  placed n [] = refl
  placed n (key ∷ keys) = by (same key) (sym (agree key)) (placed (suc n) keys)
    where
      by : (t : Bool) → test (view key) ≡ t → place_from (suc n) test (map view keys) ≡ number_or_none (list_any same keys) (suc n + suc (position_or_len same keys))
          → (if test (view key) then Some (suc n) else place_from (suc n) test (map view keys))
          ≡ number_or_none (t || list_any same keys) (n + suc (if not t then 1 + prefix_len (λ x. not (same x)) keys else 0))
      by true is rest = rw is (ap Some (omega arith))
      by false is rest = rw is (rest ∙ ap (number_or_none (list_any same keys)) (omega arith))

  all_before : (ks : List K) → list_any same ks ≡ false → position_or_len same ks ≡ length ks
  all_before [] e = refl
  all_before (k ∷ ks) e = by (same k) refl e (all_before ks)
    where
      by : (t : Bool) → same k ≡ t → (t || list_any same ks) ≡ false → (list_any same ks ≡ false → position_or_len same ks ≡ length ks)
          → (if not t then 1 + prefix_len (λ x. not (same x)) ks else 0) ≡ suc (length ks)
      by true is e rest = absurd (let f : true ≡ false = e in cc)
      by false is e rest = let f = rest e in omega (arith, f)

  module _ (old new : List K) (key : K) (place : ℕ) (keys : new ≡ (if list_any same old then old else old ++ key ∷ [])) (index : place ≡ position_or_len same old) where
    -- a new key has no number, and is the last of the keys then
    pub new_key : list_any same old ≡ false
        → (place_from zero test (map view old) ≡ None) × (map view new ≡ map view old ++ view key ∷ []) × (place ≡ length (map view old))
    new_key is = (
      placed zero old ∙ ap (λ t. number_or_none t (zero + suc (position_or_len same old))) is,
      ap (map view) (keys ∙ ap (λ (t : Bool). if t then old else old ++ key ∷ []) is) ∙ map-append view old (key ∷ []),
      index ∙ all_before old is ∙ sym (length-map old view),
    )

    -- a key that is there has its number
    pub known_key : list_any same old ≡ true → (place_from zero test (map view old) ≡ Some (place + 1)) × (map view new ≡ map view old)
    known_key is = (
      placed zero old ∙ ap (λ t. number_or_none t (zero + suc (position_or_len same old))) is ∙ ap Some (omega (arith, index)),
      ap (map view) (keys ∙ ap (λ (t : Bool). if t then old else old ++ key ∷ []) is),
    )

pub turned : (t s : Bool) → not t ≡ not s → t ≡ s
turned true true e = refl
turned false false e = refl
turned true false e = sym e
turned false true e = sym e

-- ---- equality of texts
nat_eq_turned : (m n : ℕ) → nat_eq m n ≡ nat_eq n m
nat_eq_turned m n = by (nat_eq m n) (nat_eq n m) refl refl
  where
    by : (s t : Bool) → nat_eq m n ≡ s → nat_eq n m ≡ t → s ≡ t
    by true true e f = refl
    by false false e f = refl
    by true false e f = sym (eq-eqb n m (sym (eqb-true m n e))) ∙ f
    by false true e f = sym e ∙ eq-eqb m n (sym (eqb-true n m f))

pub bytes_turned : (x y : Bytes) → same_bytes x y ≡ same_bytes y x
bytes_turned [] [] = refl
bytes_turned [] (b ∷ y) = refl
bytes_turned (a ∷ x) [] = refl
bytes_turned (a ∷ x) (b ∷ y) = ap₂ (λ s t. s && t) (nat_eq_turned a b) (bytes_turned x y)

pub numbers_turned : (m n : ℕ) → nat_eq m n ≡ nat_eq n m
numbers_turned m n = nat_eq_turned m n

-- ---- numbers
self_map : (xs : List ℕ) → map (λ x. x) xs ≡ xs
self_map [] = refl
self_map (x ∷ xs) = ap (λ ys. x ∷ ys) (self_map xs)

module _ (old new : List ℕ) (key place : ℕ) (keys : new ≡ (if list_any (nat_eq key) old then old else old ++ key ∷ [])) (index : place ≡ position_or_len (nat_eq key) old) where
  pub new_number : list_any (nat_eq key) old ≡ false → (place_from zero (λ j. nat_eq j key) old ≡ None) × (new ≡ old ++ key ∷ []) × (place ≡ length old)
  new_number is =
      let k = new_key (λ x. x) (nat_eq key) (λ j. nat_eq j key) (λ j. nat_eq_turned key j) old new key place keys index is in
      (ap (place_from zero (λ j. nat_eq j key)) (sym (self_map old)) ∙ k.0, sym (self_map new) ∙ k.1 ∙ ap (λ xs. xs ++ key ∷ []) (self_map old), k.2 ∙ ap length (self_map old))

  pub known_number : list_any (nat_eq key) old ≡ true → (place_from zero (λ j. nat_eq j key) old ≡ Some (place + 1)) × (new ≡ old)
  known_number is =
      let k = known_key (λ x. x) (nat_eq key) (λ j. nat_eq j key) (λ j. nat_eq_turned key j) old new key place keys index is in
      (ap (place_from zero (λ j. nat_eq j key)) (sym (self_map old)) ∙ k.0, sym (self_map new) ∙ k.1 ∙ self_map old)
