-- Comparisons of two places at a time, as one number
use Rattle.std.proofs.Common.{ℕ, suc, ◌+◌, ◌-◌, ◌<◌, ◌≤◌, ◌≡◌, inl, inr, List, [], ◌∷◌, ◌++◌, length, take, replicate, get_or, refl, sym, ap, ap₂, ◌∙◌, subst, arith}
use mathlib.Core.List.{reverse_aux}
use Rattle.std.specs.Ordering.{nat_cmp, flip_args, ordering_then}
use Rattle.std.specs.Cmp.Lexicographic.{slice_cmp}
use Rattle.std.proofs.lemmas.Bool.{cases_eq}
use Rattle.std.proofs.lemmas.Cmp.{nat_cmp_total, tied_itself}
use Rattle.fm_mono.specs.Orders.{first_cmp, last_cmp}
use Rattle.fm_mono.specs.Packed.{IsPacked, pair_word}
use Rattle.fm_mono.specs.declared.mono.Mono.TheInside.{Inside}
use Rattle.fm_mono.proofs.Packing.{left_padded, right_padded}
use Rattle.fm_mono.proofs.OrderLaws.{nat_cmp_alike}
use Rattle.fm_mono.proofs.FirstVariable.{first_cmp_at, first_cmp_none}
use Rattle.fm_mono.proofs.LastVariable.{common, last_cmp_at}

-- ---- a word of two places, each below 2^32
module _ (u v x y : ℕ) (u_small : u < 4294967296) (v_small : v < 4294967296) where
  high_decides : (x ≡ y → ⊥) → nat_cmp (pair_word u x) (pair_word v y) ≡ nat_cmp x y
  high_decides differ = nat_cmp_alike x y (pair_word u x) (pair_word v y) (λ h. omega arith) (λ h. absurd (differ h)) (λ h. omega arith)

  low_decides : x ≡ y → nat_cmp (pair_word u x) (pair_word v y) ≡ nat_cmp u v
  low_decides same = nat_cmp_alike u v (pair_word u x) (pair_word v y) (λ h. omega arith) (λ h. omega arith) (λ h. omega arith)

  pub high_same : pair_word u x ≡ pair_word v y → x ≡ y
  high_same h = omega arith

  pub low_same : pair_word u x ≡ pair_word v y → u ≡ v
  low_same h = omega arith

-- ---- lists of eight places
abbrev pub AreSmall : List ℕ → Type 0
AreSmall xs = (k : ℕ) → get_or xs k 0 < 4294967296

-- the first pair that differs decides
pub first_decides : (a b : List ℕ) (i : ℕ) → length b ≡ length a → i + 1 < length a → AreSmall a → AreSmall b → ((j : ℕ) → j < i → get_or a j 0 ≡ get_or b j 0)
    → (pair_word (get_or a (i + 1) 0) (get_or a i 0) ≡ pair_word (get_or b (i + 1) 0) (get_or b i 0) → ⊥)
    → nat_cmp (pair_word (get_or a (i + 1) 0) (get_or a i 0)) (pair_word (get_or b (i + 1) 0) (get_or b i 0)) ≡ first_cmp a b
first_decides a b i l below small_a small_b same differ = elim (cases_eq (get_or a i 0) (get_or b i 0)) [
  | inl tie ↦ low_decides _ _ _ _ (small_a (i + 1)) (small_b (i + 1)) tie
      ∙ first_cmp_at a b (i + 1) l below (λ h. differ (ap₂ pair_word h tie)) (λ j before. upto j tie (omega arith))
  | inr far ↦ high_decides _ _ _ _ (small_a (i + 1)) (small_b (i + 1)) far ∙ first_cmp_at a b i l (omega arith) far same
]
  where
    upto : (j : ℕ) → get_or a i 0 ≡ get_or b i 0 → j ≤ i → get_or a j 0 ≡ get_or b j 0
    upto j tie within = elim (cases_eq j i) [
      | inl here ↦ subst (λ k. get_or a k 0 ≡ get_or b k 0) (sym here) tie
      | inr before ↦ same j (omega arith)
    ]

-- the last pair that differs decides
pub last_decides : (a b : List ℕ) (i n : ℕ) → n ≡ i + 1 → length b ≡ length a → n < length a → AreSmall a → AreSmall b
    → ((j : ℕ) → suc n ≤ j → get_or a j 0 ≡ get_or b j 0)
    → (pair_word (get_or a i 0) (get_or a n 0) ≡ pair_word (get_or b i 0) (get_or b n 0) → ⊥)
    → nat_cmp (pair_word (get_or b i 0) (get_or b n 0)) (pair_word (get_or a i 0) (get_or a n 0)) ≡ last_cmp a b
last_decides a b i n next l below small_a small_b same differ = elim (cases_eq (get_or a n 0) (get_or b n 0)) [
  | inl tie ↦ low_decides _ _ _ _ (small_b i) (small_a i) (sym tie)
      ∙ last_cmp_at a b i l (omega arith) (λ h. differ (ap₂ pair_word h tie)) (λ j later. from j tie (omega arith))
  | inr far ↦ high_decides _ _ _ _ (small_b i) (small_a i) (λ h. far (sym h)) ∙ last_cmp_at a b n l below far same
]
  where
    from : (j : ℕ) → get_or a n 0 ≡ get_or b n 0 → n ≤ j → get_or a j 0 ≡ get_or b j 0
    from j tie within = elim (cases_eq j n) [
      | inl here ↦ subst (λ k. get_or a k 0 ≡ get_or b k 0) (sym here) tie
      | inr later ↦ same j (omega arith)
    ]

-- ---- zeros behind the exponents
behind : (a z u : List ℕ) → reverse_aux (a ++ z) u ≡ reverse_aux z (reverse_aux a u)
behind [] z u = refl
behind (i ∷ a) z u = behind a z (i ∷ u)

padded_last : (a b z : List ℕ) → last_cmp (a ++ z) (b ++ z) ≡ last_cmp a b
padded_last a b z =
    ap₂ (slice_cmp (flip_args nat_cmp)) (behind a z []) (behind b z [])
    ∙ common (flip_args nat_cmp) (λ i. tied_itself nat_cmp_total i) z (reverse_aux a []) (reverse_aux b [])

padded_first : (a b z : List ℕ) → length b ≡ length a → first_cmp (a ++ z) (b ++ z) ≡ first_cmp a b
padded_first [] [] z l = sym (first_cmp_none z z refl (λ j below. refl))
padded_first [] (j ∷ b) z l = absurd (omega arith)
padded_first (i ∷ a) [] z l = absurd (omega arith)
padded_first (i ∷ a) (j ∷ b) z l = ap (ordering_then (nat_cmp i j)) (padded_first a b z (omega arith))

pub packed_last : (m k : Inside) (a b : List ℕ) → IsPacked m → IsPacked k → take m.vars m.exponents ≡ a → take k.vars k.exponents ≡ b → length b ≡ length a
    → last_cmp m.exponents k.exponents ≡ last_cmp a b
packed_last m k a b packed_m packed_k m_is k_is l =
    ap₂ last_cmp (left_padded m k a b packed_m packed_k m_is k_is l) (right_padded m k a b packed_m packed_k m_is k_is l)
    ∙ padded_last a b (replicate (8 - m.vars) 0)

pub packed_first : (m k : Inside) (a b : List ℕ) → IsPacked m → IsPacked k → take m.vars m.exponents ≡ a → take k.vars k.exponents ≡ b → length b ≡ length a
    → first_cmp m.exponents k.exponents ≡ first_cmp a b
packed_first m k a b packed_m packed_k m_is k_is l =
    ap₂ first_cmp (left_padded m k a b packed_m packed_k m_is k_is l) (right_padded m k a b packed_m packed_k m_is k_is l)
    ∙ padded_first a b (replicate (8 - m.vars) 0) l
