-- Tuples q * b + a: their quotients and remainders, and the list of all tuples below q
use Rattle.std.proofs.Common.{◌≡◌, ℕ, zero, suc, ◌+◌, ◌*◌, ◌<◌, inl, List, [], ◌∷◌, map, length, replicate, refl, ap, ap₂, sym, ◌∙◌, arith, mod-lt, mod-eq_of_lt, subst}
use Rattle.std.proofs.Math.Nat.{div-add-mod, mul-add-mod_self_left}
use native.Mathlib.Nat.{mul-add-div, div-eq_of_lt, add-zero}
use native.Mathlib.Decide.{dec_lt, ℕ_discrete}
use Rattle.std.proofs.Math.Bridge.{le_prop}
use Rattle.fm_tuple.specs.Tuple.{tuple_multiple}
use Rattle.fm_tuple.proofs.Tuples.{length_tuple_sum, length_tuple_multiple}
use Rattle.fm_algebra.specs.Poly.{Among}
use Rattle.fm_algebra.specs.Twist.{tuple_place, tuple_quotient, tuple_remainder, AllBelow, with_first_below, tuples_below}
use Rattle.fm_algebra.proofs.PolyRing.{among_left, among_right, among_map}

pub length_quotient : (q : ℕ) (b : List ℕ) → length (tuple_quotient q b) ≡ length b
length_quotient q [] = refl
length_quotient q (i ∷ b) = ap suc (length_quotient q b)

pub length_remainder : (q : ℕ) (b : List ℕ) → length (tuple_remainder q b) ≡ length b
length_remainder q [] = refl
length_remainder q (i ∷ b) = ap suc (length_remainder q b)

pub remainder_below : (q : ℕ) → 0 < q → (b : List ℕ) → AllBelow q (tuple_remainder q b)
remainder_below q pos [] = tt
remainder_below q pos (i ∷ b) = (mod-lt i pos, remainder_below q pos b)

pub length_place : (q : ℕ) (b a : List ℕ) → length a ≡ length b → length (tuple_place q b a) ≡ length b
length_place q b a e = length_tuple_sum (tuple_multiple q b) a (length_tuple_multiple q b ∙ sym e) ∙ length_tuple_multiple q b

pub quotient_place : (q : ℕ) (b a : List ℕ) → length a ≡ length b → AllBelow q a → tuple_quotient q (tuple_place q b a) ≡ b
quotient_place q [] [] l w = refl
quotient_place q [] (r ∷ a) l w = absurd (omega arith)
quotient_place q (j ∷ b) [] l w = absurd (omega arith)
quotient_place q (j ∷ b) (r ∷ a) l w =
    let below : r < q = w.0 in
    ap₂ (λ x y. x ∷ y) (mul-add-div (omega arith) j r ∙ ap (λ x. j + x) (div-eq_of_lt below) ∙ add-zero j) (quotient_place q b a (omega arith) w.1)

pub remainder_place : (q : ℕ) (b a : List ℕ) → length a ≡ length b → AllBelow q a → tuple_remainder q (tuple_place q b a) ≡ a
remainder_place q [] [] l w = refl
remainder_place q [] (r ∷ a) l w = absurd (omega arith)
remainder_place q (j ∷ b) [] l w = absurd (omega arith)
remainder_place q (j ∷ b) (r ∷ a) l w = ap₂ (λ x y. x ∷ y) (mul-add-mod_self_left q j r ∙ mod-eq_of_lt w.0) (remainder_place q b a (omega arith) w.1)

pub place_parts : (q : ℕ) (c : List ℕ) → tuple_place q (tuple_quotient q c) (tuple_remainder q c) ≡ c
place_parts q [] = refl
place_parts q (i ∷ c) = ap₂ (λ x y. x ∷ y) (div-add-mod i q) (place_parts q c)

-- ---- the tuples below q
with_first : (q i : ℕ) (a : List ℕ) (ks : List (List ℕ)) → i < q → Among a ks → Among (i ∷ a) (with_first_below q ks)
unfolding with_first_below
with_first zero i a ks h w = absurd (omega arith)
with_first (suc q) i a ks h w = elim (ℕ_discrete i q) [
  | yes e ↦ among_left (i ∷ a) (map (λ b. q ∷ b) ks) (with_first_below q ks) (subst (λ x. Among (x ∷ a) (map (λ b. q ∷ b) ks)) (sym e) (among_map (λ b. q ∷ b) a ks w))
  | no v ↦ among_right (i ∷ a) (map (λ b. q ∷ b) ks) (with_first_below q ks) (with_first q i a ks (smaller i q h v) w)
]
  where
    smaller : (i q : ℕ) → i < suc q → ¬ (i ≡ q) → i < q
    smaller i q h v = omega arith

pub among_tuples_below : (n q : ℕ) (a : List ℕ) → length a ≡ n → AllBelow q a → Among a (tuples_below n q)
unfolding tuples_below
among_tuples_below zero q [] l w = inl refl
among_tuples_below zero q (i ∷ a) l w = absurd (omega arith)
among_tuples_below (suc n) q [] l w = absurd (omega arith)
among_tuples_below (suc n) q (i ∷ a) l w = with_first q i a (tuples_below n q) w.0 (among_tuples_below n q a (omega arith) w.1)

pub is_below : (q : ℕ) (a : List ℕ) → Dec (AllBelow q a)
is_below q [] = yes tt
is_below q (r ∷ a) = elim (dec_lt r q) [
  | no w ↦ no (λ b. w b.0)
  | yes h ↦ elim (is_below q a) [ yes b ↦ yes (h, b) | no w ↦ no (λ b. w b.1) ]
]

pub AllBelow-prop : (q : ℕ) (a : List ℕ) → IsProp (AllBelow q a)
AllBelow-prop q [] = hlevel le_prop
AllBelow-prop q (r ∷ a) = let rest : IsProp (AllBelow q a) = AllBelow-prop q a in hlevel (le_prop, rest)

-- ---- zeros
pub zeros_below : (n q : ℕ) → 0 < q → AllBelow q (replicate n 0)
zeros_below zero q pos = tt
zeros_below (suc n) q pos = (pos, zeros_below n q pos)

pub length_zeros : (n : ℕ) → length (replicate {A = ℕ} n 0) ≡ n
length_zeros zero = refl
length_zeros (suc n) = ap suc (length_zeros n)

pub place_zeros : (q n : ℕ) (b : List ℕ) → length b ≡ n → tuple_place q b (replicate n 0) ≡ tuple_multiple q b
place_zeros q zero [] l = refl
place_zeros q zero (j ∷ b) l = absurd (omega arith)
place_zeros q (suc n) [] l = absurd (omega arith)
place_zeros q (suc n) (j ∷ b) l = ap₂ (λ x y. x ∷ y) (add-zero (q * j)) (place_zeros q n b (omega arith))
