-- One test for all products with a monomial: the one with the greatest exponents
use Rattle.std.proofs.Common.{ℕ, zero, suc, ◌+◌, ◌≡◌, Bool, true, false, nat_le, max, List, [], ◌∷◌, length, replicate, ◌&&◌, refl, sym, ap, ap₂, ◌∙◌, arith}
use Rattle.std.specs.List.{list_all}
use Rattle.std.proofs.lemmas.Bool.Decides.{nat_tests}
use Rattle.fm_tuple.specs.Tuple.{tuple_sum, tuple_maximum}
use Rattle.fm_mono.specs.Bounded.{exponent_bound, is_bounded}

-- the greatest exponents of tuples of n numbers
abbrev pub greatest : ℕ → List (List ℕ) → List ℕ
greatest n [] = replicate n 0
greatest n (a ∷ bs) = tuple_maximum a (greatest n bs)

abbrev pub AreLong : ℕ → List (List ℕ) → Type 0
AreLong n [] = Unit {0}
AreLong n (a ∷ bs) = (length a ≡ n) × AreLong n bs

within_maximum : (e m i j : ℕ) → nat_le (m + max i j) e ≡ (nat_le (m + i) e && nat_le (m + j) e)
within_maximum e m i j = grind (arith, nat_tests)

swapped : (p q r s : Bool) → ((p && q) && (r && s)) ≡ ((p && r) && (q && s))
swapped true q true s = refl
swapped true true false s = refl
swapped true false false s = refl
swapped false q r s = refl

sum_maximum : (m a b : List ℕ) → length a ≡ length m → length b ≡ length m
    → is_bounded (tuple_sum m (tuple_maximum a b)) ≡ (is_bounded (tuple_sum m a) && is_bounded (tuple_sum m b))
sum_maximum [] a b la lb = refl
sum_maximum (k ∷ m) [] b la lb = absurd (omega arith)
sum_maximum (k ∷ m) (i ∷ a) [] la lb = absurd (omega arith)
sum_maximum (k ∷ m) (i ∷ a) (j ∷ b) la lb =
    ap₂ ◌&&◌ (within_maximum exponent_bound k i j) (sum_maximum m a b (omega arith) (omega arith))
    ∙ swapped (nat_le (k + i) exponent_bound) (nat_le (k + j) exponent_bound) (is_bounded (tuple_sum m a)) (is_bounded (tuple_sum m b))

plus_zeros : (m : List ℕ) → tuple_sum m (replicate (length m) 0) ≡ m
plus_zeros [] = refl
plus_zeros (k ∷ m) = let plain : k + 0 ≡ k = omega arith in ap₂ (λ x y. x ∷ y) plain (plus_zeros m)

length_maximum : (n : ℕ) (a b : List ℕ) → length a ≡ n → length b ≡ n → length (tuple_maximum a b) ≡ n
length_maximum n [] b la lb = la
length_maximum n (i ∷ a) [] la lb = absurd (omega arith)
length_maximum zero (i ∷ a) (j ∷ b) la lb = absurd (omega arith)
length_maximum (suc n) (i ∷ a) (j ∷ b) la lb = let later = length_maximum n a b (omega arith) (omega arith) in omega arith

zeros_long : (n : ℕ) → length (replicate {A = ℕ} n 0) ≡ n
zeros_long zero = refl
zeros_long (suc n) = let later = zeros_long n in omega arith

length_greatest : (n : ℕ) (bs : List (List ℕ)) → AreLong n bs → length (greatest n bs) ≡ n
length_greatest n [] long = zeros_long n
length_greatest n (a ∷ bs) long = length_maximum n a (greatest n bs) long.0 (length_greatest n bs long.1)

-- every product with m is within the bound exactly where that with the greatest exponents is
pub one_test : (m : List ℕ) (bs : List (List ℕ)) → is_bounded m ≡ true → AreLong (length m) bs
    → list_all (λ a. is_bounded (tuple_sum m a)) bs ≡ is_bounded (tuple_sum m (greatest (length m) bs))
one_test m [] within long = sym (ap is_bounded (plus_zeros m) ∙ within)
one_test m (a ∷ bs) within long =
    ap (λ x. is_bounded (tuple_sum m a) && x) (one_test m bs within long.1)
    ∙ sym (sum_maximum m a (greatest (length m) bs) long.0 (length_greatest (length m) bs long.1))
