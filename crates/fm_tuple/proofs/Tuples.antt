-- Laws of sums and multiples of exponent tuples
use Rattle.std.proofs.Common.{ℕ, ◌+◌, ◌-◌, ◌*◌, ◌≤◌, ◌≡◌, List, [], ◌∷◌, length, replicate, refl, ap₂, arith, mul-add}
use Rattle.std.proofs.Math.Nat.{mul_assoc}
use Rattle.fm_tuple.specs.Tuple.{tuple_sum, tuple_multiple, tuple_difference, TupleDivides}

pub length_tuple_sum : (a b : List ℕ) → length a ≡ length b → length (tuple_sum a b) ≡ length a
length_tuple_sum [] b e = refl
length_tuple_sum (i ∷ a) [] e = absurd (omega arith)
length_tuple_sum (i ∷ a) (j ∷ b) e = let h : length (tuple_sum a b) ≡ length a = length_tuple_sum a b (omega arith) in omega arith

pub length_tuple_multiple : (q : ℕ) (a : List ℕ) → length (tuple_multiple q a) ≡ length a
length_tuple_multiple q [] = refl
length_tuple_multiple q (i ∷ a) = let h : length (tuple_multiple q a) ≡ length a = length_tuple_multiple q a in omega arith

pub tuple_sum_comm : (a b : List ℕ) → length a ≡ length b → tuple_sum a b ≡ tuple_sum b a
tuple_sum_comm [] [] e = refl
tuple_sum_comm [] (j ∷ b) e = absurd (omega arith)
tuple_sum_comm (i ∷ a) [] e = absurd (omega arith)
tuple_sum_comm (i ∷ a) (j ∷ b) e =
    let head : i + j ≡ j + i = omega arith in
    ap₂ (λ x y. x ∷ y) head (tuple_sum_comm a b (omega arith))

pub tuple_sum_assoc : (a b c : List ℕ) → tuple_sum (tuple_sum a b) c ≡ tuple_sum a (tuple_sum b c)
tuple_sum_assoc [] b c = refl
tuple_sum_assoc (i ∷ a) [] c = refl
tuple_sum_assoc (i ∷ a) (j ∷ b) [] = refl
tuple_sum_assoc (i ∷ a) (j ∷ b) (k ∷ c) =
    let head : (i + j) + k ≡ i + (j + k) = omega arith in
    ap₂ (λ x y. x ∷ y) head (tuple_sum_assoc a b c)

-- the tuple of zeros is neutral
pub zeros_tuple_sum : (a : List ℕ) → tuple_sum (replicate (length a) 0) a ≡ a
zeros_tuple_sum [] = refl
zeros_tuple_sum (i ∷ a) =
    let head : 0 + i ≡ i = omega arith in
    ap₂ (λ x y. x ∷ y) head (zeros_tuple_sum a)

heads : {A : Type 0} {x y : A} {u v : List A} → x ∷ u ≡ y ∷ v → x ≡ y
heads e = cc

tails : {A : Type 0} {x y : A} {u v : List A} → x ∷ u ≡ y ∷ v → u ≡ v
tails e = cc

pub tuple_sum_cancel : (a b c : List ℕ) → length b ≡ length a → length c ≡ length a → tuple_sum a b ≡ tuple_sum a c → b ≡ c
tuple_sum_cancel [] [] [] h k e = refl
tuple_sum_cancel [] [] (k ∷ c) g h e = absurd (omega arith)
tuple_sum_cancel [] (j ∷ b) c g h e = absurd (omega arith)
tuple_sum_cancel (i ∷ a) [] c g h e = absurd (omega arith)
tuple_sum_cancel (i ∷ a) (j ∷ b) [] g h e = absurd (omega arith)
tuple_sum_cancel (i ∷ a) (j ∷ b) (k ∷ c) g h e =
    let sums : i + j ≡ i + k = heads e in
    let head : j ≡ k = omega arith in
    ap₂ (λ x y. x ∷ y) head (tuple_sum_cancel a b c (omega arith) (omega arith) (tails e))

-- a quotient times the divisor
pub tuple_sum_difference : (a b : List ℕ) → length a ≡ length b → TupleDivides a b → tuple_sum a (tuple_difference b a) ≡ b
tuple_sum_difference [] [] l d = refl
tuple_sum_difference [] (j ∷ b) l d = absurd (omega arith)
tuple_sum_difference (i ∷ a) [] l d = absurd (omega arith)
tuple_sum_difference (i ∷ a) (j ∷ b) l d =
    let at_most : i ≤ j = d.0 in
    let head : i + (j - i) ≡ j = omega arith in
    ap₂ (λ x y. x ∷ y) head (tuple_sum_difference a b (omega arith) d.1)

-- ---- multiples
pub tuple_multiple_one : (a : List ℕ) → tuple_multiple 1 a ≡ a
tuple_multiple_one [] = refl
tuple_multiple_one (i ∷ a) =
    let head : 1 * i ≡ i = omega arith in
    ap₂ (λ x y. x ∷ y) head (tuple_multiple_one a)

pub tuple_multiple_product : (q r : ℕ) (a : List ℕ) → tuple_multiple (q * r) a ≡ tuple_multiple q (tuple_multiple r a)
tuple_multiple_product q r [] = refl
tuple_multiple_product q r (i ∷ a) = ap₂ (λ x y. x ∷ y) (mul_assoc q r i) (tuple_multiple_product q r a)

pub tuple_multiple_sum : (q : ℕ) (a b : List ℕ) → tuple_multiple q (tuple_sum a b) ≡ tuple_sum (tuple_multiple q a) (tuple_multiple q b)
tuple_multiple_sum q [] b = refl
tuple_multiple_sum q (i ∷ a) [] = refl
tuple_multiple_sum q (i ∷ a) (j ∷ b) = ap₂ (λ x y. x ∷ y) (mul-add q i j) (tuple_multiple_sum q a b)
