-- Exponent tuples by their entries, their total degrees, and read from the last variable on
use Rattle.std.proofs.Common.{ℕ, zero, suc, ◌+◌, ◌*◌, ◌≤◌, ◌<◌, ◌≡◌, List, [], ◌∷◌, length, replicate, sum, map, reverse, refl, sym, ap, ap₂, ◌∙◌, arith, get_or, subst, ◌-◌, ◌++◌}
use mathlib.Core.List.{reverse_aux}
use Rattle.std.proofs.lemmas.List.{length-map}
use Rattle.std.proofs.lemmas.Grind.{same_number_lists}
use Rattle.std.proofs.lemmas.List.Sums.{sum_by-cons}
use Rattle.fm_tuple.specs.Tuple.{entrywise, tuple_sum, tuple_difference, tuple_multiple, TupleDivides}
use Rattle.fm_tuple.proofs.Tuples.{tuple_sum_difference}

-- ---- total degrees
pub sum_cons : (i : ℕ) (a : List ℕ) → sum (i ∷ a) ≡ i + sum a
sum_cons i a = sum_by-cons (λ k. k) i a

pub sum_tuple_sum : (a b : List ℕ) → length a ≡ length b → sum (tuple_sum a b) ≡ sum a + sum b
sum_tuple_sum [] [] l = refl
sum_tuple_sum [] (j ∷ b) l = absurd (omega arith)
sum_tuple_sum (i ∷ a) [] l = absurd (omega arith)
sum_tuple_sum (i ∷ a) (j ∷ b) l =
    let rest : sum (tuple_sum a b) ≡ sum a + sum b = sum_tuple_sum a b (omega arith) in
    omega (arith, sum_cons (i + j) (tuple_sum a b), sum_cons i a, sum_cons j b)

pub sum_tuple_multiple : (q : ℕ) (a : List ℕ) → sum (tuple_multiple q a) ≡ q * sum a
sum_tuple_multiple q [] = omega arith
sum_tuple_multiple q (i ∷ a) =
    let rest : sum (tuple_multiple q a) ≡ q * sum a = sum_tuple_multiple q a in
    let whole : sum (tuple_multiple q (i ∷ a)) ≡ q * i + sum (tuple_multiple q a) = sum_cons (q * i) (tuple_multiple q a) in
    let parts : sum (i ∷ a) ≡ i + sum a = sum_cons i a in
    let product : q * (i + sum a) ≡ q * i + q * sum a = omega arith in
    whole ∙ ap₂ (λ x y. x + y) refl rest ∙ sym product ∙ ap (λ x. q * x) (sym parts)

pub sum_zeros : (n : ℕ) → sum (replicate n 0) ≡ 0
sum_zeros zero = refl
sum_zeros (suc n) = let rest : sum (replicate n 0) ≡ 0 = sum_zeros n in omega (arith, sum_cons 0 (replicate n 0))

-- a tuple of total degree 0 is that of 1
pub zeros_from_sum : (a : List ℕ) → sum a ≡ 0 → a ≡ replicate (length a) 0
zeros_from_sum [] s = refl
zeros_from_sum (i ∷ a) s =
    let parts = sum_cons i a in
    let head : i ≡ 0 = omega arith in
    ap₂ (λ x y. x ∷ y) head (zeros_from_sum a (omega arith))

-- an exponent is at most the total degree
pub get_or_below_sum : (a : List ℕ) (k : ℕ) → get_or a k 0 ≤ sum a
get_or_below_sum [] k = omega arith
get_or_below_sum (i ∷ a) zero = omega (arith, sum_cons i a)
get_or_below_sum (i ∷ a) (suc k) = let rest : get_or a k 0 ≤ sum a = get_or_below_sum a k in omega (arith, sum_cons i a)

-- the total degree of a divisor
pub sum_divisor : (a b : List ℕ) → TupleDivides a b → sum a ≤ sum b
sum_divisor [] b d = omega arith
sum_divisor (i ∷ a) [] d = elim d [ ]
sum_divisor (i ∷ a) (j ∷ b) d =
    let rest : sum a ≤ sum b = sum_divisor a b d.1 in
    let head : i ≤ j = d.0 in
    omega (arith, sum_cons i a, sum_cons j b)

-- ---- from the last variable on
reverse_aux_entrywise : (f : ℕ → ℕ → ℕ) (a b x y : List ℕ) → length a ≡ length b
    → reverse_aux (entrywise f a b) (entrywise f x y) ≡ entrywise f (reverse_aux a x) (reverse_aux b y)
reverse_aux_entrywise f [] [] x y l = refl
reverse_aux_entrywise f [] (j ∷ b) x y l = absurd (omega arith)
reverse_aux_entrywise f (i ∷ a) [] x y l = absurd (omega arith)
reverse_aux_entrywise f (i ∷ a) (j ∷ b) x y l = reverse_aux_entrywise f a b (i ∷ x) (j ∷ y) (omega arith)

pub reverse_entrywise : (f : ℕ → ℕ → ℕ) (a b : List ℕ) → length a ≡ length b → reverse (entrywise f a b) ≡ entrywise f (reverse a) (reverse b)
reverse_entrywise f a b l = reverse_aux_entrywise f a b [] [] l

reverse_aux_map : (f : ℕ → ℕ) (a x : List ℕ) → reverse_aux (map f a) (map f x) ≡ map f (reverse_aux a x)
reverse_aux_map f [] x = refl
reverse_aux_map f (i ∷ a) x = reverse_aux_map f a (i ∷ x)

pub reverse_map : (f : ℕ → ℕ) (a : List ℕ) → reverse (map f a) ≡ map f (reverse a)
reverse_map f a = reverse_aux_map f a []

-- ---- place by place
pub length_entrywise : (f : ℕ → ℕ → ℕ) (a b : List ℕ) → length a ≡ length b → length (entrywise f a b) ≡ length a
length_entrywise f [] b l = refl
length_entrywise f (i ∷ a) [] l = absurd (omega arith)
length_entrywise f (i ∷ a) (j ∷ b) l = let rest : length (entrywise f a b) ≡ length a = length_entrywise f a b (omega arith) in omega arith

pub get_or_entrywise : (f : ℕ → ℕ → ℕ) (a b : List ℕ) (k : ℕ) → length a ≡ length b → k < length a
    → get_or (entrywise f a b) k 0 ≡ f (get_or a k 0) (get_or b k 0)
get_or_entrywise f [] b k l below = absurd (omega arith)
get_or_entrywise f (i ∷ a) [] k l below = absurd (omega arith)
get_or_entrywise f (i ∷ a) (j ∷ b) zero l below = refl
get_or_entrywise f (i ∷ a) (j ∷ b) (suc k) l below = get_or_entrywise f a b k (omega arith) (omega arith)

pub get_or_map : (f : ℕ → ℕ) (a : List ℕ) (k : ℕ) → k < length a → get_or (map f a) k 0 ≡ f (get_or a k 0)
get_or_map f [] k below = absurd (omega arith)
get_or_map f (i ∷ a) zero below = refl
get_or_map f (i ∷ a) (suc k) below = get_or_map f a k (omega arith)

sum_reverse_aux : (a x : List ℕ) → sum (reverse_aux a x) ≡ sum a + sum x
sum_reverse_aux [] x = omega arith
sum_reverse_aux (i ∷ a) x =
    let rest : sum (reverse_aux a (i ∷ x)) ≡ sum a + sum (i ∷ x) = sum_reverse_aux a (i ∷ x) in
    omega (arith, sum_cons i a, sum_cons i x)

pub sum_reverse : (a : List ℕ) → sum (reverse a) ≡ sum a
sum_reverse a = let whole : sum (reverse a) ≡ sum a + sum [] = sum_reverse_aux a [] in omega arith

-- a tuple with these entries is f of the two tuples
pub entrywise_by_place : (f : ℕ → ℕ → ℕ) (a b out : List ℕ) → length b ≡ length a → length out ≡ length a
    → ((k : ℕ) → k < length a → get_or out k 0 ≡ f (get_or a k 0) (get_or b k 0)) → out ≡ entrywise f a b
entrywise_by_place f a b out l m same =
    same_number_lists out (entrywise f a b) (m ∙ sym (length_entrywise f a b (sym l)))
    (λ k below. same k (subst (λ n. k < n) m below) ∙ sym (get_or_entrywise f a b k (sym l) (subst (λ n. k < n) m below)))

-- a tuple with these entries is f of the tuple
pub map_by_place : (f : ℕ → ℕ) (a out : List ℕ) → length out ≡ length a
    → ((k : ℕ) → k < length a → get_or out k 0 ≡ f (get_or a k 0)) → out ≡ map f a
map_by_place f a out m same =
    same_number_lists out (map f a) (m ∙ sym (length-map a f))
    (λ k below. same k (subst (λ n. k < n) m below) ∙ sym (get_or_map f a k (subst (λ n. k < n) m below)))

-- divisibility place by place
pub divides_by_place : (a b : List ℕ) → length b ≡ length a → ((k : ℕ) → k < length a → get_or a k 0 ≤ get_or b k 0) → TupleDivides a b
divides_by_place [] b l places = tt
divides_by_place (i ∷ a) [] l places = absurd (omega arith)
divides_by_place (i ∷ a) (j ∷ b) l places = (places 0 (omega arith), divides_by_place a b (omega arith) (λ k below. places (suc k) (omega arith)))

pub get_or_divides : (a b : List ℕ) → TupleDivides a b → (k : ℕ) → get_or a k 0 ≤ get_or b k 0
get_or_divides [] b d k = omega arith
get_or_divides (i ∷ a) [] d k = elim d [ ]
get_or_divides (i ∷ a) (j ∷ b) d zero = d.0
get_or_divides (i ∷ a) (j ∷ b) d (suc k) = get_or_divides a b d.1 k

-- the total degree of a quotient
pub sum_tuple_difference : (a b : List ℕ) → length b ≡ length a → TupleDivides b a → sum (tuple_difference a b) ≡ sum a - sum b
sum_tuple_difference a b l divides =
    let whole : tuple_sum b (tuple_difference a b) ≡ a = tuple_sum_difference b a l divides in
    let same : length b ≡ length (tuple_difference a b) = l ∙ sym (length_entrywise ◌-◌ a b (sym l)) in
    let parts : sum (tuple_sum b (tuple_difference a b)) ≡ sum b + sum (tuple_difference a b) = sum_tuple_sum b (tuple_difference a b) same in
    let total : sum (tuple_sum b (tuple_difference a b)) ≡ sum a = ap sum whole in
    omega arith

-- ---- tuples with zeros behind them
pub entrywise_append : (f : ℕ → ℕ → ℕ) (a b x y : List ℕ) → length b ≡ length a → entrywise f (a ++ x) (b ++ y) ≡ entrywise f a b ++ entrywise f x y
entrywise_append f [] [] x y l = refl
entrywise_append f [] (j ∷ b) x y l = absurd (omega arith)
entrywise_append f (i ∷ a) [] x y l = absurd (omega arith)
entrywise_append f (i ∷ a) (j ∷ b) x y l = ap (λ z. f i j ∷ z) (entrywise_append f a b x y (omega arith))

pub entrywise_zeros : (f : ℕ → ℕ → ℕ) → f 0 0 ≡ 0 → (n : ℕ) → entrywise f (replicate n 0) (replicate n 0) ≡ replicate n 0
entrywise_zeros f none zero = refl
entrywise_zeros f none (suc n) = ap₂ (λ x y. x ∷ y) none (entrywise_zeros f none n)
