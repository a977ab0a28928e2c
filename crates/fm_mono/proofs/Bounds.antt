-- Tuples within the bound, place by place
use Rattle.std.proofs.Common.{ℕ, zero, suc, ◌+◌, ◌*◌, ◌<◌, ◌≤◌, ◌≡◌, true, false, min, nat_le, List, [], ◌∷◌, length, get_or, refl, sym, ap, ap₂, ◌∙◌, arith, subst, map, sum, ◌&&◌, inl, inr, max, ◌-◌, replicate, Some, None, Option, MatchOption, Bool, if◌then◌else◌, take, ◌++◌}
use Rattle.std.proofs.lemmas.Bool.{and_parts, and_from, leb-true, le-leb, lt-leb, cases_lt}
use Rattle.std.proofs.lemmas.List.{length-map}
use Rattle.std.proofs.lemmas.List.Sums.{sum_by_more_le}
use Rattle.std.proofs.lemmas.List.Folds.{list_all_at}
use Rattle.fm_tuple.specs.Tuple.{entrywise, tuple_difference, tuple_maximum, tuple_multiple}
use Rattle.fm_tuple.proofs.TupleEntries.{length_entrywise, get_or_entrywise, get_or_map, sum_cons, sum_tuple_multiple, get_or_below_sum}
use Rattle.fm_mono.specs.Bounded.{bounded, exponent_bound, is_bounded}

pub is_bounded_by_place : (a : List ℕ) → ((k : ℕ) → k < length a → get_or a k 0 ≤ exponent_bound) → is_bounded a ≡ true
is_bounded_by_place [] places = refl
is_bounded_by_place (i ∷ a) places =
    and_from _ _ (le-leb i exponent_bound (places 0 (omega arith))) (is_bounded_by_place a (λ k below. places (suc k) (omega arith)))

pub within_more : (i : ℕ) (a : List ℕ) → i ≤ exponent_bound → is_bounded a ≡ true → is_bounded (i ∷ a) ≡ true
within_more i a small within = and_from _ _ (le-leb i exponent_bound small) within

pub bounded_at : (a : List ℕ) → is_bounded a ≡ true → (k : ℕ) → get_or a k 0 ≤ exponent_bound
bounded_at [] within k = omega arith
bounded_at (i ∷ a) within zero = leb-true i exponent_bound (and_parts _ _ within).0
bounded_at (i ∷ a) within (suc k) = bounded_at a (and_parts _ _ within).1 k

pub is_bounded_fails : (a : List ℕ) (k : ℕ) → k < length a → exponent_bound < get_or a k 0 → is_bounded a ≡ false
is_bounded_fails a k below above = list_all_at (λ i. nat_le i exponent_bound) a k 0 below (lt-leb _ _ above)

pub entrywise_fails : (f : ℕ → ℕ → ℕ) (a b : List ℕ) (k : ℕ) → length b ≡ length a → k < length a
    → exponent_bound < f (get_or a k 0) (get_or b k 0) → is_bounded (entrywise f a b) ≡ false
entrywise_fails f a b k l below above =
    is_bounded_fails (entrywise f a b) k (subst (λ n. k < n) (sym (length_entrywise f a b (sym l))) below)
    (subst (λ n. exponent_bound < n) (sym (get_or_entrywise f a b k (sym l) below)) above)

pub entrywise_within : (f : ℕ → ℕ → ℕ) (a b : List ℕ) → length b ≡ length a
    → ((k : ℕ) → k < length a → f (get_or a k 0) (get_or b k 0) ≤ exponent_bound) → is_bounded (entrywise f a b) ≡ true
entrywise_within f a b l places =
    is_bounded_by_place (entrywise f a b) (λ k below.
    let inside : k < length a = subst (λ n. k < n) (length_entrywise f a b (sym l)) below in
    subst (λ n. n ≤ exponent_bound) (sym (get_or_entrywise f a b k (sym l) inside)) (places k inside))

pub map_fails : (f : ℕ → ℕ) (a : List ℕ) (k : ℕ) → k < length a → exponent_bound < f (get_or a k 0) → is_bounded (map f a) ≡ false
map_fails f a k below above =
    is_bounded_fails (map f a) k (subst (λ n. k < n) (sym (length-map a f)) below)
    (subst (λ n. exponent_bound < n) (sym (get_or_map f a k below)) above)

pub map_within : (f : ℕ → ℕ) (a : List ℕ) → ((k : ℕ) → k < length a → f (get_or a k 0) ≤ exponent_bound) → is_bounded (map f a) ≡ true
map_within f a places =
    is_bounded_by_place (map f a) (λ k below.
    let inside : k < length a = subst (λ n. k < n) (length-map a f) below in
    subst (λ n. n ≤ exponent_bound) (sym (get_or_map f a k inside)) (places k inside))

-- the total degree of a tuple within the bound
pub sum_within : (a : List ℕ) → is_bounded a ≡ true → sum a ≤ length a * exponent_bound
sum_within [] within = omega arith
sum_within (i ∷ a) within =
    let parts = and_parts _ _ within in
    let head : i ≤ exponent_bound = leb-true i exponent_bound parts.0 in
    let rest : sum a ≤ length a * exponent_bound = sum_within a parts.1 in
    omega (arith, sum_cons i a)

-- the sum of the entries before a place, with the entry there, is within the sum of all
pub sum_so_far : (a : List ℕ) (k : ℕ) → k < length a → sum (take k a) + get_or a k 0 ≤ sum a
sum_so_far a k below = sum_by_more_le (λ i. i) a k 0 below

-- a tuple whose total degree is within the bound
pub within_from_sum : (a : List ℕ) → sum a ≤ exponent_bound → is_bounded a ≡ true
within_from_sum a small =
    is_bounded_by_place a (λ k below. let part : get_or a k 0 ≤ sum a = get_or_below_sum a k in omega arith)

-- ---- powers that are cut above the bound
above_bound : (q i : ℕ) → exponent_bound < q → exponent_bound < q * suc i
above_bound q i above = let whole : q * suc i ≡ q * i + q = omega arith in omega arith

capped_entry : (q i : ℕ) → nat_le (min q (exponent_bound + 1) * i) exponent_bound ≡ nat_le (q * i) exponent_bound
capped_entry q zero =
    let left : min q (exponent_bound + 1) * 0 ≡ 0 = omega arith in
    let right : q * 0 ≡ 0 = omega arith in
    ap (λ n. nat_le n exponent_bound) (left ∙ sym right)
capped_entry q (suc i) = elim (cases_lt exponent_bound q) [
  | inl above ↦ lt-leb _ _ (above_bound (min q (exponent_bound + 1)) i (omega arith)) ∙ sym (lt-leb _ _ (above_bound q i above))
  | inr within ↦ (let same : min q (exponent_bound + 1) ≡ q = omega arith in ap (λ n. nat_le (n * suc i) exponent_bound) same)
]

pub capped_test : (q : ℕ) (a : List ℕ) → is_bounded (tuple_multiple (min q (exponent_bound + 1)) a) ≡ is_bounded (tuple_multiple q a)
capped_test q [] = refl
capped_test q (i ∷ a) = ap₂ ◌&&◌ (capped_entry q i) (capped_test q a)

capped_multiple : (q i : ℕ) → q * i ≤ exponent_bound → min q (exponent_bound + 1) * i ≡ q * i
capped_multiple q zero within =
    let left : min q (exponent_bound + 1) * 0 ≡ 0 = omega arith in
    let right : q * 0 ≡ 0 = omega arith in
    left ∙ sym right
capped_multiple q (suc i) within = elim (cases_lt exponent_bound q) [
  | inl above ↦ absurd (let far : exponent_bound < q * suc i = above_bound q i above in omega arith)
  | inr small ↦ (let same : min q (exponent_bound + 1) ≡ q = omega arith in ap (λ n. n * suc i) same)
]

pub capped_tuple : (q : ℕ) (a : List ℕ) → is_bounded (tuple_multiple q a) ≡ true → tuple_multiple (min q (exponent_bound + 1)) a ≡ tuple_multiple q a
capped_tuple q [] within = refl
capped_tuple q (i ∷ a) within =
    let parts = and_parts _ _ within in
    ap₂ (λ x y. x ∷ y) (capped_multiple q i (leb-true _ _ parts.0)) (capped_tuple q a parts.1)

pub maximum_within : (a b : List ℕ) → length b ≡ length a → is_bounded a ≡ true → is_bounded b ≡ true → is_bounded (tuple_maximum a b) ≡ true
maximum_within a b l a_within b_within =
    entrywise_within max a b l (λ k below.
    let left : get_or a k 0 ≤ exponent_bound = bounded_at a a_within k in
    let right : get_or b k 0 ≤ exponent_bound = bounded_at b b_within k in
    omega arith)

pub difference_within : (a b : List ℕ) → length b ≡ length a → is_bounded a ≡ true → is_bounded (tuple_difference a b) ≡ true
difference_within a b l within =
    entrywise_within ◌-◌ a b l (λ k below. let left : get_or a k 0 ≤ exponent_bound = bounded_at a within k in omega arith)

pub zeros_within : (n : ℕ) → is_bounded (replicate n 0) ≡ true
zeros_within zero = refl
zeros_within (suc n) = and_from _ _ (le-leb 0 exponent_bound (omega arith)) (zeros_within n)

-- zeros behind a tuple change no test
pub padded_test : (a : List ℕ) (n : ℕ) → is_bounded (a ++ replicate n 0) ≡ is_bounded a
padded_test [] n = zeros_within n
padded_test (i ∷ a) n = ap (λ b. nat_le i exponent_bound && b) (padded_test a n)

pub padded_within : (out a : List ℕ) (n : ℕ) → out ≡ a ++ replicate n 0 → is_bounded out ≡ is_bounded a
padded_within out a n is = ap is_bounded is ∙ padded_test a n

pub take_within : (n : ℕ) (a : List ℕ) → is_bounded a ≡ true → is_bounded (take n a) ≡ true
take_within zero a within = refl
take_within (suc n) [] within = refl
take_within (suc n) (i ∷ a) within = and_from _ _ (and_parts _ _ within).0 (take_within n a (and_parts _ _ within).1)

-- ---- what `bounded` gives
pub bounded_none : (a : List ℕ) → is_bounded a ≡ false → None ≡ bounded a
bounded_none a fails = ap (λ b. if b then Some a else None) (sym fails)

pub bounded_some : (a : List ℕ) → is_bounded a ≡ true → Some a ≡ bounded a
bounded_some a within = ap (λ b. if b then Some a else None) (sym within)

bounded_cases : (a : List ℕ) (b : Bool) (r : Option (List ℕ)) → is_bounded a ≡ b → r ≡ (if b then Some a else None)
    → MatchOption r (is_bounded a ≡ false) (λ out. (is_bounded a ≡ true) × (out ≡ a))
bounded_cases a true (Some out) e h = (e, cc)
bounded_cases a false (Some out) e h = cc
bounded_cases a true None e h = cc
bounded_cases a false None e h = e

pub bounded_value : (a : List ℕ) (r : Option (List ℕ)) → r ≡ bounded a → MatchOption r (is_bounded a ≡ false) (λ out. (is_bounded a ≡ true) × (out ≡ a))
bounded_value a r h = bounded_cases a (is_bounded a) r refl h

-- the same of a capped power q of x, which is a
pub capped_test_is : (q power : ℕ) (x a : List ℕ) → q ≡ min power (exponent_bound + 1) → x ≡ a
    → is_bounded (tuple_multiple q x) ≡ is_bounded (tuple_multiple power a)
capped_test_is q power x a q_is x_is = ap₂ (λ n y. is_bounded (tuple_multiple n y)) q_is x_is ∙ capped_test power a

pub capped_tuple_is : (q power : ℕ) (x a : List ℕ) → q ≡ min power (exponent_bound + 1) → x ≡ a → is_bounded (tuple_multiple power a) ≡ true
    → tuple_multiple q x ≡ tuple_multiple power a
capped_tuple_is q power x a q_is x_is within = ap₂ tuple_multiple q_is x_is ∙ capped_tuple power a within

pub capped_sum_is : (q power d : ℕ) (a : List ℕ) → q ≡ min power (exponent_bound + 1) → d ≡ sum a → is_bounded (tuple_multiple power a) ≡ true
    → q * d ≡ sum (tuple_multiple power a)
capped_sum_is q power d a q_is d_is within =
    ap (λ n. q * n) d_is ∙ sym (sum_tuple_multiple q a) ∙ ap sum (capped_tuple_is q power a a q_is refl within)

pub capped_sum_small : (q power d n : ℕ) (a : List ℕ) → q ≡ min power (exponent_bound + 1) → d ≡ sum a → is_bounded (tuple_multiple power a) ≡ true
    → length a ≡ n → n ≤ 8 → q * d ≤ 8 * exponent_bound
capped_sum_small q power d n a q_is d_is within count few =
    let total : q * d ≡ sum (tuple_multiple power a) = capped_sum_is q power d a q_is d_is within in
    let same : length (tuple_multiple power a) ≡ length a = length-map a (λ i. power * i) in
    let small : sum (tuple_multiple power a) ≤ length (tuple_multiple power a) * exponent_bound = sum_within (tuple_multiple power a) within in
    omega arith
