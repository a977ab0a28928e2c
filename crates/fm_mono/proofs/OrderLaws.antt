-- The three monomial orders are total and exact, respect products and powers, and 1 is the least monomial
use Rattle.std.proofs.Common.{ℕ, zero, suc, ◌+◌, ◌-◌, ◌*◌, ◌<◌, ◌≤◌, ◌≡◌, ◌⊎◌, ◌↔◌, inl, inr, List, [], ◌∷◌, length, replicate, map, reverse, sum, refl, sym, ap, ap₂, ◌∙◌, arith, mul-le-mul_left}
use Rattle.std.specs.Ordering.{nat_cmp, flip_args, ordering_then, ordering_reverse, MatchOrdering}
use Rattle.std.specs.Cmp.{IsTotalOrder, nat_cmp_is, ranks}
use Rattle.std.specs.Cmp.Lexicographic.{slice_cmp}
use Rattle.std.specs.FinMap.{nat_cmp-IsAntisymmetric, slice_cmp-IsAntisymmetric}
use Rattle.std.specs.declared.cmp.Ordering.{Ordering}
use Rattle.std.specs.declared.cmp.Ordering.TheVariants.{Less, Equal, Greater}
use Rattle.std.proofs.lemmas.Cmp.{nat_cmp_total, nat_list_cmp_total, lists_total, on_total, then_total, back_total, tied_itself}
use Rattle.std.proofs.lemmas.List.{reverse-reverse, length-reverse, length-replicate}
use Rattle.fm_tuple.specs.Tuple.{tuple_sum, tuple_difference, tuple_multiple, TupleDivides}
use Rattle.fm_tuple.proofs.Tuples.{tuple_sum_comm, tuple_sum_difference, zeros_tuple_sum}
use Rattle.fm_tuple.proofs.TupleEntries.{sum_tuple_sum, sum_tuple_multiple, sum_zeros, zeros_from_sum, reverse_entrywise, reverse_map, length_entrywise}
use Rattle.fm_mono.specs.declared.order.Order.{Order}
use Rattle.fm_mono.specs.declared.order.Order.TheVariants.{Grevlex, Deglex, Lex}
use Rattle.fm_mono.specs.Orders.{monomial_cmp, degree_cmp, first_cmp, last_cmp}

-- ---- total orders
pub monomial_cmp_total : (o : Order) → IsTotalOrder (monomial_cmp o)
monomial_cmp_total Grevlex = then_total (on_total sum nat_cmp_total) (on_total reverse (lists_total (back_total nat_cmp_total)))
monomial_cmp_total Deglex = then_total (on_total sum nat_cmp_total) nat_list_cmp_total
monomial_cmp_total Lex = nat_list_cmp_total

pub monomial_cmp_flip : (o : Order) (a b : List ℕ) → monomial_cmp o a b ≡ ordering_reverse (monomial_cmp o b a)
monomial_cmp_flip o a b = (monomial_cmp_total o).antisymm a b

pub monomial_cmp_trans : (o : Order) (a b c : List ℕ) → monomial_cmp o a b ≡ Less → monomial_cmp o b c ≡ Less → monomial_cmp o a c ≡ Less
monomial_cmp_trans o a b c below above = (monomial_cmp_total o).trans a b c below above

pub monomial_cmp_itself : (o : Order) (a : List ℕ) → monomial_cmp o a a ≡ Equal
monomial_cmp_itself o a = tied_itself (monomial_cmp_total o) a

-- ---- only equal tuples tie
second_equal : (r s : Ordering) → ordering_then r s ≡ Equal → s ≡ Equal
second_equal Less s e = cc
second_equal Equal s e = e
second_equal Greater s e = cc

first_cmp_exact : (a b : List ℕ) → first_cmp a b ≡ Equal → a ≡ b
first_cmp_exact a b e = slice_cmp-IsAntisymmetric nat_cmp-IsAntisymmetric a b e

last_cmp_exact : (a b : List ℕ) → last_cmp a b ≡ Equal → a ≡ b
last_cmp_exact a b e =
    let turned : reverse a ≡ reverse b =
    slice_cmp-IsAntisymmetric {R = flip_args nat_cmp} (λ i j tie. sym (nat_cmp-IsAntisymmetric j i tie)) (reverse a) (reverse b) e in
    sym (reverse-reverse a) ∙ ap reverse turned ∙ reverse-reverse b

pub monomial_cmp_exact : (o : Order) (a b : List ℕ) → monomial_cmp o a b ≡ Equal → a ≡ b
monomial_cmp_exact Grevlex a b e = last_cmp_exact a b (second_equal (degree_cmp a b) (last_cmp a b) e)
monomial_cmp_exact Deglex a b e = first_cmp_exact a b (second_equal (degree_cmp a b) (first_cmp a b) e)
monomial_cmp_exact Lex a b e = first_cmp_exact a b e

pub monomial_cmp_same : (o : Order) (a b : List ℕ) → (monomial_cmp o a b ≡ Equal) ↔ (a ≡ b)
monomial_cmp_same o a b = (monomial_cmp_exact o a b, λ e. ap (monomial_cmp o a) (sym e) ∙ monomial_cmp_itself o a)

-- ---- numbers that compare alike
ranked_alike : (r : Ordering) (i j x y : ℕ) → (i < j → x < y) → (i ≡ j → x ≡ y) → (j < i → y < x)
    → MatchOrdering r (i < j) (i ≡ j) (j < i) → MatchOrdering r (x < y) (x ≡ y) (y < x)
ranked_alike Less i j x y below same above h = below h
ranked_alike Equal i j x y below same above h = same h
ranked_alike Greater i j x y below same above h = above h

pub nat_cmp_alike : (i j x y : ℕ) → (i < j → x < y) → (i ≡ j → x ≡ y) → (j < i → y < x) → nat_cmp x y ≡ nat_cmp i j
nat_cmp_alike i j x y below same above = sym (nat_cmp_is x y (nat_cmp i j) (ranked_alike (nat_cmp i j) i j x y below same above (ranks i j)))

nat_cmp_sum : (i j k : ℕ) → nat_cmp (i + k) (j + k) ≡ nat_cmp i j
nat_cmp_sum i j k = nat_cmp_alike i j (i + k) (j + k) (λ h. omega arith) (λ h. omega arith) (λ h. omega arith)

multiple_below : (q i j : ℕ) → 0 < q → i < j → q * i < q * j
multiple_below q i j positive h =
    let at_most : q * suc i ≤ q * j = mul-le-mul_left q h in
    let next : q * suc i ≡ q * i + q = omega arith in
    omega arith

nat_cmp_multiple : (q i j : ℕ) → 0 < q → nat_cmp (q * i) (q * j) ≡ nat_cmp i j
nat_cmp_multiple q i j positive =
    nat_cmp_alike i j (q * i) (q * j) (λ h. multiple_below q i j positive h) (λ h. ap (λ k. q * k) h) (λ h. multiple_below q j i positive h)

-- ---- products
slice_cmp_sum : (R : ℕ → ℕ → Ordering) → ((i j k : ℕ) → R (i + k) (j + k) ≡ R i j) → (a b c : List ℕ) → length a ≡ length c → length b ≡ length c
    → slice_cmp R (tuple_sum a c) (tuple_sum b c) ≡ slice_cmp R a b
slice_cmp_sum R shift [] [] c l m = refl
slice_cmp_sum R shift [] (j ∷ b) [] l m = absurd (omega arith)
slice_cmp_sum R shift [] (j ∷ b) (k ∷ c) l m = absurd (omega arith)
slice_cmp_sum R shift (i ∷ a) b [] l m = absurd (omega arith)
slice_cmp_sum R shift (i ∷ a) [] (k ∷ c) l m = absurd (omega arith)
slice_cmp_sum R shift (i ∷ a) (j ∷ b) (k ∷ c) l m =
    ap₂ ordering_then (shift i j k) (slice_cmp_sum R shift a b c (omega arith) (omega arith))

degree_cmp_sum : (a b c : List ℕ) → length a ≡ length c → length b ≡ length c → degree_cmp (tuple_sum a c) (tuple_sum b c) ≡ degree_cmp a b
degree_cmp_sum a b c l m = ap₂ nat_cmp (sum_tuple_sum a c l) (sum_tuple_sum b c m) ∙ nat_cmp_sum (sum a) (sum b) (sum c)

last_cmp_sum : (a b c : List ℕ) → length a ≡ length c → length b ≡ length c → last_cmp (tuple_sum a c) (tuple_sum b c) ≡ last_cmp a b
last_cmp_sum a b c l m =
    ap₂ (slice_cmp (flip_args nat_cmp)) (reverse_entrywise ◌+◌ a c l) (reverse_entrywise ◌+◌ b c m)
    ∙ slice_cmp_sum (flip_args nat_cmp) (λ i j k. nat_cmp_sum j i k) (reverse a) (reverse b) (reverse c)
    (length-reverse a ∙ l ∙ sym (length-reverse c)) (length-reverse b ∙ m ∙ sym (length-reverse c))

pub monomial_cmp_sum : (o : Order) (a b c : List ℕ) → length a ≡ length c → length b ≡ length c
    → monomial_cmp o (tuple_sum a c) (tuple_sum b c) ≡ monomial_cmp o a b
monomial_cmp_sum Grevlex a b c l m = ap₂ ordering_then (degree_cmp_sum a b c l m) (last_cmp_sum a b c l m)
monomial_cmp_sum Deglex a b c l m = ap₂ ordering_then (degree_cmp_sum a b c l m) (slice_cmp_sum nat_cmp nat_cmp_sum a b c l m)
monomial_cmp_sum Lex a b c l m = slice_cmp_sum nat_cmp nat_cmp_sum a b c l m

-- ---- multiples
slice_cmp_map : (R : ℕ → ℕ → Ordering) (f : ℕ → ℕ) → ((i j : ℕ) → R (f i) (f j) ≡ R i j) → (a b : List ℕ) → slice_cmp R (map f a) (map f b) ≡ slice_cmp R a b
slice_cmp_map R f alike [] [] = refl
slice_cmp_map R f alike [] (j ∷ b) = refl
slice_cmp_map R f alike (i ∷ a) [] = refl
slice_cmp_map R f alike (i ∷ a) (j ∷ b) = ap₂ ordering_then (alike i j) (slice_cmp_map R f alike a b)

degree_cmp_multiple : (q : ℕ) (a b : List ℕ) → 0 < q → degree_cmp (tuple_multiple q a) (tuple_multiple q b) ≡ degree_cmp a b
degree_cmp_multiple q a b positive = ap₂ nat_cmp (sum_tuple_multiple q a) (sum_tuple_multiple q b) ∙ nat_cmp_multiple q (sum a) (sum b) positive

first_cmp_multiple : (q : ℕ) (a b : List ℕ) → 0 < q → first_cmp (tuple_multiple q a) (tuple_multiple q b) ≡ first_cmp a b
first_cmp_multiple q a b positive = slice_cmp_map nat_cmp (λ i. q * i) (λ i j. nat_cmp_multiple q i j positive) a b

last_cmp_multiple : (q : ℕ) (a b : List ℕ) → 0 < q → last_cmp (tuple_multiple q a) (tuple_multiple q b) ≡ last_cmp a b
last_cmp_multiple q a b positive =
    ap₂ (slice_cmp (flip_args nat_cmp)) (reverse_map (λ i. q * i) a) (reverse_map (λ i. q * i) b)
    ∙ slice_cmp_map (flip_args nat_cmp) (λ i. q * i) (λ i j. nat_cmp_multiple q j i positive) (reverse a) (reverse b)

pub monomial_cmp_multiple : (o : Order) (q : ℕ) (a b : List ℕ) → 0 < q → monomial_cmp o (tuple_multiple q a) (tuple_multiple q b) ≡ monomial_cmp o a b
monomial_cmp_multiple Grevlex q a b positive = ap₂ ordering_then (degree_cmp_multiple q a b positive) (last_cmp_multiple q a b positive)
monomial_cmp_multiple Deglex q a b positive = ap₂ ordering_then (degree_cmp_multiple q a b positive) (first_cmp_multiple q a b positive)
monomial_cmp_multiple Lex q a b positive = first_cmp_multiple q a b positive

-- ---- 1 is the least monomial
first_cmp_zeros : (a : List ℕ) → (replicate (length a) 0 ≡ a) ⊎ (first_cmp (replicate (length a) 0) a ≡ Less)
first_cmp_zeros [] = inl refl
first_cmp_zeros (zero ∷ a) = elim (first_cmp_zeros a) [ inl e ↦ inl (ap (λ x. 0 ∷ x) e) | inr e ↦ inr e ]
first_cmp_zeros (suc i ∷ a) = inr (ap (λ r. ordering_then r (first_cmp (replicate (length a) 0) a)) (sym (nat_cmp_is 0 (suc i) Less (omega arith))))

degree_cmp_zeros : (a : List ℕ) → (replicate (length a) 0 ≡ a) ⊎ (degree_cmp (replicate (length a) 0) a ≡ Less)
degree_cmp_zeros a = by_degree (sum a) refl
  where
    by_degree : (d : ℕ) → sum a ≡ d → (replicate (length a) 0 ≡ a) ⊎ (degree_cmp (replicate (length a) 0) a ≡ Less)
    by_degree zero s = inl (sym (zeros_from_sum a s))
    by_degree (suc d) s = inr (ap₂ nat_cmp (sum_zeros (length a)) s ∙ sym (nat_cmp_is 0 (suc d) Less (omega arith)))

pub monomial_cmp_one : (o : Order) (a : List ℕ) → (replicate (length a) 0 ≡ a) ⊎ (monomial_cmp o (replicate (length a) 0) a ≡ Less)
monomial_cmp_one Grevlex a = elim (degree_cmp_zeros a) [ inl e ↦ inl e | inr e ↦ inr (ap (λ r. ordering_then r (last_cmp (replicate (length a) 0) a)) e) ]
monomial_cmp_one Deglex a = elim (degree_cmp_zeros a) [ inl e ↦ inl e | inr e ↦ inr (ap (λ r. ordering_then r (first_cmp (replicate (length a) 0) a)) e) ]
monomial_cmp_one Lex a = first_cmp_zeros a

-- a divisor is at most what it divides
pub monomial_cmp_divisor : (o : Order) (a b : List ℕ) → length a ≡ length b → TupleDivides a b → (a ≡ b) ⊎ (monomial_cmp o a b ≡ Less)
monomial_cmp_divisor o a b l divides =
    elim (monomial_cmp_one o rest) [
      | inl zeros ↦ inl (sym neutral ∙ ap (λ c. tuple_sum c a) (zeros_of zeros) ∙ whole)
      | inr below ↦ inr (ap₂ (monomial_cmp o) (sym neutral) (sym whole) ∙ shift ∙ ap (λ n. monomial_cmp o (replicate n 0) rest) (sym lengths) ∙ below)
    ]
  where
    rest : List ℕ
    rest = tuple_difference b a

    lengths : length rest ≡ length a
    lengths = length_entrywise ◌-◌ b a (sym l) ∙ sym l

    whole : tuple_sum rest a ≡ b
    whole = tuple_sum_comm rest a lengths ∙ tuple_sum_difference a b l divides

    neutral : tuple_sum (replicate (length a) 0) a ≡ a
    neutral = zeros_tuple_sum a

    zeros_of : replicate (length rest) 0 ≡ rest → replicate (length a) 0 ≡ rest
    zeros_of zeros = ap (λ n. replicate n 0) (sym lengths) ∙ zeros

    shift : monomial_cmp o (tuple_sum (replicate (length a) 0) a) (tuple_sum rest a) ≡ monomial_cmp o (replicate (length a) 0) rest
    shift = monomial_cmp_sum o (replicate (length a) 0) rest a (length-replicate (length a) 0) lengths
