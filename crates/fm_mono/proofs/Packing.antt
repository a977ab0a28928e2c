-- How a monomial is kept, and the list of exponents that it is
use Rattle.std.proofs.Common.{ℕ, ◌-◌, ◌≤◌, ◌≡◌, true, List, [], ◌∷◌, ◌++◌, length, take, drop, replicate, sum, refl, sym, ap, ◌∙◌, arith, length-append, length-drop, ◌*◌, ap₂, ◌+◌, ◌↔◌, zero, suc, subst}
use Rattle.std.proofs.Math.Seq.{take-append_seam}
use Rattle.std.proofs.lemmas.List.{map-append, drop-replicate, take-replicate, length-take-le, take-append-drop, length-replicate}
use Rattle.fm_tuple.proofs.TupleEntries.{sum_zeros, sum_tuple_sum, entrywise_append, entrywise_zeros}
use Rattle.fm_tuple.specs.Tuple.{TupleDivides, entrywise, tuple_multiple, tuple_sum}
use Rattle.fm_tuple.proofs.TupleDivisors.{divides_itself}
use Rattle.std.proofs.lemmas.List.Sums.{sum_by-append}
use Rattle.fm_mono.specs.declared.mono.Mono.TheInside.{Inside}
use Rattle.fm_mono.specs.Bounded.{exponent_bound, is_bounded}
use Rattle.fm_mono.specs.Packed.{IsPacked}
use Rattle.fm_mono.proofs.Bounds.{sum_within, take_within, padded_test}

-- ---- what is known of a monomial's fields
pub vars_is : (m : Inside) (a : List ℕ) → IsPacked m → take m.vars m.exponents ≡ a → length a ≡ m.vars
vars_is m a packed is =
    let few = packed.few in
    let eight = packed.eight in
    sym (ap length is) ∙ length-take-le m.vars m.exponents (omega arith)

pub degree_is : (m : Inside) (a : List ℕ) → IsPacked m → take m.vars m.exponents ≡ a → m.degree ≡ sum a
degree_is m a packed is = packed.total ∙ ap sum is

pub within_is : (m : Inside) (a : List ℕ) → IsPacked m → take m.vars m.exponents ≡ a → is_bounded a ≡ true
within_is m a packed is = sym (ap is_bounded is) ∙ take_within m.vars m.exponents packed.within

-- ---- a monomial from its exponents
abbrev pub zeros : List ℕ
zeros = 0 ∷ 0 ∷ 0 ∷ 0 ∷ 0 ∷ 0 ∷ 0 ∷ 0 ∷ []

pub shown : (n : ℕ) (out rest : List ℕ) → length out ≡ n → take n (out ++ rest) ≡ out
shown n out rest l = ap (λ k. take k (out ++ rest)) (sym l) ∙ take-append_seam out rest

-- the exponents `out`, which are a, in front of zeros
pub packed : (r n d : ℕ) (out a : List ℕ) → r ≡ n → 1 ≤ n → n ≤ 8 → out ≡ a → length a ≡ n → is_bounded a ≡ true → d ≡ sum a
    → IsPacked record { exponents = out ++ drop r (0 ∷ 0 ∷ 0 ∷ 0 ∷ 0 ∷ 0 ∷ 0 ∷ 0 ∷ []); degree = d; vars = n }
packed r n d out a same some few is l within total =
    let count : length out ≡ n = ap length is ∙ l in
    let seen : take n (out ++ drop r zeros) ≡ out = shown n out (drop r zeros) count in
    let behind : replicate (8 - n) 0 ≡ drop r zeros = sym (drop-replicate n 8 0) ∙ ap (λ k. drop k zeros) (sym same) in
    let whole = length-append out (drop r zeros) in
    let back = length-drop r zeros in
    record {
      some = some;
      few = few;
      eight = omega arith;
      padded = ap (λ x. x ++ replicate (8 - n) 0) seen ∙ ap (λ x. out ++ x) behind;
      within = ap is_bounded (sym (ap (λ x. out ++ x) behind)) ∙ padded_test out (8 - n) ∙ ap is_bounded is ∙ within;
      total = total ∙ ap sum (sym (seen ∙ is));
    }

pub degree_small : (m : Inside) → IsPacked m → m.degree ≤ 8 * exponent_bound
degree_small m packed =
    let count : length (take m.vars m.exponents) ≡ m.vars = vars_is m (take m.vars m.exponents) packed refl in
    let small : sum (take m.vars m.exponents) ≤ length (take m.vars m.exponents) * exponent_bound = sum_within (take m.vars m.exponents) (take_within m.vars m.exponents packed.within) in
    let few = packed.few in
    let total = packed.total in
    omega arith

pub take_zeros : (n : ℕ) → n ≤ 8 → take n zeros ≡ replicate n 0
take_zeros n few = take-replicate n 8 0 few

-- the exponents of 1
pub packed_one : (n : ℕ) → 1 ≤ n → n ≤ 8 → IsPacked record { exponents = 0 ∷ 0 ∷ 0 ∷ 0 ∷ 0 ∷ 0 ∷ 0 ∷ 0 ∷ []; degree = 0; vars = n }
packed_one n some few =
    record {
      some = some;
      few = few;
      eight = refl;
      padded = ap (λ x. take n zeros ++ x) (sym (drop-replicate n 8 0)) ∙ take-append-drop n zeros;
      within = refl;
      total = sym (ap sum (take_zeros n few) ∙ sum_zeros n);
    }

-- ---- all eight places at once
-- the exponents a in front of zeros
pub packed_padded : (n d : ℕ) (out a : List ℕ) → 1 ≤ n → n ≤ 8 → out ≡ a ++ replicate (8 - n) 0 → length a ≡ n → is_bounded a ≡ true → d ≡ sum a
    → IsPacked record { exponents = out; degree = d; vars = n }
packed_padded n d out a some few is l within total =
    let seen : take n out ≡ a = ap (take n) is ∙ shown n a (replicate (8 - n) 0) l in
    let whole = length-append a (replicate (8 - n) 0) in
    let back : length (replicate {A = ℕ} (8 - n) 0) ≡ 8 - n = length-replicate {A = ℕ} (8 - n) 0 in
    let count : length (a ++ replicate (8 - n) 0) ≡ 8 = omega arith in
    record {
      some = some;
      few = few;
      eight = ap length is ∙ count;
      padded = ap (λ x. x ++ replicate (8 - n) 0) seen ∙ sym is;
      within = ap is_bounded is ∙ padded_test a (8 - n) ∙ within;
      total = total ∙ ap sum (sym seen);
    }

-- the total degree of a tuple with zeros behind it
pub sum_padded : (a : List ℕ) (n : ℕ) → sum (a ++ replicate n 0) ≡ sum a
sum_padded a n =
    let parts = sum_by-append (λ k. k) a (replicate n 0) in
    let behind : sum (replicate n 0) ≡ 0 = sum_zeros n in
    omega arith

pub padded_sum : (out a : List ℕ) (n : ℕ) → out ≡ a ++ replicate n 0 → sum out ≡ sum a
padded_sum out a n is = ap sum is ∙ sum_padded a n

-- the total degree is that of all eight places
pub sum_places : (m : Inside) → IsPacked m → m.degree ≡ sum m.exponents
sum_places m packed = packed.total ∙ sym (sum_padded (take m.vars m.exponents) (8 - m.vars)) ∙ ap sum packed.padded

-- a multiple of all eight places is that of the exponents in front of zeros
pub multiple_padded : (q : ℕ) (m : Inside) (a : List ℕ) → IsPacked m → take m.vars m.exponents ≡ a
    → tuple_multiple q m.exponents ≡ tuple_multiple q a ++ replicate (8 - m.vars) 0
multiple_padded q m a packed is =
    ap (tuple_multiple q) (sym packed.padded ∙ ap (λ x. x ++ replicate (8 - m.vars) 0) is)
    ∙ map-append (λ i. q * i) a (replicate (8 - m.vars) 0) ∙ ap (λ x. tuple_multiple q a ++ x) (zeros_multiple (8 - m.vars))
  where
    zeros_multiple : (n : ℕ) → tuple_multiple q (replicate n 0) ≡ replicate n 0
    zeros_multiple zero = refl
    zeros_multiple (suc n) = let none : q * 0 ≡ 0 = omega arith in ap₂ (λ x y. x ∷ y) none (zeros_multiple n)

divides_append : (a b z : List ℕ) → length b ≡ length a → TupleDivides (a ++ z) (b ++ z) ↔ TupleDivides a b
divides_append [] [] z l = (λ h. tt, λ h. divides_itself z)
divides_append [] (j ∷ b) z l = absurd (omega arith)
divides_append (i ∷ a) [] z l = absurd (omega arith)
divides_append (i ∷ a) (j ∷ b) z l =
    let later = divides_append a b z (omega arith) in
    (λ h. (h.0, later.0 h.1), λ h. (h.0, later.1 h.1))

-- two monomials in as many variables
module _ (m k : Inside) (a b : List ℕ) (packed_m : IsPacked m) (packed_k : IsPacked k) (m_is : take m.vars m.exponents ≡ a) (k_is : take k.vars k.exponents ≡ b)
    (l : length b ≡ length a) where
  same_vars : k.vars ≡ m.vars
  same_vars = sym (vars_is k b packed_k k_is) ∙ l ∙ vars_is m a packed_m m_is

  pub left_padded : m.exponents ≡ a ++ replicate (8 - m.vars) 0
  left_padded = sym packed_m.padded ∙ ap (λ x. x ++ replicate (8 - m.vars) 0) m_is

  pub right_padded : k.exponents ≡ b ++ replicate (8 - m.vars) 0
  right_padded = sym packed_k.padded ∙ ap₂ (λ x n. x ++ replicate (8 - n) 0) k_is same_vars

  -- f of all eight places is f of the exponents in front of zeros
  pub entrywise_padded : (f : ℕ → ℕ → ℕ) → f 0 0 ≡ 0 → entrywise f m.exponents k.exponents ≡ entrywise f a b ++ replicate (8 - m.vars) 0
  entrywise_padded f none =
      ap₂ (entrywise f) left_padded right_padded ∙ entrywise_append f a b _ _ l ∙ ap (λ x. entrywise f a b ++ x) (entrywise_zeros f none (8 - m.vars))

  pub divides_padded : TupleDivides m.exponents k.exponents ↔ TupleDivides a b
  divides_padded =
      subst (λ x. TupleDivides x k.exponents ↔ TupleDivides a b) (sym left_padded)
      (subst (λ y. TupleDivides (a ++ replicate (8 - m.vars) 0) y ↔ TupleDivides a b) (sym right_padded) (divides_append a b (replicate (8 - m.vars) 0) l))

  -- the total degree of the product, of all eight places
  pub sum_product : m.degree + k.degree ≡ sum (tuple_sum m.exponents k.exponents)
  sum_product =
      ap₂ ◌+◌ (sum_places m packed_m) (sum_places k packed_k) ∙ sym (sum_tuple_sum m.exponents k.exponents (packed_m.eight ∙ sym packed_k.eight))

  -- and of the exponents
  pub sum_exponents : m.degree + k.degree ≡ sum (tuple_sum a b)
  sum_exponents = ap₂ ◌+◌ (degree_is m a packed_m m_is) (degree_is k b packed_k k_is) ∙ sym (sum_tuple_sum a b (sym l))
