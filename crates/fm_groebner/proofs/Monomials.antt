-- Monomials in n variables: products, quotients and least common multiples by exponents.
use Rattle.std.proofs.Common.{ℕ, ◌+◌, ◌-◌, ◌<◌, ◌≤◌, ◌≡◌, max, List, [], ◌∷◌, length, replicate, refl, sym, ap, ap₂, ◌∙◌, arith}
use Rattle.std.proofs.lemmas.List.{length-replicate}
use native.Mathlib.Nat.{ℕ_set}
use native.Mathlib.Decide.{dec_lt}
use mathlib.Core.HLevel.{Σ_prop_path}
use Rattle.fm_tuple.specs.Tuple.{tuple_sum, tuple_difference, tuple_maximum, TupleDivides}
use Rattle.fm_tuple.proofs.TupleEntries.{length_entrywise}
use Rattle.fm_tuple.proofs.Tuples.{length_tuple_sum, tuple_sum_comm, tuple_sum_assoc, zeros_tuple_sum, tuple_sum_cancel, tuple_sum_difference}

-- a tuple of n exponents
pub record Monomial (n : ℕ) : Type 0 where
  pub exponents : List ℕ
  pub fits : length exponents ≡ n

pub same_monomial : {n : ℕ} (a b : Monomial n) → a.exponents ≡ b.exponents → a ≡ b
same_monomial {n} a b e =
    let pairs : ◌≡◌ {A = (x : List ℕ) × (length x ≡ n)} (a.exponents, a.fits) (b.exponents, b.fits) = Σ_prop_path (λ x. ℕ_set (length x) n) e in
    λ i. record { exponents = (pairs i).0; fits = (pairs i).1 }

pub divides_dec : (a b : List ℕ) → Dec (TupleDivides a b)
divides_dec [] b = yes tt
divides_dec (i ∷ a) [] = no (λ x. x)
divides_dec (i ∷ a) (j ∷ b) = elim (dec_lt j i) [
  | yes l ↦ no (λ d. let h : i ≤ j = d.0 in absurd (omega arith))
  | no n ↦ elim (divides_dec a b) [ yes d ↦ yes (le_of n, d) | no w ↦ no (λ d. w d.1) ]
]
  where
    le_of : ¬ (j < i) → i ≤ j
    le_of n = omega arith

pub divides_sum : (m b : List ℕ) → length m ≡ length b → TupleDivides m (tuple_sum m b)
divides_sum [] b e = tt
divides_sum (i ∷ m) [] e = absurd (omega arith)
divides_sum (i ∷ m) (j ∷ b) e = let h : i ≤ i + j = omega arith in (h, divides_sum m b (omega arith))

-- ---- least common multiples
divides_max_left : (a b : List ℕ) → length a ≡ length b → TupleDivides a (tuple_maximum a b)
divides_max_left [] b e = tt
divides_max_left (i ∷ a) [] e = absurd (omega arith)
divides_max_left (i ∷ a) (j ∷ b) e = let h : i ≤ max i j = omega arith in (h, divides_max_left a b (omega arith))

divides_max_right : (a b : List ℕ) → length a ≡ length b → TupleDivides b (tuple_maximum a b)
divides_max_right a [] e = tt
divides_max_right [] (j ∷ b) e = absurd (omega arith)
divides_max_right (i ∷ a) (j ∷ b) e = let h : j ≤ max i j = omega arith in (h, divides_max_right a b (omega arith))

heads : {A : Type 0} {x y : A} {u v : List A} → x ∷ u ≡ y ∷ v → x ≡ y
heads e = cc

tails : {A : Type 0} {x y : A} {u v : List A} → x ∷ u ≡ y ∷ v → u ≡ v
tails e = cc

-- where m + a = n + b, both m and n are multiples of the cofactors of a and b, by the same monomial
cofactor_left : (a b m n : List ℕ) → length b ≡ length a → length m ≡ length a → length n ≡ length a → tuple_sum m a ≡ tuple_sum n b
    → tuple_sum (tuple_difference m (tuple_difference (tuple_maximum a b) a)) (tuple_difference (tuple_maximum a b) a) ≡ m
cofactor_left [] [] [] [] e f g q = refl
cofactor_left (i ∷ a) (j ∷ b) (k ∷ m) (l ∷ n) e f g q =
    let h : k + i ≡ l + j = heads q in
    let head : k - (max i j - i) + (max i j - i) ≡ k = omega arith in
    ap₂ (λ x y. x ∷ y) head (cofactor_left a b m n (omega arith) (omega arith) (omega arith) (tails q))
cofactor_left a b m n e f g q = absurd (omega arith)

cofactor_right : (a b m n : List ℕ) → length b ≡ length a → length m ≡ length a → length n ≡ length a → tuple_sum m a ≡ tuple_sum n b
    → tuple_sum (tuple_difference m (tuple_difference (tuple_maximum a b) a)) (tuple_difference (tuple_maximum a b) b) ≡ n
cofactor_right [] [] [] [] e f g q = refl
cofactor_right (i ∷ a) (j ∷ b) (k ∷ m) (l ∷ n) e f g q =
    let h : k + i ≡ l + j = heads q in
    let head : k - (max i j - i) + (max i j - j) ≡ l = omega arith in
    ap₂ (λ x y. x ∷ y) head (cofactor_right a b m n (omega arith) (omega arith) (omega arith) (tails q))
cofactor_right a b m n e f g q = absurd (omega arith)

-- ---- the operations on monomials
module _ {n : ℕ} where
  abbrev pub one : Monomial n
  one = record { exponents = replicate n 0; fits = length-replicate n 0 }

  infixl 70 ◌·◌
  abbrev pub ◌·◌ : Monomial n → Monomial n → Monomial n
  a · b = record { exponents = tuple_sum a.exponents b.exponents; fits = length_tuple_sum a.exponents b.exponents (a.fits ∙ sym b.fits) ∙ a.fits }

  abbrev pub difference : Monomial n → Monomial n → Monomial n
  difference a b = record { exponents = tuple_difference a.exponents b.exponents; fits = length_entrywise ◌-◌ a.exponents b.exponents (a.fits ∙ sym b.fits) ∙ a.fits }

  abbrev pub maximum : Monomial n → Monomial n → Monomial n
  maximum a b = record { exponents = tuple_maximum a.exponents b.exponents; fits = length_entrywise max a.exponents b.exponents (a.fits ∙ sym b.fits) ∙ a.fits }

  pub one_times : (a : Monomial n) → one · a ≡ a
  one_times a = same_monomial (one · a) a (ap (λ k. tuple_sum (replicate k 0) a.exponents) (sym a.fits) ∙ zeros_tuple_sum a.exponents)

  pub times_comm : (a b : Monomial n) → a · b ≡ b · a
  times_comm a b = same_monomial (a · b) (b · a) (tuple_sum_comm a.exponents b.exponents (a.fits ∙ sym b.fits))

  pub times_assoc : (a b c : Monomial n) → (a · b) · c ≡ a · (b · c)
  times_assoc a b c = same_monomial ((a · b) · c) (a · (b · c)) (tuple_sum_assoc a.exponents b.exponents c.exponents)

  pub times_cancel : (a b c : Monomial n) → a · c ≡ b · c → a ≡ b
  times_cancel a b c e = same_monomial a b (tuple_sum_cancel c.exponents a.exponents b.exponents (a.fits ∙ sym c.fits) (b.fits ∙ sym c.fits)
      (ap (λ x. x.exponents) (times_comm c a ∙ e ∙ times_comm b c)))

  pub times_difference : (a b : Monomial n) → TupleDivides a.exponents b.exponents → a · difference b a ≡ b
  times_difference a b d = same_monomial (a · difference b a) b (tuple_sum_difference a.exponents b.exponents (a.fits ∙ sym b.fits) d)

  pub divides_times : (a b : Monomial n) → TupleDivides a.exponents (a · b).exponents
  divides_times a b = divides_sum a.exponents b.exponents (a.fits ∙ sym b.fits)

  -- the cofactors of a least common multiple
  pub lcm_meets : (a b : Monomial n) → difference (maximum a b) a · a ≡ difference (maximum a b) b · b
  lcm_meets a b = times_comm (difference (maximum a b) a) a ∙ times_difference a (maximum a b) (divides_max_left a.exponents b.exponents (a.fits ∙ sym b.fits))
      ∙ sym (times_comm (difference (maximum a b) b) b ∙ times_difference b (maximum a b) (divides_max_right a.exponents b.exponents (a.fits ∙ sym b.fits)))

  -- a cofactor times its monomial is the least common multiple
  pub lcm_left : (a b : Monomial n) → difference (maximum a b) a · a ≡ maximum a b
  lcm_left a b = times_comm (difference (maximum a b) a) a ∙ times_difference a (maximum a b) (divides_max_left a.exponents b.exponents (a.fits ∙ sym b.fits))

  pub lcm_least : (a b m l : Monomial n) → m · a ≡ l · b
      → (u : Monomial n) × (m ≡ u · difference (maximum a b) a) × (l ≡ u · difference (maximum a b) b)
  lcm_least a b m l e = (
    difference m (difference (maximum a b) a),
    sym (same_monomial (difference m (difference (maximum a b) a) · difference (maximum a b) a) m
        (cofactor_left a.exponents b.exponents m.exponents l.exponents (b.fits ∙ sym a.fits) (m.fits ∙ sym a.fits) (l.fits ∙ sym a.fits) (ap (λ x. x.exponents) e))),
    sym (same_monomial (difference m (difference (maximum a b) a) · difference (maximum a b) b) l
        (cofactor_right a.exponents b.exponents m.exponents l.exponents (b.fits ∙ sym a.fits) (m.fits ∙ sym a.fits) (l.fits ∙ sym a.fits) (ap (λ x. x.exponents) e))),
  )
