-- Divisibility of exponent tuples: a partial order in which the greater entries make the least common multiple
use Rattle.std.proofs.Common.{ℕ, ◌≤◌, ◌≡◌, List, [], ◌∷◌, length, refl, ap₂, arith}
use Rattle.fm_tuple.specs.Tuple.{tuple_sum, tuple_maximum, TupleDivides}

pub divides_itself : (a : List ℕ) → TupleDivides a a
divides_itself [] = tt
divides_itself (i ∷ a) = (omega arith, divides_itself a)

pub divides_trans : (a b c : List ℕ) → TupleDivides a b → TupleDivides b c → TupleDivides a c
divides_trans [] b c d e = tt
divides_trans (i ∷ a) [] c d e = elim d [ ]
divides_trans (i ∷ a) (j ∷ b) [] d e = elim e [ ]
divides_trans (i ∷ a) (j ∷ b) (k ∷ c) d e =
    let below : i ≤ j = d.0 in
    let above : j ≤ k = e.0 in
    (omega arith, divides_trans a b c d.1 e.1)

pub divides_antisymm : (a b : List ℕ) → TupleDivides a b → TupleDivides b a → a ≡ b
divides_antisymm [] [] d e = refl
divides_antisymm [] (j ∷ b) d e = elim e [ ]
divides_antisymm (i ∷ a) [] d e = elim d [ ]
divides_antisymm (i ∷ a) (j ∷ b) d e =
    let below : i ≤ j = d.0 in
    let above : j ≤ i = e.0 in
    let head : i ≡ j = omega arith in
    ap₂ (λ x y. x ∷ y) head (divides_antisymm a b d.1 e.1)

pub divides_sum : (a b : List ℕ) → length a ≡ length b → TupleDivides a (tuple_sum a b)
divides_sum [] b l = tt
divides_sum (i ∷ a) [] l = absurd (omega arith)
divides_sum (i ∷ a) (j ∷ b) l = (omega arith, divides_sum a b (omega arith))

pub divides_maximum : (a b : List ℕ) → length a ≡ length b → TupleDivides a (tuple_maximum a b) × TupleDivides b (tuple_maximum a b)
divides_maximum [] [] l = (tt, tt)
divides_maximum [] (j ∷ b) l = absurd (omega arith)
divides_maximum (i ∷ a) [] l = absurd (omega arith)
divides_maximum (i ∷ a) (j ∷ b) l =
    let rest = divides_maximum a b (omega arith) in
    ((omega arith, rest.0), (omega arith, rest.1))

pub maximum_divides : (a b c : List ℕ) → TupleDivides a c → TupleDivides b c → TupleDivides (tuple_maximum a b) c
maximum_divides [] b c d e = tt
maximum_divides (i ∷ a) [] c d e = tt
maximum_divides (i ∷ a) (j ∷ b) [] d e = elim d [ ]
maximum_divides (i ∷ a) (j ∷ b) (k ∷ c) d e =
    let left : i ≤ k = d.0 in
    let right : j ≤ k = e.0 in
    (omega arith, maximum_divides a b c d.1 e.1)
