-- Exponent tuples: a monomial in n variables is the list of its n exponents, whole numbers without a bound.
use Rattle.std.specs.Prelude.{ℕ, ◌+◌, ◌-◌, ◌*◌, ◌≤◌, List, [], ◌∷◌, map, max}

-- f of the entries of two tuples, place by place
abbrev pub entrywise : (ℕ → ℕ → ℕ) → List ℕ → List ℕ → List ℕ
entrywise f [] b = []
entrywise f (i ∷ a) [] = []
entrywise f (i ∷ a) (j ∷ b) = f i j ∷ entrywise f a b

-- a + b, the exponents of the product of two monomials
abbrev pub tuple_sum : List ℕ → List ℕ → List ℕ
tuple_sum a b = entrywise ◌+◌ a b

-- a - b, the exponents of a quotient
abbrev pub tuple_difference : List ℕ → List ℕ → List ℕ
tuple_difference a b = entrywise ◌-◌ a b

-- the greater entry at each place, the exponents of the least common multiple
abbrev pub tuple_maximum : List ℕ → List ℕ → List ℕ
tuple_maximum a b = entrywise max a b

-- q * a, the exponents of the twist of a monomial by q
abbrev pub tuple_multiple : ℕ → List ℕ → List ℕ
tuple_multiple q a = map (λ i. q * i) a

-- each entry of a is at most the entry of b in its place: the monomial of a divides that of b
abbrev pub TupleDivides : List ℕ → List ℕ → Type 0
TupleDivides [] b = Unit {0}
TupleDivides (i ∷ a) [] = ⊥
TupleDivides (i ∷ a) (j ∷ b) = (i ≤ j) × TupleDivides a b
