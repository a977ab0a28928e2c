-- Columns by their numbers, columns above columns, and rows.
use Rattle.std.specs.Prelude.{ℕ, ◌≤◌, List, [], ◌∷◌, ◌++◌, map}
use Rattle.fm_gfp.specs.declared.prime.Prime.{Prime}
use Rattle.fm_algebra.specs.Matrix.{component}
use Rattle.fm_algebra.specs.Polynomials.{Polynomial, polynomials}

-- each is the number of one of c columns, counted from 1
abbrev pub AreNumbers : ℕ → List ℕ → Type 0
AreNumbers c [] = Unit {0}
AreNumbers c (j ∷ js) = (1 ≤ j) × (j ≤ c) × AreNumbers c js

-- each column of the first list above that of the second with its number
abbrev pub each_above : {X : Type 0} → List (List X) → List (List X) → List (List X)
each_above [] ds = []
each_above (c ∷ cs) [] = []
each_above (c ∷ cs) (d ∷ ds) = (c ++ d) ∷ each_above cs ds

-- the entries of the columns in row i, counted from 0
abbrev pub row_of : (p : Prime) (n : ℕ) → ℕ → List (List (Polynomial p n)) → List (Polynomial p n)
row_of p n i cs = map (λ c. component (polynomials p n) c i) cs
