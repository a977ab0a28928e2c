-- The problem that is drawn from a number.
use Rattle.std.specs.Prelude.{ℕ, zero, suc, ◌+◌, ◌==◌, if◌then◌else◌, List, [], ◌∷◌, ◌++◌, codes, decimal}
use Rattle.fm_gfp.specs.declared.prime.Prime.TheVariants.{Two}
use Rattle.fm_mono.specs.declared.order.Order.TheVariants.{Grevlex}
use Rattle.fm_poly.specs.Polys.{PolyValue}
use Rattle.fm_poly.specs.declared.ring.Ring.{Ring}
use Rattle.fm_words.specs.Parts.{Bytes}
use Rattle.fm_problem.specs.declared.ideal.Ideal.{Ideal}
use Rattle.fm_problem.specs.declared.problem.Problem.{Problem}
use Rattle.fm_problem.specs.declared.query.Query.{Query}
use Rattle.fm_problem.specs.declared.query.Query as queries
use Rattle.fm_sample.specs.Draws.{next, drawn}

-- GF(2)[x, y, z, w]
abbrev pub sample_ring : Ring
sample_ring = record { prime = Two; vars = 4; order = Grevlex }

abbrev pub variables : List Bytes
variables = codes "x" ∷ codes "y" ∷ codes "z" ∷ codes "w" ∷ []

-- ---- monomials: four draws are the exponents of x, y, z, w

-- the monomial with these exponents; where all of them are 0, that of x is 1
abbrev pub exponents_of : (a b c d : ℕ) → List ℕ
exponents_of a b c d = (if a + (b + (c + d)) == 0 then 1 else a) ∷ b ∷ c ∷ d ∷ []

abbrev pub monomial : List ℕ → PolyValue
monomial a = record { ring = sample_ring; terms = record { mono = a; coeff = 1 } ∷ [] }

-- the exponents that are drawn from s
unfoldable pub exponents : ℕ → List ℕ
exponents s = exponents_of (drawn (next s)) (drawn (next (next s))) (drawn (next (next (next s)))) (drawn (next (next (next (next s)))))

-- the number that stands after c monomials
abbrev pub past : (c s : ℕ) → ℕ
past zero s = s
past (suc c) s = next (next (next (next (past c s))))

-- the first c monomials that are drawn from s
abbrev pub monomials : (c s : ℕ) → List PolyValue
monomials zero s = []
monomials (suc c) s = monomials c s ++ monomial (exponents (past c s)) ∷ []

-- ---- ideals: a draw tells whether there are two, three or four generators, which are drawn then

abbrev pub count : ℕ → ℕ
count s = 2 + drawn (next s)

-- the number that stands after an ideal
unfoldable pub past_ideal : ℕ → ℕ
past_ideal s = past (count s) (next s)

unfoldable pub generators : ℕ → List PolyValue
generators s = monomials (count s) (next s)

-- `I1`, `I2`, ..
unfoldable pub ideal_name : ℕ → Bytes
ideal_name k = 73 ∷ decimal k

-- the number that stands after n ideals
abbrev pub past_ideals : (n s : ℕ) → ℕ
past_ideals zero s = s
past_ideals (suc n) s = past_ideal (past_ideals n s)

-- the first n ideals that are drawn from s
abbrev pub ideals : (n s : ℕ) → List Ideal
ideals zero s = []
ideals (suc n) s = ideals n s ++ record { name = ideal_name (suc n); generators = generators (past_ideals n s) } ∷ []

-- ---- queries

abbrev pub x : PolyValue
x = monomial (1 ∷ 0 ∷ 0 ∷ 0 ∷ [])

-- on each of the first n ideals `zero 2`, `zero 3` and `invert 2` with x
abbrev pub queries_on : ℕ → List Query
queries_on zero = []
queries_on (suc n) = queries_on n ++ queries.TheVariants.Zero 2 n ∷ queries.TheVariants.Zero 3 n ∷ queries.TheVariants.Invert 2 n x ∷ []

-- the problem that is drawn from a number
unfoldable pub sample_problem : ℕ → Problem
sample_problem n = record { ring = sample_ring; vars = variables; ideals = ideals 20 n; queries = queries_on 20 }
