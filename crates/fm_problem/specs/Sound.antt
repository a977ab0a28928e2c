-- Sound problems: what holds of every problem that is read.
use Rattle.std.specs.Prelude.{◌≡◌, ◌≢◌, ◌≤◌, ◌<◌, ℕ, Bool, true, nat_le, List, [], ◌∷◌, All, length}
use Rattle.std.specs.List.{list_all}
use Rattle.fm_poly.specs.declared.term.Term.{Term}
use Rattle.fm_poly.specs.declared.ring.Ring.{Ring}
use Rattle.fm_poly.specs.Polys.{PolyValue}
use Rattle.fm_words.specs.Parts.{Bytes}
use Rattle.fm_words.specs.Words.{is_name}
use Rattle.fm_text.specs.SumOfTerms.{IsPolynomialOf}
use Rattle.fm_problem.specs.Limits.{longest_name, most_generators, most_queries, greatest_stage, greatest_exponent}
use Rattle.fm_problem.specs.declared.problem.Problem.{Problem}
use Rattle.fm_problem.specs.declared.ideal.Ideal.{Ideal}
use Rattle.fm_problem.specs.declared.query.Query.{Query}
use Rattle.fm_problem.specs.declared.query.Query as queries
use Rattle.fm_problem.specs.Problems.{IsBounded, ideal_names}

-- a name within the limit
pub record IsShortName (n : Bytes) : Type 0 where
  pub name : is_name n ≡ true
  pub short : length n ≤ longest_name

-- the name is none of these
abbrev pub IsAbsent : Bytes → List Bytes → Type 0
IsAbsent n [] = Unit {0}
IsAbsent n (m ∷ ms) = (m ≢ n) × IsAbsent n ms

-- no name stands twice
abbrev pub AreApart : List Bytes → Type 0
AreApart [] = Unit {0}
AreApart (n ∷ ns) = IsAbsent n ns × AreApart ns

-- an ideal of the ring: a name, and nonzero generators within the limit
pub record IsIdealOf (r : Ring) (i : Ideal) : Type 0 where
  pub named : IsShortName i.name
  pub of_ring : All (IsPolynomialOf r) i.generators
  pub nonzero : All (λ f. f.terms ≢ []) i.generators
  pub few : length i.generators ≤ most_generators

-- a query on ideals of the problem, with degrees, stages and polynomials within the limits and of the ring
abbrev pub IsQueryOf : Problem → Query → Type 0
IsQueryOf q (queries.TheVariants.Zero i k) = (i ≤ q.ring.vars) × (k < length q.ideals)
IsQueryOf q (queries.TheVariants.Class i k e z) = (i ≤ q.ring.vars) × (k < length q.ideals) × (e ≤ greatest_stage) × All (IsPolynomialOf q.ring) z
IsQueryOf q (queries.TheVariants.Root i k) = (i ≤ q.ring.vars) × (k < length q.ideals)
IsQueryOf q (queries.TheVariants.Invert i k f) = (i ≤ q.ring.vars) × (k < length q.ideals) × IsPolynomialOf q.ring f
IsQueryOf q (queries.TheVariants.Support i k) = (i ≤ q.ring.vars) × (k < length q.ideals)
IsQueryOf q (queries.TheVariants.Map i k j) = (i ≤ q.ring.vars) × (k < length q.ideals) × (j < length q.ideals)
IsQueryOf q (queries.TheVariants.Member k f) = (k < length q.ideals) × IsPolynomialOf q.ring f
IsQueryOf q (queries.TheVariants.Resolution i k) = (i ≤ q.ring.vars) × (k < length q.ideals)
IsQueryOf q (queries.TheVariants.ExtOf i k) = (i ≤ q.ring.vars) × (k < length q.ideals)

-- a problem within the limits, whose names are apart and whose polynomials, ideals and queries are sound
pub record IsProblem (q : Problem) : Type 0 where
  pub bounded : IsBounded q
  pub variables : All IsShortName q.vars
  pub variables_apart : AreApart q.vars
  pub ideals : All (IsIdealOf q.ring) q.ideals
  pub ideals_apart : AreApart (ideal_names q)
  pub few_queries : length q.queries ≤ most_queries
  pub asked : All (IsQueryOf q) q.queries

-- ---- exponents
-- each exponent is one that can be written
abbrev pub are_small : List ℕ → Bool
are_small a = list_all (λ e. nat_le e greatest_exponent) a

abbrev pub AreSmallTerms : List Term → Type 0
AreSmallTerms [] = Unit {0}
AreSmallTerms (t ∷ ts) = (are_small t.mono ≡ true) × AreSmallTerms ts

abbrev pub AreSmall : List PolyValue → Type 0
AreSmall [] = Unit {0}
AreSmall (f ∷ fs) = AreSmallTerms f.terms × AreSmall fs

abbrev pub AreSmallIdeals : List Ideal → Type 0
AreSmallIdeals [] = Unit {0}
AreSmallIdeals (i ∷ is) = AreSmall i.generators × AreSmallIdeals is

abbrev pub IsSmallQuery : Query → Type 0
IsSmallQuery (queries.TheVariants.Class i k e z) = AreSmall z
IsSmallQuery (queries.TheVariants.Zero i k) = Unit {0}
IsSmallQuery (queries.TheVariants.Root i k) = Unit {0}
IsSmallQuery (queries.TheVariants.Invert i k f) = AreSmallTerms f.terms
IsSmallQuery (queries.TheVariants.Support i k) = Unit {0}
IsSmallQuery (queries.TheVariants.Map i k j) = Unit {0}
IsSmallQuery (queries.TheVariants.Member k f) = AreSmallTerms f.terms
IsSmallQuery (queries.TheVariants.Resolution i k) = Unit {0}
IsSmallQuery (queries.TheVariants.ExtOf i k) = Unit {0}

abbrev pub AreSmallQueries : List Query → Type 0
AreSmallQueries [] = Unit {0}
AreSmallQueries (z ∷ zs) = IsSmallQuery z × AreSmallQueries zs

-- the polynomials of a problem have exponents that can be written
pub record HasSmallExponents (q : Problem) : Type 0 where
  pub ideals : AreSmallIdeals q.ideals
  pub queries : AreSmallQueries q.queries
