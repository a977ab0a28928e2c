-- What a problem text says, and its first fault: line by line, form before all else on a line, then from left to right.
use Rattle.std.specs.Prelude.{◌≡◌, ◌≤◌, ℕ, ◌+◌, Bool, true, false, ◌&&◌, if◌then◌else◌, nat_le, nat_lt, List, [], ◌∷◌, ◌++◌, map, length, Option, Some, None, is_some, Result, Ok, Err}
use Rattle.fm_gfp.specs.declared.prime.Prime.{Prime}
use Rattle.fm_gfp.specs.Primes.{prime_of}
use Rattle.fm_mono.specs.declared.order.Order.{Order}
use Rattle.fm_mono.specs.declared.order.Order.TheVariants.{Grevlex}
use Rattle.fm_poly.specs.Polys.{PolyValue}
use Rattle.fm_poly.specs.declared.term.Term.{Term}
use Rattle.fm_words.specs.Parts.{Bytes}
use Rattle.fm_words.specs.Lines.{NumberedLine, lines_of, end_of}
use Rattle.fm_problem.specs.declared.fault_kind.FaultKind.{FaultKind}
use Rattle.fm_problem.specs.declared.fault_kind.FaultKind.TheVariants.{Syntax, UnknownName, Repeated, Range, NotPrime, Limit}
use Rattle.fm_problem.specs.Limits.{most_variables, longest_name, most_ideals, most_generators, most_queries, greatest_stage, greatest_exponent}
use Rattle.fm_problem.specs.declared.keyword.Question.{Question}
use Rattle.fm_problem.specs.declared.keyword.Question.TheVariants.{Zero, Root, Support, Resolution, Ext}
use Rattle.fm_problem.specs.declared.problem.Problem.{Problem}
use Rattle.fm_problem.specs.declared.ideal.Ideal.{Ideal}
use Rattle.fm_problem.specs.declared.query.Query.{Query}
use Rattle.fm_problem.specs.declared.query.Query as queries
use Rattle.fm_problem.specs.Faults.{Fault, on_line}
use Rattle.fm_words.specs.Steps.{◌>>=◌, steps, or_fault, place}
use Rattle.fm_text.specs.Polynomials.{Rules, spelled_polynomial}
use Rattle.fm_problem.specs.Statements.{Statement, RingLine, OrderLine, IdealLine, ModuleLine, ClassLine, InvertLine, MapLine, MemberLine, statement_of}

-- the variables have names, and the ideals are few
pub record IsBounded (q : Problem) : Type 0 where
  pub named : length q.vars ≡ q.ring.vars
  pub some : 1 ≤ q.ring.vars
  pub few : q.ring.vars ≤ most_variables
  pub few_ideals : length q.ideals ≤ most_ideals

-- ---- the ring

-- one more variable: Repeated comes before Limit
abbrev pub plus_name : List Bytes → Bytes → Result (List Bytes) FaultKind
plus_name vs w =
    if is_some (place 0 w vs) then Err Repeated
    else (if nat_lt (length vs) most_variables && nat_le (length w) longest_name then Ok (vs ++ w ∷ []) else Err Limit)

-- a problem with a ring and nothing else
abbrev pub bare : Prime → List Bytes → Problem
bare p vs = record { ring = record { prime = p; vars = length vs; order = Grevlex }; vars = vs; ideals = []; queries = [] }

-- the problem that a ring line begins
abbrev pub ring_of : Option Statement → Result Problem FaultKind
ring_of (Some (RingLine n names)) = or_fault NotPrime (prime_of n) >>= λ p. (steps plus_name [] names >>= λ vs. Ok (bare p vs))
ring_of s = Err Syntax

-- the order of an order line
abbrev pub order_in : Option Statement → Option Order
order_in (Some (OrderLine o)) = Some o
order_in s = None

abbrev pub with_order : Order → Problem → Problem
with_order o q =
    record { ring = record { prime = q.ring.prime; vars = q.ring.vars; order = o }; vars = q.vars; ideals = q.ideals; queries = q.queries }

-- ---- polynomials, ideals

abbrev pub rules_of : Problem → Rules
rules_of q = record { ring = q.ring; names = q.vars; bound = greatest_exponent }

-- the polynomial that a text spells, or the first fault from left to right
abbrev pub polynomial_in : Rules → Bytes → Result PolyValue FaultKind
polynomial_in r text = on_line (spelled_polynomial r text)

-- generators: how many are written, and those that aren't zero
pub record Generators : Type 0 where
  pub written : ℕ
  pub kept : List PolyValue

abbrev pub unless_empty : List PolyValue → PolyValue → List Term → List PolyValue
unless_empty fs f [] = fs
unless_empty fs f (t ∷ ts) = fs ++ f ∷ []

-- one more polynomial, if it isn't zero
abbrev pub unless_zero : List PolyValue → PolyValue → List PolyValue
unless_zero fs f = unless_empty fs f f.terms

-- one more generator; one too many is a fault before its text is read
abbrev pub plus_generator : Rules → Generators → Bytes → Result Generators FaultKind
plus_generator r g text =
    if nat_lt g.written most_generators
    then (polynomial_in r text >>= λ f. Ok (record { written = g.written + 1; kept = unless_zero g.kept f }))
    else Err Limit

abbrev pub generators_in : Rules → List Bytes → Result (List PolyValue) FaultKind
generators_in r texts = steps (plus_generator r) (record { written = 0; kept = [] }) texts >>= λ g. Ok g.kept

abbrev pub ideal_names : Problem → List Bytes
ideal_names q = map (λ i. i.name) q.ideals

abbrev pub plus_ideal : Problem → Bytes → List PolyValue → Problem
plus_ideal q n fs = record { ring = q.ring; vars = q.vars; ideals = q.ideals ++ record { name = n; generators = fs } ∷ []; queries = q.queries }

-- an ideal line: the count of ideals is judged first, then the name, then the generators
abbrev pub with_ideal : Problem → Bytes → List Bytes → Result Problem FaultKind
with_ideal q n texts =
    if nat_lt (length q.ideals) most_ideals
    then (if is_some (place 0 n (ideal_names q)) then Err Repeated
    else (if nat_le (length n) longest_name then (generators_in (rules_of q) texts >>= λ fs. Ok (plus_ideal q n fs)) else Err Limit))
    else Err Limit

-- ---- queries

-- a degree is at most the number of variables
abbrev pub degree_in : Problem → ℕ → Result ℕ FaultKind
degree_in q i = if nat_le i q.ring.vars then Ok i else Err Range

-- the number of the ideal of this name, from 0
abbrev pub ideal_in : Problem → Bytes → Result ℕ FaultKind
ideal_in q n = or_fault UnknownName (place 0 n (ideal_names q))

abbrev pub stage_in : ℕ → Result ℕ FaultKind
stage_in e = if nat_le e greatest_stage then Ok e else Err Limit

abbrev pub plus_entry : Rules → List PolyValue → Bytes → Result (List PolyValue) FaultKind
plus_entry r fs text = polynomial_in r text >>= λ f. Ok (fs ++ f ∷ [])

abbrev pub vector_in : Rules → List Bytes → Result (List PolyValue) FaultKind
vector_in r texts = steps (plus_entry r) [] texts

abbrev pub module_query : Question → ℕ → ℕ → Query
module_query Zero i k = queries.TheVariants.Zero i k
module_query Root i k = queries.TheVariants.Root i k
module_query Support i k = queries.TheVariants.Support i k
module_query Resolution i k = queries.TheVariants.Resolution i k
module_query Ext i k = queries.TheVariants.ExtOf i k

-- what a query line asks
abbrev pub query_in : Problem → Statement → Result Query FaultKind
query_in q (RingLine p names) = Err Syntax
query_in q (OrderLine o) = Err Syntax
query_in q (IdealLine n texts) = Err Syntax
query_in q (ModuleLine a i n) = degree_in q i >>= λ i. (ideal_in q n >>= λ k. Ok (module_query a i k))
query_in q (ClassLine i n e texts) =
    degree_in q i >>= λ i. (ideal_in q n >>= λ k. (stage_in e >>= λ e. (vector_in (rules_of q) texts >>= λ z. Ok (queries.TheVariants.Class i k e z))))
query_in q (InvertLine i n text) =
    degree_in q i >>= λ i. (ideal_in q n >>= λ k. (polynomial_in (rules_of q) text >>= λ f. Ok (queries.TheVariants.Invert i k f)))
query_in q (MapLine i n m) = degree_in q i >>= λ i. (ideal_in q n >>= λ k. (ideal_in q m >>= λ j. Ok (queries.TheVariants.Map i k j)))
query_in q (MemberLine n text) = ideal_in q n >>= λ k. (polynomial_in (rules_of q) text >>= λ f. Ok (queries.TheVariants.Member k f))

abbrev pub plus_query : Problem → Query → Problem
plus_query q z = record { ring = q.ring; vars = q.vars; ideals = q.ideals; queries = q.queries ++ z ∷ [] }

-- a query line: the count of queries is judged first
abbrev pub with_query : Problem → Statement → Result Problem FaultKind
with_query q s = if nat_lt (length q.queries) most_queries then (query_in q s >>= λ z. Ok (plus_query q z)) else Err Limit

-- ---- the text

-- a line after the ring line and the order line
abbrev pub with_line : Problem → Option Statement → Result Problem FaultKind
with_line q None = Err Syntax
with_line q (Some (RingLine p names)) = Err Syntax
with_line q (Some (OrderLine o)) = Err Syntax
with_line q (Some (IdealLine n texts)) = with_ideal q n texts
with_line q (Some s) = with_query q s

abbrev pub at_line : {A : Type 0} → ℕ → Result A FaultKind → Result A Fault
at_line l (Ok x) = Ok x
at_line l (Err k) = Err (record { line = l; kind = k })

abbrev pub plus_line : Problem → NumberedLine → Result Problem Fault
plus_line q l = at_line l.number (with_line q (statement_of l.text))

-- directly after the ring line an order line may stand
abbrev pub after_second : Option Order → Problem → NumberedLine → List NumberedLine → Result Problem Fault
after_second None q l ls = steps plus_line q (l ∷ ls)
after_second (Some o) q l ls = steps plus_line (with_order o q) ls

abbrev pub after_ring : Problem → List NumberedLine → Result Problem Fault
after_ring q [] = Ok q
after_ring q (l ∷ ls) = after_second (order_in (statement_of l.text)) q l ls

-- the first line is a ring line; where no line comes, that is a fault after the last one
abbrev pub from_lines : ℕ → List NumberedLine → Result Problem Fault
from_lines end [] = Err (record { line = end; kind = Syntax })
from_lines end (l ∷ ls) = at_line l.number (ring_of (statement_of l.text)) >>= λ q. after_ring q ls

-- what a problem text says, or its first fault
unfoldable pub problem_of : Bytes → Result Problem Fault
problem_of text = from_lines (end_of text) (lines_of text)

abbrev pub query_of_statement : Problem → Option Statement → Result Query FaultKind
query_of_statement q None = Err Syntax
query_of_statement q (Some s) = query_in q s

-- what a query line asks after the lines of a problem, or its first fault; its number is 1
unfoldable pub query_of : Problem → Bytes → Result Query Fault
query_of q line = at_line 1 (query_of_statement q (statement_of line))
