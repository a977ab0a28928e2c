-- What the lines of a report have said so far.
use Rattle.std.specs.Prelude.{ℕ, suc, ◌-◌, Bool, true, false, ◌&&◌, if◌then◌else◌, nat_eq, nat_lt, List, [], ◌∷◌, ◌++◌, map, length, Option, Some, None, option_map, is_none, Result, Ok, Err}
use Rattle.fm_gfp.specs.declared.prime.Prime.TheVariants.{Two}
use Rattle.fm_mono.specs.declared.order.Order.TheVariants.{Grevlex}
use Rattle.fm_words.specs.Options.{◌>>=◌, where_so, all_of}
use Rattle.fm_poly.specs.declared.ring.Ring.{Ring}
use Rattle.fm_words.specs.Parts.{Bytes}
use Rattle.fm_words.specs.Steps.{place}
use Rattle.fm_problem.specs.Statements.{Statement, RingLine, OrderLine, IdealLine}
use Rattle.fm_problem.specs.Problems.{ring_of, with_order, with_ideal, query_in, ideal_names}
use Rattle.fm_problem.specs.declared.problem.Problem.{Problem}
use Rattle.fm_problem.specs.declared.query.Query.{Query}
use Rattle.fm_problem.specs.declared.query.Query as queries
use Rattle.fm_cert.specs.Fields.{Values}
use Rattle.fm_cert.specs.Kinds.{EndKind, Kind, end_row, row}
use Rattle.fm_cert.specs.Kinds as kinds
use Rattle.fm_cert.specs.Lines.{Line, Head, Question, Row}
use Rattle.fm_report.specs.Parts.{Part}
use Rattle.fm_report.specs.Parts as parts

-- The matrices that lines have named for one ideal in one degree, each kind in its order: d_1, d_2, ..; theta_0, theta_1, ..; generators Z of
-- the cocycles; the kernels K_0, K_1, .., of which the first is N, the relations; and the generating morphism U.
pub record Block : Type 0 where
  pub ideal : ℕ
  pub degree : ℕ
  pub differentials : List Part
  pub lift : List Part
  pub cocycles : List Part
  pub kernels : List Part
  pub morphism : List Part

unfoldable pub new_block : (ideal degree : ℕ) → Block
new_block k i = record { ideal = k; degree = i; differentials = []; lift = []; cocycles = []; kernels = []; morphism = [] }

-- an answer: its kind, and what it says
pub record Answer : Type 0 where
  pub kind : EndKind
  pub values : Values (end_row kind)

-- The head; the number of queries so far; and of the query at hand its question, its answer, its parts, the finished blocks and the block at
-- hand, and the lift of the identity.
pub record Sheet : Type 0 where
  pub head : Option Problem
  pub count : ℕ
  pub asked : Option Query
  pub answer : Option Answer
  pub parts : List Part
  pub finished : List Block
  pub block : Option Block
  pub identity : List Part

unfoldable pub blank : Sheet
blank = record { head = None; count = 0; asked = None; answer = None; parts = []; finished = []; block = None; identity = [] }

-- the ring and the names of its variables; before any ring line, a ring without variables
abbrev pub ring_in : Option Problem → Ring
ring_in None = record { prime = Two; vars = 0; order = Grevlex }
ring_in (Some q) = q.ring

abbrev pub names_in : Option Problem → List Bytes
names_in None = []
names_in (Some q) = q.vars

abbrev pub from_result : {A F : Type 0} → Result A F → Option A
from_result (Ok x) = Some x
from_result (Err e) = None

-- ---- the head

abbrev pub with_head : Sheet → Option Problem → Option Sheet
with_head s o = option_map (λ q. record s { head = Some q }) o

abbrev pub say_head : Sheet → Statement → Option Sheet
say_head s (RingLine p names) =
    where_so (is_none s.head && nat_lt 0 (length names)) (with_head s (from_result (ring_of (Some (RingLine p names)))))
say_head s (OrderLine o) = with_head s (option_map (with_order o) s.head)
say_head s (IdealLine m texts) = with_head s (s.head >>= λ q. from_result (with_ideal q m texts))
say_head s other = None

-- ---- `query K QUESTION`, and the answer

abbrev pub begin_query : Sheet → ℕ → Query → Sheet
begin_query s k z =
    record { head = s.head; count = k; asked = Some z; answer = None; parts = []; finished = []; block = None; identity = [] }

abbrev pub say_question : Sheet → ℕ → Statement → Option Sheet
say_question s k question =
    where_so (nat_eq k (suc s.count)) (s.head >>= λ q. option_map (begin_query s k) (from_result (query_in q question)))

-- a query has one answer
abbrev pub say_answer : Sheet → Answer → Option Sheet
say_answer s a = where_so (is_none s.answer) (s.asked >>= λ z. Some (record s { answer = Some a }))

-- whether a query ends so with an answer
abbrev pub is_answer : EndKind → Bool
is_answer kinds.Budget = false
is_answer kinds.Exponents = false
is_answer kinds.WrongLength = false
is_answer kinds.NotCocycle = false
is_answer kinds.NotContained = false
is_answer kind = true

abbrev pub say_end : Sheet → (kind : EndKind) → Values (end_row kind) → Option Sheet
say_end s kind values = if is_answer kind then say_answer s (record { kind = kind; values = values }) else Some s

-- ---- parts; their numbers count from 1

abbrev pub numbered : {A : Type 0} → List A → ℕ → Option A
numbered [] k = None
numbered (a ∷ more) k = if nat_eq k 1 then Some a else numbered more (k - 1)

abbrev pub say_part : Sheet → ℕ → Option Part → Option Sheet
say_part s k o = where_so (nat_eq k (suc (length s.parts))) (option_map (λ a. record s { parts = s.parts ++ a ∷ [] }) o)

abbrev pub one_part : Sheet → (Part → Part) → ℕ → Option Part
one_part s f a = option_map f (numbered s.parts a)

abbrev pub two_parts : Sheet → (Part → Part → Part) → ℕ → ℕ → Option Part
two_parts s f a b = numbered s.parts a >>= λ x. option_map (f x) (numbered s.parts b)

-- a number from 1 on, counted from 0
abbrev pub from_zero : ℕ → Option ℕ
from_zero c = where_so (nat_lt 0 c) (Some (c - 1))

-- ---- blocks

-- the ideal and the degree are the next that the query speaks of: a map has a block for its source and one for its target
abbrev pub is_about : Query → List Block → ℕ → ℕ → Bool
is_about (queries.TheVariants.Zero i k) [] m j = nat_eq m k && nat_eq j i
is_about (queries.TheVariants.Class i k e z) [] m j = nat_eq m k && nat_eq j i
is_about (queries.TheVariants.Root i k) [] m j = nat_eq m k && nat_eq j i
is_about (queries.TheVariants.Invert i k f) [] m j = nat_eq m k && nat_eq j i
is_about (queries.TheVariants.Support i k) [] m j = nat_eq m k && nat_eq j i
is_about (queries.TheVariants.Map i k t) [] m j = nat_eq m k && nat_eq j i
is_about (queries.TheVariants.Map i k t) (b ∷ []) m j = nat_eq m t && nat_eq j i
is_about (queries.TheVariants.Resolution i k) [] m j = nat_eq m k && nat_eq j i
is_about (queries.TheVariants.ExtOf i k) [] m j = nat_eq m k && nat_eq j i
is_about z blocks m j = false

abbrev pub with_last : List Block → Option Block → List Block
with_last bs None = bs
with_last bs (Some b) = bs ++ b ∷ []

-- all blocks of the query at hand
abbrev pub blocks_of : Sheet → List Block
blocks_of s = with_last s.finished s.block

-- `datum NAME DEGREE` begins a block
abbrev pub say_datum : Sheet → Bytes → ℕ → Option Sheet
say_datum s name j =
    s.head >>= λ q. s.asked >>= λ z. place 0 name (ideal_names q) >>= λ m.
    where_so (is_about z (blocks_of s) m j) (Some (record s { finished = blocks_of s; block = Some (new_block m j) }))

-- the matrix with this number is named in the block at hand, where n is its index and `wanted` the one that is next
abbrev pub say_named : Sheet → (Block → ℕ) → ℕ → (Block → Part → Block) → ℕ → Option Sheet
say_named s wanted n add k =
    s.block >>= λ b. where_so (nat_eq n (wanted b)) (option_map (λ x. record s { block = Some (add b x) }) (numbered s.parts k))

abbrev pub add_differential : Block → Part → Block
add_differential b x = record b { differentials = b.differentials ++ x ∷ [] }

-- d_1, d_2, .. of the block at hand; no verdict on membership rests on a block, and under it d_1 may stand without one
abbrev pub say_differential : Sheet → Option Block → Option Query → (j k : ℕ) → Option Sheet
say_differential s None (Some (queries.TheVariants.Member m f)) j k = option_map (λ x. s) (numbered s.parts k)
say_differential s None z j k = None
say_differential s (Some b) z j k = say_named s (λ b. suc (length b.differentials)) j add_differential k

abbrev pub add_lift : Block → Part → Block
add_lift b x = record b { lift = b.lift ++ x ∷ [] }

abbrev pub add_cocycles : Block → Part → Block
add_cocycles b x = record b { cocycles = b.cocycles ++ x ∷ [] }

abbrev pub add_kernel : Block → Part → Block
add_kernel b x = record b { kernels = b.kernels ++ x ∷ [] }

abbrev pub add_morphism : Block → Part → Block
add_morphism b x = record b { morphism = b.morphism ++ x ∷ [] }

-- Z and U have one matrix each, and N is the first kernel
abbrev pub say_cocycles : Sheet → ℕ → Option Sheet
say_cocycles s k = say_named s (λ b. length b.cocycles) 0 add_cocycles k

abbrev pub say_relations : Sheet → ℕ → Option Sheet
say_relations s k = say_named s (λ b. length b.kernels) 0 add_kernel k

abbrev pub say_morphism : Sheet → ℕ → Option Sheet
say_morphism s k = say_named s (λ b. length b.morphism) 0 add_morphism k

abbrev pub say_kernel : Sheet → ℕ → ℕ → Option Sheet
say_kernel s j k = where_so (nat_lt 0 j) (say_named s (λ b. length b.kernels) j add_kernel k)

abbrev pub say_identity : Sheet → ℕ → ℕ → Option Sheet
say_identity s j k =
    where_so (nat_eq j (length s.identity)) (option_map (λ x. record s { identity = s.identity ++ x ∷ [] }) (numbered s.parts k))

-- `stable T W`: the chain repeats from T on
abbrev pub say_stable : Sheet → ℕ → Option Sheet
say_stable s t = s.block >>= λ b. where_so (nat_lt t (length b.kernels)) (Some s)

-- `done K`: the query has ended
abbrev pub say_done : Sheet → ℕ → Option Sheet
say_done s k =
    where_so (nat_eq k s.count) (s.asked >>= λ z.
    Some (record { head = s.head; count = s.count; asked = None; answer = None; parts = []; finished = []; block = None; identity = [] }))

-- ---- lines

abbrev pub say_row : Sheet → (kind : Kind) → Values (row kind) → Option Sheet
say_row s (kinds.Ended e) v = say_end s e v
say_row s kinds.Given (k, (rows, (columns, u))) = say_part s k (Some (parts.given rows columns))
say_row s kinds.Twist (k, (a, (e, u))) = say_part s k (one_part s (λ x. parts.twist x e) a)
say_row s kinds.Flip (k, (a, u)) = say_part s k (one_part s parts.flip a)
say_row s kinds.Beside (k, (a, (b, u))) = say_part s k (two_parts s parts.beside a b)
say_row s kinds.Stack (k, (a, (b, u))) = say_part s k (two_parts s parts.stack a b)
say_row s kinds.Times (k, (a, (b, u))) = say_part s k (two_parts s parts.times a b)
say_row s kinds.Pick (k, (a, (cs, u))) = say_part s k (all_of (map from_zero cs) >>= λ js. one_part s (λ x. parts.pick x js) a)
say_row s kinds.Datum (name, (j, u)) = say_datum s name j
say_row s kinds.D (j, (k, u)) = say_differential s s.block s.asked j k
say_row s kinds.Theta (j, (k, u)) = say_named s (λ b. length b.lift) j add_lift k
say_row s kinds.Cocycles (k, more) = say_cocycles s k
say_row s kinds.Z (k, u) = say_cocycles s k
say_row s kinds.Relations (k, more) = say_relations s k
say_row s kinds.N (k, u) = say_relations s k
say_row s kinds.Morphism (k, u) = say_morphism s k
say_row s kinds.U (k, u) = say_morphism s k
say_row s kinds.Chain (j, (k, more)) = say_kernel s j k
say_row s kinds.K (j, (k, u)) = say_kernel s j k
say_row s kinds.Stable (t, more) = say_stable s t
say_row s kinds.Lambda (j, (k, u)) = say_identity s j k
say_row s kinds.Done (k, u) = say_done s k
say_row s kind v = Some s

-- what has been said after one more line; None where it can't be said there
unfoldable pub say : Sheet → Line → Option Sheet
say s (Head statement) = say_head s statement
say s (Question k question) = say_question s k question
say s (Row kind values) = say_row s kind values
