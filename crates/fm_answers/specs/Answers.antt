-- The report of a query: what its plan is asked, and what is printed of the plan's end.
use Rattle.std.specs.Prelude.{ℕ, ◌+◌, ◌<◌, ◌^◌, List, [], ◌∷◌, ◌++◌, map, length, slice_get, Option, Some, None, Result, Ok, Err, Bool, true, false, not, ◌&&◌}
use Rattle.fm_algebra.specs.Matrix.{listed}
use Rattle.fm_limit.specs.Facts.{first_entries}
use Rattle.fm_limit.specs.ResolvedIdeal.{rank}
use Rattle.fm_poly.specs.Polys.{PolyValue, meaning}
use Rattle.fm_plan.specs.Tasks.{Unanswered, stopped, Refusal, wrong_length, not_a_cocycle, not_contained, refused}
use Rattle.fm_plan.specs.Results as plan_results
use Rattle.fm_plan.specs.Results.{differentials_of}
use Rattle.fm_plan.specs.Queries.{BaseOf, Found, found_zero, found_class, found_root, found_invert, found_support, found_map, found_member, found_resolution, found_ext, ask_zero, ask_class, ask_root, ask_invert, ask_support, ask_map, ask_member, ask_resolution, ask_ext, plan, is_yes, stage_of, power_of, onto_of, stable_of}
use Rattle.fm_plan.specs.Queries as plans
use Rattle.fm_words.specs.Parts.{Bytes}
use Rattle.fm_problem.specs.declared.problem.Problem.{Problem}
use Rattle.fm_problem.specs.declared.ideal.Ideal.{Ideal}
use Rattle.fm_problem.specs.declared.query.Query.{Query}
use Rattle.fm_problem.specs.declared.query.Query as queries
use Rattle.fm_run.specs.declared.task.Task.{Task}
use Rattle.fm_run.specs.Runs.{Halt, Budget, Exponent}
use Rattle.fm_cert.specs.Kinds as kinds
use Rattle.fm_cert.specs.Kinds.{EndKind}
use Rattle.fm_cert.specs.Ends.{task_words}
use Rattle.fm_cert.specs.Lines.{Line, Row}
use Rattle.fm_cert.specs.Naming.{Naming, naming_lines, forms_after, differentials, identities, map_naming}
use Rattle.fm_cert.specs.Questions.{name_at}
use Rattle.fm_report.specs.Parts.{meant}
use Rattle.fm_report.specs.Reports.{QueryReport, report_text}
use Rattle.fm_answers.specs.Printed.{printed_vector, grid_of, grids_of, resolution_namings, ext_namings, base_namings}

-- ---- what is asked

abbrev pub generators_of : Option Ideal → List PolyValue
generators_of None = []
generators_of (Some a) = a.generators

module _ (q : Problem) where
  -- the generators of the ideal with this number
  abbrev pub generators_at : ℕ → List PolyValue
  generators_at k = generators_of (slice_get q.ideals k)

  abbrev pub ideal_at : ℕ → plan_results.Ideal q.ring
  ideal_at k = meant q.ring (generators_at k)

  -- what a query asks of its plan
  abbrev pub asked_of : Query → plans.Query q.ring
  asked_of (queries.TheVariants.Zero i k) = ask_zero i (ideal_at k)
  asked_of (queries.TheVariants.Class i k e z) = ask_class i (ideal_at k) e (meant q.ring z)
  asked_of (queries.TheVariants.Root i k) = ask_root i (ideal_at k)
  asked_of (queries.TheVariants.Invert i k f) = ask_invert i (ideal_at k) (meaning q.ring f.terms)
  asked_of (queries.TheVariants.Support i k) = ask_support i (ideal_at k)
  asked_of (queries.TheVariants.Map i k j) = ask_map i (ideal_at k) (ideal_at j)
  asked_of (queries.TheVariants.Member k f) = ask_member (ideal_at k) (meaning q.ring f.terms)
  asked_of (queries.TheVariants.Resolution i k) = ask_resolution i (ideal_at k)
  asked_of (queries.TheVariants.ExtOf i k) = ask_ext i (ideal_at k)

-- the number of the ideal that a query is about, for a map that of its source
abbrev pub ideal_of : Query → ℕ
ideal_of (queries.TheVariants.Zero i k) = k
ideal_of (queries.TheVariants.Class i k e z) = k
ideal_of (queries.TheVariants.Root i k) = k
ideal_of (queries.TheVariants.Invert i k f) = k
ideal_of (queries.TheVariants.Support i k) = k
ideal_of (queries.TheVariants.Map i k j) = k
ideal_of (queries.TheVariants.Member k f) = k
ideal_of (queries.TheVariants.Resolution i k) = k
ideal_of (queries.TheVariants.ExtOf i k) = k

-- the number of the ideal that a map leads to
abbrev pub target_of : Query → ℕ
target_of (queries.TheVariants.Map i k j) = j
target_of z = ideal_of z

-- a class that is asked about has a number of entries that can be written
abbrev pub IsShort : Query → Type 0
IsShort (queries.TheVariants.Zero i k) = Unit {0}
IsShort (queries.TheVariants.Class i k e z) = length z < 2 ^ 64
IsShort (queries.TheVariants.Root i k) = Unit {0}
IsShort (queries.TheVariants.Invert i k f) = Unit {0}
IsShort (queries.TheVariants.Support i k) = Unit {0}
IsShort (queries.TheVariants.Map i k j) = Unit {0}
IsShort (queries.TheVariants.Member k f) = Unit {0}
IsShort (queries.TheVariants.Resolution i k) = Unit {0}
IsShort (queries.TheVariants.ExtOf i k) = Unit {0}

-- ---- what is printed

module _ (q : Problem) where
  -- `datum NAME DEGREE`, for the ideal with this number
  abbrev pub datum_line : (k i : ℕ) → Line
  datum_line k i = Row kinds.Datum (name_at q k, (i, tt))

  -- a block of matrices of one ideal
  abbrev pub block_of : (k i : ℕ) → List Naming → List Line
  block_of k i xs = datum_line k i ∷ naming_lines q.vars xs []

  -- the blocks of two ideals, and what is named after them; equal forms have one number through them all
  abbrev pub blocks_of : (k j i : ℕ) → (xs ys zs : List Naming) → List Line
  blocks_of k j i xs ys zs =
      let first = forms_after q.vars xs [] in
      let both = forms_after q.vars ys first in
      block_of k i xs ++ (datum_line j i ∷ naming_lines q.vars ys first ++ naming_lines q.vars zs both)

  -- the lines under an answer to a query
  abbrev pub found_lines : Query → Found q.ring → List Line
  found_lines z (found_zero i fs b whole) = block_of (ideal_of z) i (base_namings q.ring b)
  found_lines z (found_class i fs b e c w killed) = block_of (ideal_of z) i (base_namings q.ring b)
  found_lines z (found_root i fs b) = block_of (ideal_of z) i (base_namings q.ring b)
  found_lines z (found_invert i fs b f inverted) = block_of (ideal_of z) i (base_namings q.ring b)
  found_lines z (found_support i fs b a) = block_of (ideal_of z) i (base_namings q.ring b)
  found_lines z (found_map i fs gs b c lambda phi null fibre one onto) =
      blocks_of (ideal_of z) (target_of z) i (base_namings q.ring b) (base_namings q.ring c)
      (identities 0 (grids_of q.ring lambda) ++ map_naming (grid_of q.ring phi) ∷ [])
  found_lines z (found_member fs f first inside) = naming_lines q.vars (differentials 1 (grid_of q.ring first.matrix ∷ [])) []
  found_lines z (found_resolution i fs x) = block_of (ideal_of z) i (resolution_namings q.ring x)
  found_lines z (found_ext i fs x) = block_of (ideal_of z) i (ext_namings q.ring x)

  -- the report of an answered query, a row for each kind
  abbrev pub found_report : Query → Found q.ring → QueryReport
  found_report z (found_zero i fs b whole) =
      record { question = z; kind = kinds.Zero; values = (is_yes q.ring whole, (stable_of q.ring b, tt)); lines = found_lines z (found_zero i fs b whole) }
  found_report z (found_class i fs b e c w killed) =
      record { question = z; kind = kinds.Class; values = (stage_of q.ring e killed, tt); lines = found_lines z (found_class i fs b e c w killed) }
  found_report z (found_root i fs b) =
      record { question = z; kind = kinds.Root; values = (length b.ext.cocycles.found.columns, (stable_of q.ring b, tt)); lines = found_lines z (found_root i fs b) }
  found_report z (found_invert i fs b f inverted) =
      record { question = z; kind = kinds.Invert; values = (power_of q.ring inverted, tt); lines = found_lines z (found_invert i fs b f inverted) }
  found_report z (found_support i fs b a) =
      record { question = z; kind = kinds.Support; values = (printed_vector q.ring (first_entries q.ring.prime q.ring.vars a.found), tt); lines = found_lines z (found_support i fs b a) }
  found_report z (found_map i fs gs b c lambda phi null fibre one onto) = record {
    question = z;
    kind = kinds.Map;
    values = (is_yes q.ring null, (is_yes q.ring one, (onto_of q.ring onto, tt)));
    lines = found_lines z (found_map i fs gs b c lambda phi null fibre one onto);
  }
  found_report z (found_member fs f first inside) =
      record { question = z; kind = kinds.Member; values = (is_yes q.ring inside, tt); lines = found_lines z (found_member fs f first inside) }
  found_report z (found_resolution i fs x) = record {
    question = z;
    kind = kinds.Ranks;
    values = (listed (i + 2) (rank q.ring.prime q.ring.vars (differentials_of q.ring x)), tt);
    lines = found_lines z (found_resolution i fs x);
  }
  found_report z (found_ext i fs x) = record {
    question = z;
    kind = kinds.ExtOf;
    values = (length x.cocycles.found.columns, (length x.relations.found.columns, tt));
    lines = found_lines z (found_ext i fs x);
  }

-- the report of a query whose plan halted in a task
abbrev pub halted_report : Query → Task → Halt → QueryReport
halted_report z task Budget = record { question = z; kind = kinds.Budget; values = (task_words task, tt); lines = [] }
halted_report z task Exponent = record { question = z; kind = kinds.Exponents; values = (task_words task, tt); lines = [] }

-- the report of a query that its plan refuses
abbrev pub refused_report : Query → Refusal → QueryReport
refused_report z (wrong_length found needed) = record { question = z; kind = kinds.WrongLength; values = (found, (needed, tt)); lines = [] }
refused_report z (not_a_cocycle component) = record { question = z; kind = kinds.NotCocycle; values = (component, tt); lines = [] }
refused_report z (not_contained generator) = record { question = z; kind = kinds.NotContained; values = (generator, tt); lines = [] }

-- the report of a query whose plan ended so
abbrev pub ended_report : (q : Problem) → Query → Result (Found q.ring) Unanswered → QueryReport
ended_report q z (Ok x) = found_report q z x
ended_report q z (Err (stopped task halt)) = halted_report z task halt
ended_report q z (Err (refused refusal)) = refused_report z refusal

-- the report of a query, with this number of units for its plan
abbrev pub query_report : ℕ → Problem → Query → QueryReport
query_report units q z = ended_report q z (plan q.ring (asked_of q z) units).end

abbrev pub query_reports : ℕ → Problem → List Query → List QueryReport
query_reports units q zs = map (query_report units q) zs

-- the report of a problem, with this number of units for each query
unfoldable pub report_bytes : ℕ → Problem → Bytes
report_bytes units q = report_text 0 q (query_reports units q q.queries)

-- the plan stopped in a task
abbrev pub is_unanswered : EndKind → Bool
is_unanswered kinds.Budget = true
is_unanswered kinds.Exponents = true
is_unanswered kind = false

-- no query is unanswered: each is answered, or refused by name
abbrev pub are_answered : List QueryReport → Bool
are_answered [] = true
are_answered (b ∷ bs) = not (is_unanswered b.kind) && are_answered bs
