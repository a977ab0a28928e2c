-- Queries without an answer: the tasks of a plan in which it may end, and the refusals.
use Rattle.std.specs.Prelude.{Bool, true, false, ◌&&◌, List, [], ◌∷◌, ◌++◌, map, is_some}
use Rattle.std.specs.List.{list_any}
use Rattle.fm_words.specs.Parts.{Bytes}
use Rattle.fm_words.specs.Words.{same_bytes}
use Rattle.fm_run.specs.declared.task.Side.{Side}
use Rattle.fm_run.specs.declared.task.Side.TheVariants.{Alone, Source, Target}
use Rattle.fm_run.specs.declared.task.Name.{Name}
use Rattle.fm_run.specs.declared.task.Name.TheVariants as tasks
use Rattle.fm_problem.specs.declared.query.Query.{Query}
use Rattle.fm_problem.specs.declared.query.Query as queries
use Rattle.fm_cert.specs.Ends.{side_words, task_word, is_numbered}
use Rattle.fm_cert.specs.Fields.{Values, exact_number}
use Rattle.fm_cert.specs.Kinds.{EndKind, end_row}
use Rattle.fm_cert.specs.Kinds as kinds

abbrev pub ext_names : List Name
ext_names = tasks.Resolve ∷ tasks.Lift ∷ tasks.Cocycles ∷ tasks.Relations ∷ tasks.Morphism ∷ []

abbrev pub base_names : List Name
base_names = tasks.Chain ∷ ext_names

abbrev pub on_side : Side → List Name → List (Side × Name)
on_side side names = map (λ name. (side, name)) names

-- the tasks of the plan of a query
abbrev pub tasks_of : Query → List (Side × Name)
tasks_of (queries.TheVariants.Zero i k) = on_side Alone (tasks.Whole ∷ base_names)
tasks_of (queries.TheVariants.Class i k e z) = on_side Alone (tasks.Test ∷ tasks.Coordinates ∷ tasks.Stage ∷ base_names)
tasks_of (queries.TheVariants.Root i k) = on_side Alone base_names
tasks_of (queries.TheVariants.Invert i k f) = on_side Alone (tasks.Colon ∷ tasks.Power ∷ base_names)
tasks_of (queries.TheVariants.Support i k) = on_side Alone (tasks.Annihilator ∷ base_names)
tasks_of (queries.TheVariants.Map i k j) =
    on_side Alone (tasks.Contained ∷ tasks.Lambda ∷ tasks.Phi ∷ tasks.Null ∷ tasks.One ∷ tasks.Onto ∷ [])
    ++ (on_side Source base_names ++ on_side Target base_names)
tasks_of (queries.TheVariants.Member k f) = on_side Alone (tasks.Resolve ∷ tasks.Member ∷ [])
tasks_of (queries.TheVariants.Resolution i k) = on_side Alone (tasks.Resolve ∷ [])
tasks_of (queries.TheVariants.ExtOf i k) = on_side Alone ext_names

-- one number where the task has one, and else nothing
abbrev pub ends_so : Bool → List Bytes → Bool
ends_so false [] = true
ends_so true (w ∷ []) = is_some (exact_number w)
ends_so b ws = false

abbrev pub spells : List Bytes → Bool → List Bytes → Bool
spells [] b ws = ends_so b ws
spells (v ∷ vs) b [] = false
spells (v ∷ vs) b (w ∷ ws) = same_bytes v w && spells vs b ws

abbrev pub is_task : Query → List Bytes → Bool
is_task z ws = list_any (λ (t : Side × Name). spells (side_words t.0 ++ task_word t.1 ∷ []) (is_numbered t.1) ws) (tasks_of z)

-- a query may end so without an answer; the numbers of a task and of a refusal may be any
abbrev pub may_end : Query → (kind : EndKind) → Values (end_row kind) → Bool
may_end z kinds.Budget (words, u) = is_task z words
may_end z kinds.Exponents (words, u) = is_task z words
may_end (queries.TheVariants.Class i k e z) kinds.WrongLength v = true
may_end (queries.TheVariants.Class i k e z) kinds.NotCocycle v = true
may_end (queries.TheVariants.Map i k j) kinds.NotContained v = true
may_end z kind v = false
