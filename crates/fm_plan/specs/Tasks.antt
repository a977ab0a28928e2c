-- Tasks of plans, and why a plan ends without an answer.
use Rattle.std.specs.Prelude.{ℕ}
use Rattle.fm_run.specs.declared.task.Task.{Task}
use Rattle.fm_run.specs.declared.task.Side.{Side}
use Rattle.fm_run.specs.declared.task.Name.{Name}
use Rattle.fm_run.specs.Runs.{Halt, Budget, Run, Work}
use Rattle.fm_run.specs.Tasks.{naming}

-- a class with so many entries where another number is needed; a vector that is no cocycle, by the first component, from 1, of its image
-- that isn't zero; or a generator of the target outside the source, by its number from 1
pub data Refusal : Type 0 where
  wrong_length : (found needed : ℕ) → Refusal
  not_a_cocycle : (component : ℕ) → Refusal
  not_contained : ℕ → Refusal

-- why a plan ends without an answer: a task that halted, or a refusal
pub data Unanswered : Type 0 where
  stopped : Task → Halt → Unanswered
  refused : Refusal → Unanswered

-- tasks in their order, with one budget
abbrev pub Plan : Type 0 → Type 0
Plan A = Run Unanswered A

-- the work of a task
abbrev pub task : {A : Type 0} → Side → Name → ℕ → Work A → Plan A
task side name number work = naming (stopped (record { side = side; name = name; number = number })) work

-- for turns that are tasks: each but the last spends a unit, so this end never comes
abbrev pub out_of_units : Side → Name → Unanswered
out_of_units side name = stopped (record { side = side; name = name; number = 0 }) Budget
