-- Tasks of plans: runs whose halts carry a name.
use Rattle.std.specs.Prelude.{ℕ, Option, Some, None, Result, Ok, Err}
use Rattle.fm_run.specs.declared.stop.Stop.{Stop}
use Rattle.fm_run.specs.declared.task.Task.{Task}
use Rattle.fm_run.specs.declared.task.Stopped.{Stopped}
use Rattle.fm_run.specs.Runs.{Halt, Ending, Run, Work, halt_of, FollowsBy}

-- a task that ended without a value
pub record HaltedTask : Type 0 where
  pub task : Task
  pub halt : Halt

module _ {E D : Type 0} (name : E → D) where
  abbrev pub named : {A : Type 0} → Result A E → Result A D
  named (Ok x) = Ok x
  named (Err e) = Err (name e)

  -- the same run, whose halts are told by name
  abbrev pub naming : {A : Type 0} → Run E A → Run D A
  naming run units = record { end = named (run units).end; left = (run units).left }

-- the work of a task
abbrev pub task_run : {A : Type 0} → Task → Work A → Run HaltedTask A
task_run task work = naming (λ halt. record { task = task; halt = halt }) work

abbrev pub halt_in : Task → Option Halt → Option HaltedTask
halt_in task None = None
halt_in task (Some halt) = Some (record { task = task; halt = halt })

abbrev pub halted_task : Stopped → Option HaltedTask
halted_task s = halt_in s.task (halt_of s.stop)

abbrev pub FollowsTasks : {X A : Type 0} → (X → A) → Result X Stopped → (old new : ℕ) → Ending HaltedTask A → Type 0
FollowsTasks view result old new d = FollowsBy old new d view halted_task result

-- a stop told of a task
abbrev pub stopped_in : {X : Type 0} → Task → Result X Stop → Result X Stopped
stopped_in task (Ok x) = Ok x
stopped_in task (Err stop) = Err (record { task = task; stop = stop })
