-- Calls that follow plans.
use Rattle.std.specs.Prelude.{ℕ, Option, option_map, Result}
use Rattle.fm_run.specs.declared.task.Stopped.{Stopped}
use Rattle.fm_run.specs.Runs.{Ending, FollowsBy, halt_of}
use Rattle.fm_plan.specs.Tasks.{Unanswered, stopped}

-- a task that stopped, as the end of a plan; want of memory ends none
abbrev pub unanswered_by : Stopped → Option Unanswered
unanswered_by s = option_map (stopped s.task) (halt_of s.stop)

-- a call that stops in tasks follows a plan
abbrev pub FollowsPlan : {X A : Type 0} → (X → A) → Result X Stopped → (old new : ℕ) → Ending Unanswered A → Type 0
FollowsPlan view result old new d = FollowsBy old new d view unanswered_by result
