-- Calls that follow the tasks of a plan.
use Rattle.std.proofs.Common.{ℕ, ◌≡◌, Option, Some, None, option_map, Result, Ok, Err, sym, ap, subst}
use Rattle.fm_run.specs.declared.stop.Stop.{Stop}
use Rattle.fm_run.specs.declared.task.Side.{Side}
use Rattle.fm_run.specs.declared.task.Name.{Name}
use Rattle.fm_run.specs.declared.task.Task.{Task}
use Rattle.fm_run.specs.declared.task.Stopped.{Stopped}
use Rattle.fm_run.specs.Runs.{Halt, Ending, Work, Halts, Follows, halt_of}
use Rattle.fm_run.specs.Tasks.{named, stopped_in}
use Rattle.fm_plan.specs.Tasks.{stopped, task}
use Rattle.fm_plan.specs.Following.{FollowsPlan}

module _ {A X : Type 0} (view : X → A) (side : Side) (name : Name) (number old new : ℕ) (work : Work A) where
  abbrev told : Task
  told = record { side = side; name = name; number = number }

  plan_halts : (o : Option Halt) → Halts old new (work old) o → Halts old new (task side name number work old) (option_map (stopped told) o)
  plan_halts (Some e) h = ap (λ (d : Ending Halt A). record { end = named (stopped told) d.end; left = d.left }) h
  plan_halts None h = h

  pub plan_follows : (r : Result X Stop) → Follows view r old new (work old) → FollowsPlan view (stopped_in (record { side = side; name = name; number = number }) r) old new (task side name number work old)
  plan_follows (Ok x) h = ap (λ (d : Ending Halt A). record { end = named (stopped told) d.end; left = d.left }) h
  plan_follows (Err stop) h = plan_halts (halt_of stop) h

  -- an answer that is told of its task
  pub told_of : (r : Result X Stop) (answer : Result X Stopped) → answer ≡ stopped_in (record { side = side; name = name; number = number }) r → Follows view r old new (work old)
      → FollowsPlan view answer old new (task side name number work old)
  told_of r answer is h = subst (λ x. FollowsPlan view x old new (task side name number work old)) (sym is) (plan_follows r h)
