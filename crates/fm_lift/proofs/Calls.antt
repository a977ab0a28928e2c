-- Calls that pass on an error, and want of memory in a plan.
use Rattle.std.proofs.Common.{ℕ, ◌≡◌, ◌≤◌, Option, option_map, Result, Ok, Err, sym, ap, ◌∙◌, subst}
use Rattle.std.specs.Prelude.{IfErr, IsErr, IsErrAnd}
use Rattle.fm_run.specs.declared.stop.Stop.{Stop}
use Rattle.fm_run.specs.declared.stop.Stop.TheVariants as stops
use Rattle.fm_run.specs.declared.task.Task.{Task}
use Rattle.fm_run.specs.declared.task.Stopped.{Stopped}
use Rattle.fm_run.specs.Runs.{Ending, Halts, FollowsBy, halt_of}
use Rattle.fm_run.specs.Tasks.{stopped_in}
use Rattle.fm_plan.specs.Tasks.{Unanswered, stopped}
use Rattle.fm_plan.specs.Following.{unanswered_by}

-- want of memory in a task of a plan
pub plan_wants : {A : Type 0} (s : Stopped) (old new : ℕ) (d : Ending Unanswered A) → s.stop ≡ stops.Memory → new ≤ old → d.left ≤ new → Halts old new d (unanswered_by s)
plan_wants s old new d memory spent less = subst (λ (x : Stop). Halts old new d (option_map (stopped s.task) (halt_of x))) (sym memory) (spent, less)

-- the answer that was told of a task
pub told_ok : {X : Type 0} (task : Task) (r : Result X Stop) (x : X) → ◌≡◌ {A = Result X Stopped} (Ok x) (stopped_in task r) → r ≡ Ok x
told_ok task (Ok y) x is = cc
told_ok task (Err e) x is = cc

-- a call that can only want memory, told of a task
pub told_memory : {X : Type 0} (task : Task) (r : Result X Stop) (s : Stopped) → ◌≡◌ {A = Result X Stopped} (Err s) (stopped_in task r) → IfErr r (λ e. e ≡ stops.Memory) → s.stop ≡ stops.Memory
told_memory task (Ok x) s is h = cc
told_memory task (Err e) s is h = let same : s ≡ record { task = task; stop = e } = cc in ap (λ (x : Stopped). x.stop) same ∙ h
