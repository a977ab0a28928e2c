-- A call, and another over its value.
use Rattle.std.proofs.Common.{ℕ, ◌≡◌, Result, Ok, Err, sym, ap, ◌∙◌, arith}
use Rattle.fm_run.specs.declared.task.Stopped.{Stopped}
use Rattle.fm_run.specs.Runs.{Ending, Spends, next_of, ◌>>=◌, ready}
use Rattle.fm_run.proofs.Calls.{row_goes, row_stops}
use Rattle.fm_plan.specs.Tasks.{Plan}
use Rattle.fm_plan.specs.Following.{FollowsPlan, unanswered_by}

module _ {A B X : Type 0} (view : X → A) (first : Plan A) (rest : A → Plan B) where
  -- the first call stops
  pub stops : {Y : Type 0} (view' : Y → B) → ((a : A) → Spends (rest a)) → (old new : ℕ) (s : Stopped)
      → FollowsPlan view (Err s) old new (first old) → FollowsPlan view' (Err s) old new ((first >>= rest) old)
  stops view' spends old new s h = row_stops first rest old new view view' unanswered_by s spends h

  -- the first call comes to a value
  pub goes : {Y : Type 0} (view' : Y → B) → Spends first → (old mid new : ℕ) (x : X) (answer : Result Y Stopped)
      → FollowsPlan view (Ok x) old mid (first old) → FollowsPlan view' answer mid new (rest (view x) mid) → FollowsPlan view' answer old new ((first >>= rest) old)
  goes view' spends old mid new x answer h k = row_goes first rest old new (view x) mid h spends view' unanswered_by answer k

module _ {A B X Y : Type 0} (view : X → A) (view' : Y → B) (last : Plan A) (made : A → B) where
  -- the last call comes to a value
  pub ends : (old new : ℕ) (x : X) (y : Y) → view' y ≡ made (view x) → FollowsPlan view (Ok x) old new (last old) → FollowsPlan view' (Ok y) old new ((last >>= λ a. ready (made a)) old)
  ends old new x y same h = ap (λ d. next_of (λ a. ready (made a)) d.end d.left) h ∙ ap (λ b. record { end = Ok b; left = new }) (sym same)

  -- the last call stops
  pub last_stops : (old new : ℕ) (s : Stopped) → FollowsPlan view (Err s) old new (last old) → FollowsPlan view' (Err s) old new ((last >>= λ a. ready (made a)) old)
  last_stops old new s h = row_stops last (λ a. ready (made a)) old new view view' unanswered_by s (λ a units. omega arith) h
