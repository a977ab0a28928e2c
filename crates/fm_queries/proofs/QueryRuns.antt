-- The plans that compute Ext with its chain, and then one thing more.
use Rattle.std.proofs.Common.{ℕ, ◌≡◌, Result, Ok, Err, arith}
use Rattle.fm_poly.specs.declared.ring.Ring.{Ring}
use Rattle.fm_run.specs.declared.task.Side.TheVariants.{Alone}
use Rattle.fm_run.specs.declared.task.Stopped.{Stopped}
use Rattle.fm_run.specs.Runs.{Spends, ready, ◌>>=◌}
use Rattle.fm_run.proofs.Spending.{then_spends}
use Rattle.fm_plan.specs.Tasks.{Plan}
use Rattle.fm_plan.specs.Results as plans
use Rattle.fm_plan.specs.Queries.{BaseOf, Found, base_plan}
use Rattle.fm_plan.specs.Following.{FollowsPlan}
use Rattle.fm_queries.specs.Bases.{BaseValue, base_meaning}
use Rattle.fm_queries.proofs.Rows.{stops, goes, ends, last_stops}
use Rattle.fm_queries.proofs.Spending.{plan_spends}

module _ (r : Ring) (i : ℕ) (fs : plans.Ideal r) {A X Y : Type 0} (call : BaseOf r → Plan A) (found : BaseOf r → A → Found r) (spends : (b : BaseOf r) → Spends (call b))
    (view : X → A) (value : Y → Found r) where
  abbrev pub after : BaseOf r → Plan (Found r)
  after b = call b >>= λ y. ready (found b y)

  abbrev pub whole : Plan (Found r)
  whole = base_plan r Alone i fs >>= after

  after_spends : (b : BaseOf r) → Spends (after b)
  after_spends b = then_spends (call b) (λ y. ready (found b y)) (spends b) (λ y units. omega arith)

  pub base_stops : (old new : ℕ) (s : Stopped) → FollowsPlan {X = BaseValue} (base_meaning r) (Err s) old new (base_plan r Alone i fs old) → FollowsPlan value (Err s) old new (whole old)
  base_stops old new s h = stops (base_meaning r) (base_plan r Alone i fs) after value after_spends old new s h

  module _ (old mid new : ℕ) (b : BaseValue) (first : FollowsPlan (base_meaning r) (Ok b) old mid (base_plan r Alone i fs old)) where
    pub call_stops : (s : Stopped) → FollowsPlan view (Err s) mid new (call (base_meaning r b) mid) → FollowsPlan value (Err s) old new (whole old)
    call_stops s h = goes (base_meaning r) (base_plan r Alone i fs) after value (plan_spends r Alone i fs) old mid new b (Err s) first
        (last_stops view value (call (base_meaning r b)) (found (base_meaning r b)) mid new s h)

    pub call_ends : (x : X) (y : Y) → value y ≡ found (base_meaning r b) (view x) → FollowsPlan view (Ok x) mid new (call (base_meaning r b) mid) → FollowsPlan value (Ok y) old new (whole old)
    call_ends x y same h = goes (base_meaning r) (base_plan r Alone i fs) after value (plan_spends r Alone i fs) old mid new b (Ok y) first
        (ends view value (call (base_meaning r b)) (found (base_meaning r b)) mid new x y same h)
