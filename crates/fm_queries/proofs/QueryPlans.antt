-- The plans of `zero` and `support`, by their parts.
use Rattle.std.proofs.Common.{ℕ, ◌≡◌, Result, Ok, Err, refl}
use Rattle.fm_poly.specs.declared.ring.Ring.{Ring}
use Rattle.fm_run.specs.declared.task.Side.TheVariants.{Alone}
use Rattle.fm_run.specs.declared.task.Name.TheVariants as names
use Rattle.fm_run.specs.declared.task.Stopped.{Stopped}
use Rattle.fm_graphs.specs.Graphs.{Inside, whole_run}
use Rattle.fm_graphs.specs.Trims.{Preimage}
use Rattle.fm_graphs.proofs.Sizes.{whole_spends}
use Rattle.fm_graphs.proofs.Spending.{preimage_spends}
use Rattle.fm_limit.specs.Facts.{unit_column, diagonal_blocks}
use Rattle.fm_plan.specs.Tasks.{Plan, task}
use Rattle.fm_plan.specs.Results as plans
use Rattle.fm_plan.specs.Queries.{BaseOf, Found, found_zero, found_support, ask_zero, ask_support, plan, base_plan, stable_graph}
use Rattle.fm_plan.specs.Following.{FollowsPlan}
use Rattle.fm_syz.specs.GeneratorValues.{PreimageValue, preimage_meaning}
use Rattle.fm_syz.specs.Insides.{inside_value}
use Rattle.fm_syz.specs.declared.inside.Inside as program
use Rattle.fm_support.specs.Annihilators.{annihilator_work}
use Rattle.fm_queries.specs.Bases.{BaseValue, base_meaning}
use Rattle.fm_queries.specs.Founds.{zero_value, support_value}
use Rattle.fm_queries.specs.declared.zero.Zero.{Zero}
use Rattle.fm_queries.specs.declared.support.Support.{Support}
use Rattle.fm_queries.proofs.QueryRuns.{base_stops, call_stops, call_ends}

module _ (r : Ring) (i : ℕ) (fs : plans.Ideal r) where
  -- ---- zero
  abbrev pub test : BaseOf r → Plan (Inside r)
  test b = task Alone names.Whole 0 (whole_run r (stable_graph r b))

  pub zero_base_stops : (old new : ℕ) (s : Stopped) → FollowsPlan {X = BaseValue} (base_meaning r) (Err s) old new (base_plan r Alone i fs old)
      → FollowsPlan {X = Zero} (zero_value r i fs) (Err s) old new (plan r (ask_zero i fs) old)
  unfolding plan
  zero_base_stops old new s h = base_stops r i fs test (found_zero i fs) (λ b. whole_spends r (stable_graph r b)) (inside_value r) (zero_value r i fs) old new s h

  module _ (old mid new : ℕ) (b : BaseValue) (first : FollowsPlan (base_meaning r) (Ok b) old mid (base_plan r Alone i fs old)) where
    pub zero_test_stops : (s : Stopped) → FollowsPlan {X = program.Inside} (inside_value r) (Err s) mid new (test (base_meaning r b) mid) → FollowsPlan {X = Zero} (zero_value r i fs) (Err s) old new (plan r (ask_zero i fs) old)
    unfolding plan
    zero_test_stops s h = call_stops r i fs test (found_zero i fs) (λ b. whole_spends r (stable_graph r b)) (inside_value r) (zero_value r i fs) old mid new b first s h

    pub zero_ends : (y : program.Inside) → FollowsPlan (inside_value r) (Ok y) mid new (test (base_meaning r b) mid) → FollowsPlan (zero_value r i fs) (Ok (record { base = b; whole = y })) old new (plan r (ask_zero i fs) old)
    unfolding plan
    zero_ends y h = call_ends r i fs test (found_zero i fs) (λ b. whole_spends r (stable_graph r b)) (inside_value r) (zero_value r i fs) old mid new b first y (record { base = b; whole = y }) refl h

  -- ---- support
  abbrev pub row : BaseOf r → Plan (Preimage r)
  row b = task Alone names.Annihilator 0 (annihilator_work r (stable_graph r b).matrix)

  pub support_base_stops : (old new : ℕ) (s : Stopped) → FollowsPlan {X = BaseValue} (base_meaning r) (Err s) old new (base_plan r Alone i fs old)
      → FollowsPlan {X = Support} (support_value r i fs) (Err s) old new (plan r (ask_support i fs) old)
  unfolding plan
  support_base_stops old new s h = base_stops r i fs row (found_support i fs)
      (λ b. preimage_spends r (unit_column r.prime r.vars (stable_graph r b).matrix.rows) (diagonal_blocks r.prime r.vars (stable_graph r b).matrix)) (preimage_meaning r) (support_value r i fs) old new s h

  module _ (old mid new : ℕ) (b : BaseValue) (first : FollowsPlan (base_meaning r) (Ok b) old mid (base_plan r Alone i fs old)) where
    pub support_row_stops : (s : Stopped) → FollowsPlan {X = PreimageValue} (preimage_meaning r) (Err s) mid new (row (base_meaning r b) mid) → FollowsPlan {X = Support} (support_value r i fs) (Err s) old new (plan r (ask_support i fs) old)
    unfolding plan
    support_row_stops s h = call_stops r i fs row (found_support i fs)
        (λ b. preimage_spends r (unit_column r.prime r.vars (stable_graph r b).matrix.rows) (diagonal_blocks r.prime r.vars (stable_graph r b).matrix)) (preimage_meaning r) (support_value r i fs) old mid new b first s h

    pub support_ends : (y : PreimageValue) → FollowsPlan (preimage_meaning r) (Ok y) mid new (row (base_meaning r b) mid) → FollowsPlan (support_value r i fs) (Ok (record { base = b; annihilator = y })) old new (plan r (ask_support i fs) old)
    unfolding plan
    support_ends y h = call_ends r i fs row (found_support i fs)
        (λ b. preimage_spends r (unit_column r.prime r.vars (stable_graph r b).matrix.rows) (diagonal_blocks r.prime r.vars (stable_graph r b).matrix)) (preimage_meaning r) (support_value r i fs) old mid new b first y (record { base = b; annihilator = y }) refl h
