-- Inverting a polynomial, task by task.
use Rattle.std.proofs.Common.{ℕ, ◌≡◌, List, [], Result, Ok, Err, sym, subst, arith}
use Rattle.fm_algebra.specs.Polynomials.{Polynomial}
use Rattle.fm_graphs.specs.Graphs as runs
use Rattle.fm_graphs.specs.Graphs.{Graph, all_inside, first_outside, whole_run}
use Rattle.fm_graphs.specs.Listing.{VectorOf}
use Rattle.fm_graphs.proofs.Sizes.{whole_spends}
use Rattle.fm_plan.specs.Following.{FollowsPlan, unanswered_by}
use Rattle.fm_plan.specs.Queries as plans
use Rattle.fm_plan.specs.Queries.{colon_turn, coloned, inverted_of}
use Rattle.fm_plan.specs.Tasks.{Plan, out_of_units, task}
use Rattle.fm_poly.specs.declared.ring.Ring.{Ring}
use Rattle.fm_run.specs.declared.task.Name.TheVariants as names
use Rattle.fm_run.specs.declared.task.Side.TheVariants.{Alone}
use Rattle.fm_run.specs.declared.task.Stopped.{Stopped}
use Rattle.fm_run.specs.Runs.{Spends, ◌>>=◌}
use Rattle.fm_run.specs.Turns.{repeated}
use Rattle.fm_run.proofs.Calls.{row_goes, row_stops}
use Rattle.fm_run.proofs.Spending.{then_spends, turns_spend}
use Rattle.fm_support.specs.Inverting.{inverted_value, coloned_value, invert_plan}
use Rattle.fm_support.specs.Powers.{power_work}
use Rattle.fm_support.specs.declared.colons.Coloned.{Coloned}
use Rattle.fm_support.specs.declared.inverting.Inverted.{Inverted}
use Rattle.fm_support.proofs.ColonRuns.{colon_spends}
use Rattle.fm_support.proofs.PowerRuns.{work_spends}
use Rattle.fm_syz.specs.Insides.{inside_value}
use Rattle.fm_syz.specs.declared.inside.Inside.{Inside}

module _ (r : Ring) (f : Polynomial r.prime r.vars) (g : Graph r) where
  abbrev first : Plan (runs.Inside r)
  first = task Alone names.Colon 0 (whole_run r g)

  abbrev asked : runs.Inside r → Plan (plans.Inverted r)
  asked y = coloned r f g y >>= inverted_of r f g

  abbrev pub turning : runs.Outside → Plan (plans.Coloned r)
  turning o = repeated (out_of_units Alone names.Colon) (colon_turn r f) (record { colons = []; graph = g; proper = o })

  inverted_spends : (x : plans.Coloned r) → Spends (inverted_of r f g x)
  inverted_spends (plans.stable_at colons w o) = λ units. omega arith
  inverted_spends (plans.whole_at k) = work_spends r k f g

  turning_spends : (o : runs.Outside) → Spends (turning o)
  turning_spends o units = turns_spend (out_of_units Alone names.Colon) (colon_turn r f) (λ c. colon_spends r f c) units (record { colons = []; graph = g; proper = o }) units

  coloned_spends : (y : runs.Inside r) → Spends (coloned r f g y)
  coloned_spends (all_inside ws) = λ units. omega arith
  coloned_spends (first_outside o) = turning_spends o

  pub asked_spends : (y : runs.Inside r) → Spends (asked y)
  asked_spends y = then_spends (coloned r f g y) (inverted_of r f g) (coloned_spends y) inverted_spends

  pub invert_spends : Spends (invert_plan r f g)
  unfolding invert_plan
  invert_spends = then_spends first asked (whole_spends r g) asked_spends

  pub first_stops : (old new : ℕ) (z : Stopped) → FollowsPlan {X = Inside} (inside_value r) (Err z) old new (first old) → FollowsPlan {X = Inverted} (inverted_value r) (Err z) old new (invert_plan r f g old)
  unfolding invert_plan
  first_stops old new z h = row_stops first asked old new (inside_value r) (inverted_value r) unanswered_by z asked_spends h

  module _ (old mid : ℕ) (y : Inside) (goes : FollowsPlan (inside_value r) (Ok y) old mid (first old)) (new : ℕ) where
    on : (answer : Result Inverted Stopped) → FollowsPlan (inverted_value r) answer mid new (asked (inside_value r y) mid) → FollowsPlan (inverted_value r) answer old new (invert_plan r f g old)
    unfolding invert_plan
    on answer h = row_goes first asked old new (inside_value r y) mid goes (whole_spends r g) (inverted_value r) unanswered_by answer h

    pub at_once : (ws : List (VectorOf r)) → inside_value r y ≡ all_inside ws → (answer : Result Inverted Stopped) → FollowsPlan (inverted_value r) answer mid new (task Alone names.Power 0 (power_work r 0 f g) mid)
        → FollowsPlan (inverted_value r) answer old new (invert_plan r f g old)
    at_once ws is answer h = on answer (subst (λ x. FollowsPlan (inverted_value r) answer mid new (asked x mid)) (sym is) h)

    module _ (o : runs.Outside) (is : inside_value r y ≡ first_outside o) where
      later : (answer : Result Inverted Stopped) → FollowsPlan (inverted_value r) answer mid new ((turning o >>= inverted_of r f g) mid) → FollowsPlan (inverted_value r) answer old new (invert_plan r f g old)
      later answer h = on answer (subst (λ x. FollowsPlan (inverted_value r) answer mid new (asked x mid)) (sym is) h)

      pub colons_stop : (z : Stopped) → FollowsPlan {X = Coloned} (coloned_value r) (Err z) mid new (turning o mid) → FollowsPlan {X = Inverted} (inverted_value r) (Err z) old new (invert_plan r f g old)
      colons_stop z h = later (Err z) (row_stops (turning o) (inverted_of r f g) mid new (coloned_value r) (inverted_value r) unanswered_by z inverted_spends h)

      pub colons_go : (x : Coloned) (after : ℕ) → FollowsPlan (coloned_value r) (Ok x) mid after (turning o mid) → (answer : Result Inverted Stopped)
          → FollowsPlan (inverted_value r) answer after new (inverted_of r f g (coloned_value r x) after) → FollowsPlan (inverted_value r) answer old new (invert_plan r f g old)
      colons_go x after h answer k = later answer (row_goes (turning o) (inverted_of r f g) mid new (coloned_value r x) after h (turning_spends o) (inverted_value r) unanswered_by answer k)
