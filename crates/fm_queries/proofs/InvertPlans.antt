-- The plan of `invert`, by its parts.
use Rattle.std.proofs.Common.{ℕ, ◌≡◌, Result, Ok, Err, refl, ap, ◌∙◌, subst}
use Rattle.fm_algebra.specs.Polynomials.{Polynomial}
use Rattle.fm_poly.specs.declared.ring.Ring.{Ring}
use Rattle.fm_run.specs.declared.task.Side.TheVariants.{Alone}
use Rattle.fm_run.specs.declared.task.Name.TheVariants as names
use Rattle.fm_run.specs.declared.task.Stopped.{Stopped}
use Rattle.fm_run.specs.Runs.{ready, ◌>>=◌}
use Rattle.fm_graphs.specs.Graphs.{Inside, whole_run}
use Rattle.fm_plan.specs.Tasks.{Plan, task}
use Rattle.fm_plan.specs.Results.{Ideal}
use Rattle.fm_plan.specs.Queries as plans
use Rattle.fm_plan.specs.Queries.{BaseOf, Found, found_invert, ask_invert, plan, base_plan, stable_graph, coloned, inverted_of}
use Rattle.fm_plan.specs.Following.{FollowsPlan}
use Rattle.fm_support.specs.Inverting.{inverted_value, invert_plan}
use Rattle.fm_support.specs.declared.inverting.Inverted.{Inverted}
use Rattle.fm_support.proofs.InvertRuns.{invert_spends}
use Rattle.fm_queries.specs.Bases.{BaseValue, base_meaning}
use Rattle.fm_queries.specs.Founds.{invert_value}
use Rattle.fm_queries.specs.declared.invert.Inverting.{Inverting}
use Rattle.fm_queries.proofs.Grouping.{grouped}
use Rattle.fm_queries.proofs.QueryRuns.{base_stops, call_stops, call_ends}

module _ (r : Ring) (i : ℕ) (fs : Ideal r) (f : Polynomial r.prime r.vars) where
  abbrev pub inverting : BaseOf r → Plan (plans.Inverted r)
  inverting b = invert_plan r f (stable_graph r b)

  abbrev found : BaseOf r → plans.Inverted r → Found r
  found b s = found_invert i fs b f s

  -- the tasks of the inversion one by one
  one_by_one : (b : BaseOf r) (units : ℕ) → (inverting b >>= λ s. ready (found b s)) units
      ≡ (task Alone names.Colon 0 (whole_run r (stable_graph r b)) >>= λ y. coloned r f (stable_graph r b) y >>= λ c. inverted_of r f (stable_graph r b) c >>= λ s. ready (found b s)) units
  unfolding invert_plan
  one_by_one b units =
      let g = stable_graph r b in
      let first : Plan (Inside r) = task Alone names.Colon 0 (whole_run r g) in
      let last : plans.Inverted r → Plan (Found r) = λ s. ready (found b s) in
      grouped first (λ (y : Inside r). coloned r f g y >>= inverted_of r f g) last units
      ∙ ap (λ (rest : Inside r → Plan (Found r)). (first >>= rest) units) (λ t y u. grouped (coloned r f g y) (inverted_of r f g) last u t)

  abbrev all : Plan (Found r)
  all = base_plan r Alone i fs >>= λ b. inverting b >>= λ s. ready (found b s)

  same_plan : (old : ℕ) → all old ≡ plan r (ask_invert i fs f) old
  unfolding plan
  same_plan old = ap (λ (after : BaseOf r → Plan (Found r)). (base_plan r Alone i fs >>= after) old) (λ t b units. one_by_one b units t)

  abbrev Asked : Result Inverting Stopped → (old new : ℕ) → Type 0
  Asked answer old new = FollowsPlan (invert_value r i fs f) answer old new (plan r (ask_invert i fs f) old)

  asked : (answer : Result Inverting Stopped) (old new : ℕ) → FollowsPlan (invert_value r i fs f) answer old new (all old) → Asked answer old new
  asked answer old new h = subst (FollowsPlan (invert_value r i fs f) answer old new) (same_plan old) h

  pub invert_base_stops : (old new : ℕ) (s : Stopped) → FollowsPlan {X = BaseValue} (base_meaning r) (Err s) old new (base_plan r Alone i fs old) → Asked (Err s) old new
  invert_base_stops old new s h = asked (Err s) old new
      (base_stops r i fs inverting found (λ b. invert_spends r f (stable_graph r b)) (inverted_value r) (invert_value r i fs f) old new s h)

  module _ (old mid new : ℕ) (b : BaseValue) (first : FollowsPlan (base_meaning r) (Ok b) old mid (base_plan r Alone i fs old)) where
    pub invert_stops : (s : Stopped) → FollowsPlan {X = Inverted} (inverted_value r) (Err s) mid new (inverting (base_meaning r b) mid) → Asked (Err s) old new
    invert_stops s h = asked (Err s) old new
        (call_stops r i fs inverting found (λ b. invert_spends r f (stable_graph r b)) (inverted_value r) (invert_value r i fs f) old mid new b first s h)

    pub invert_ends : (y : Inverted) → FollowsPlan (inverted_value r) (Ok y) mid new (inverting (base_meaning r b) mid) → Asked (Ok (record { base = b; inverted = y })) old new
    invert_ends y h = asked (Ok (record { base = b; inverted = y })) old new
        (call_ends r i fs inverting found (λ b. invert_spends r f (stable_graph r b)) (inverted_value r) (invert_value r i fs f) old mid new b first y (record { base = b; inverted = y }) refl h)
