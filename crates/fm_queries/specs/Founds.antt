-- What the programs of the queries find, as what the plans find.
use Rattle.std.specs.Prelude.{ℕ, ◌==◌, length, Option, Some, Result}
use Rattle.fm_algebra.specs.Polynomials.{Polynomial}
use Rattle.fm_poly.specs.declared.ring.Ring.{Ring}
use Rattle.fm_run.specs.declared.task.Side.TheVariants.{Alone}
use Rattle.fm_run.specs.declared.task.Name.TheVariants as names
use Rattle.fm_run.specs.Runs.{Ending, FollowsBy, ◌>>=◌}
use Rattle.fm_graphs.specs.Graphs.{MatrixOf}
use Rattle.fm_graphs.specs.Listing.{VectorOf}
use Rattle.fm_mat.specs.Matrices.{column_meaning}
use Rattle.fm_chain.specs.Stages.{killed_value}
use Rattle.fm_plan.specs.Tasks as plans
use Rattle.fm_plan.specs.Following.{unanswered_by}
use Rattle.fm_plan.specs.Results.{Ideal}
use Rattle.fm_syz.specs.GeneratorValues.{preimage_meaning}
use Rattle.fm_syz.specs.Insides.{inside_value}
use Rattle.fm_plan.specs.Queries.{Found, found_zero, found_class, found_invert, found_support, allowed, cocycle_work, unless}
use Rattle.fm_support.specs.Inverting.{inverted_value}
use Rattle.fm_queries.specs.Bases.{base_meaning}
use Rattle.fm_queries.specs.declared.class.Class.{Class}
use Rattle.fm_queries.specs.declared.zero.Zero.{Zero}
use Rattle.fm_queries.specs.declared.invert.Inverting.{Inverting}
use Rattle.fm_queries.specs.declared.support.Support.{Support}
use Rattle.fm_queries.specs.declared.unanswered.Unanswered.{Unanswered}
use Rattle.fm_queries.specs.declared.unanswered.Unanswered.TheVariants as ends
use Rattle.fm_queries.specs.declared.unanswered.Refusal.{Refusal}
use Rattle.fm_queries.specs.declared.unanswered.Refusal.TheVariants as refusals

-- ---- plans that end without an answer
abbrev pub refusal_value : Refusal → plans.Refusal
refusal_value (refusals.WrongLength found needed) = plans.wrong_length found needed
refusal_value (refusals.NotCocycle component) = plans.not_a_cocycle component
refusal_value (refusals.NotContained generator) = plans.not_contained generator

-- the end of a plan that is told; want of memory ends none
abbrev pub ended_by : Unanswered → Option plans.Unanswered
ended_by (ends.Stopped stopped) = unanswered_by stopped
ended_by (ends.Refused refusal) = Some (plans.refused (refusal_value refusal))

-- a call that stops in tasks, or is refused, follows a plan
abbrev pub FollowsQuery : {X A : Type 0} → (X → A) → Result X Unanswered → (old new : ℕ) → Ending plans.Unanswered A → Type 0
FollowsQuery view result old new d = FollowsBy old new d view ended_by result

-- the length of z, and the task `test`
abbrev pub class_test : (r : Ring) → ℕ → MatrixOf r → VectorOf r → plans.Plan (Unit {0})
class_test r e d z = allowed r (length z == d.rows) (plans.wrong_length (length z) d.rows) >>= λ u. plans.task Alone names.Test 0 (cocycle_work r e d z) >>= unless r plans.not_a_cocycle

-- ---- what is found
module _ (r : Ring) (i : ℕ) (fs : Ideal r) where
  abbrev pub zero_value : Zero → Found r
  zero_value x = found_zero i fs (base_meaning r x.base) (inside_value r x.whole)

  abbrev pub class_value : ℕ → VectorOf r → Class → Found r
  class_value e z x = found_class i fs (base_meaning r x.base) e z (column_meaning r x.coordinates.items) (killed_value r x.killed)

  abbrev pub invert_value : Polynomial r.prime r.vars → Inverting → Found r
  invert_value f x = found_invert i fs (base_meaning r x.base) f (inverted_value r x.inverted)

  abbrev pub support_value : Support → Found r
  support_value x = found_support i fs (base_meaning r x.base) (preimage_meaning r x.annihilator)
