-- The stages of a class, one after the other.
use Rattle.std.proofs.Common.{ℕ, zero, suc, ◌≡◌, ◌≤◌, ◌<◌, List, [], ◌∷◌, length, map, drop, get_or, Option, Some, Result, Ok, Err, sym, ap, ◌∙◌, subst, arith}
use Rattle.fm_algebra.specs.PolynomialMatrices.{matrix_column}
use Rattle.fm_poly.specs.declared.ring.Ring.{Ring}
use Rattle.fm_poly.specs.Polys.{PolyValue}
use Rattle.fm_run.specs.declared.stop.Stop.{Stop}
use Rattle.fm_run.specs.declared.task.Task.{Task}
use Rattle.fm_run.specs.declared.task.Stopped.{Stopped}
use Rattle.fm_run.specs.declared.task.Side.TheVariants.{Alone}
use Rattle.fm_run.specs.declared.task.Name.TheVariants as names
use Rattle.fm_run.specs.Tasks.{stopped_in}
use Rattle.fm_run.specs.Runs.{Ending, Spends, Follows}
use Rattle.fm_run.proofs.Calls.{row_stops, follows_later}
use Rattle.fm_run.proofs.Following.{after_value}
use Rattle.fm_run.proofs.Spending.{then_spends}
use Rattle.fm_mat.specs.Matrices.{column_meaning}
use Rattle.fm_graphs.specs.Graphs.{Graph, Outside, Inside, all_inside, first_outside, inside_run, twisted_graph}
use Rattle.fm_graphs.specs.Listing.{VectorOf}
use Rattle.fm_graphs.proofs.Sizes.{inside_spends, twisted_graph_spends}
use Rattle.fm_plan.specs.Tasks.{Unanswered, Plan, task}
use Rattle.fm_plan.specs.Results as plans
use Rattle.fm_plan.specs.Queries.{lift_at, killed_or, stages}
use Rattle.fm_plan.specs.Following.{FollowsPlan, unanswered_by}
use Rattle.fm_plan.proofs.Following.{told_of}
use Rattle.fm_syz.specs.GraphValues.{GraphValue, graph_meaning}
use Rattle.fm_syz.specs.Insides.{lifted_value}
use Rattle.fm_syz.specs.declared.lifted.Lifted.{Lifted}
use Rattle.fm_chain.specs.Stages.{killed_value}
use Rattle.fm_chain.specs.declared.stages.Killed.{Killed}

-- what stands in a list of values from a place on
pub dropped : {A B : Type 0} (f : A → B) (xs : List A) (i : ℕ) (x : A) → x ≡ get_or xs i x → i < length xs → drop i (map f xs) ≡ f x ∷ drop (suc i) (map f xs)
dropped f [] i x is less = absurd (omega (arith, less))
dropped f (y ∷ xs) zero x is less = ap (λ z. f z ∷ map f xs) (sym is)
dropped f (y ∷ xs) (suc i) x is less = dropped f xs i x is (omega (arith, less))

-- a call of a stage, told in the ring of the class
pub stage_told : (q r : Ring) → q ≡ r → (t : Task) (number : ℕ) → t ≡ record { side = Alone; name = names.Stage; number = number } → (e : ℕ) (g : GraphValue) (w : List PolyValue) (result : Result Lifted Stop) (answer : Result Lifted Stopped) (old new : ℕ)
    → answer ≡ stopped_in t result → Follows (lifted_value q) result old new (lift_at q e (graph_meaning q g) (column_meaning q w) old)
    → FollowsPlan (lifted_value r) answer old new (task Alone names.Stage number (lift_at r e (graph_meaning r g) (column_meaning r w)) old)
stage_told q r same t number named e g w result answer old new is h =
    told_of (lifted_value r) Alone names.Stage number old new (lift_at r e (graph_meaning r g) (column_meaning r w)) result answer (is ∙ ap (λ t. stopped_in t result) named)
    (subst (λ (s : Ring). Follows (lifted_value s) result old new (lift_at s e (graph_meaning s g) (column_meaning s w) old)) same h)

module _ (r : Ring) (e : ℕ) (w : VectorOf r) where
  pub lift_spends : (g : Graph r) → Spends (lift_at r e g w)
  unfolding lift_at
  lift_spends g = then_spends (twisted_graph r e g) (inside_run r (matrix_column r.prime r.vars w)) (twisted_graph_spends r e g) (λ h. inside_spends r (matrix_column r.prime r.vars w) h)

  abbrev later : ℕ → Option Outside → List (Graph r) → Inside r → Plan (plans.Killed r)
  later s before gs = killed_or r s before (λ o. stages r e w (suc s) (Some o) gs)

  pub stages_spends : (gs : List (Graph r)) (s : ℕ) (before : Option Outside) → Spends (stages r e w s before gs)
  stages_spends [] s before = λ units. omega arith
  stages_spends (g ∷ gs) s before = then_spends (task Alone names.Stage s (lift_at r e g w)) (later s before gs) (lift_spends g) (λ y. later_spends y (λ o. stages_spends gs (suc s) (Some o)))
    where
      later_spends : (y : Inside r) → ((o : Outside) → Spends (stages r e w (suc s) (Some o) gs)) → Spends (later s before gs y)
      later_spends (all_inside ws) h = λ units. omega arith
      later_spends (first_outside o) h = h o

  module _ (all : Ending Unanswered (plans.Killed r)) (s : ℕ) (before : Option Outside) (g : Graph r) (gs : List (Graph r)) (units new : ℕ) (left : all ≡ stages r e w s before (g ∷ gs) units) where
    pub stage_stops : (old : ℕ) (z : Stopped) → units ≤ old → FollowsPlan {X = Lifted} (lifted_value r) (Err z) units new (task Alone names.Stage s (lift_at r e g w) units) → FollowsPlan {X = Killed} (killed_value r) (Err z) old new all
    stage_stops old z earlier h =
        subst (λ d. FollowsPlan {X = Killed} (killed_value r) (Err z) old new d) (sym left)
        (follows_later old units new (stages r e w s before (g ∷ gs) units) earlier (killed_value r) unanswered_by (Err z)
        (row_stops (task Alone names.Stage s (lift_at r e g w)) (later s before gs) units new (lifted_value r) (killed_value r) unanswered_by z (λ y. spends_later y) h))
      where
        spends_later : (y : Inside r) → Spends (later s before gs y)
        spends_later (all_inside ws) = λ units. omega arith
        spends_later (first_outside o) = stages_spends gs (suc s) (Some o)

    pub stage_goes : (y : Inside r) → task Alone names.Stage s (lift_at r e g w) units ≡ record { end = Ok y; left = new } → all ≡ later s before gs y new
    stage_goes y h = left ∙ after_value (task Alone names.Stage s (lift_at r e g w)) (later s before gs) units new y h
