-- The lift of Frobenius as a chain of tasks.
use Rattle.std.proofs.Common.{ℕ, zero, suc, ◌≡◌, ◌<◌, ◌≤◌, List, [], ◌∷◌, ◌++◌, map, drop, length, get_or, Result, refl, sym, ap, ◌∙◌, subst, arith}
use Rattle.fm_poly.specs.declared.ring.Ring.{Ring}
use Rattle.fm_run.specs.declared.task.Side.{Side}
use Rattle.fm_run.specs.declared.task.Name.TheVariants.{Lift}
use Rattle.fm_run.specs.declared.stop.Stop.{Stop}
use Rattle.fm_run.specs.declared.task.Task.{Task}
use Rattle.fm_run.specs.declared.task.Stopped.{Stopped}
use Rattle.fm_run.specs.Runs.{Spends, Follows, ready, ◌>>=◌}
use Rattle.fm_run.specs.Tasks.{stopped_in}
use Rattle.fm_mat.specs.Matrices.{MatrixValue, matrix_meaning}
use Rattle.fm_syz.specs.GraphValues.{GraphValue, graph_meaning}
use Rattle.fm_plan.specs.Following.{FollowsPlan}
use Rattle.fm_plan.proofs.Following.{plan_follows}
use Rattle.fm_graphs.specs.Graphs.{MatrixOf, Graph}
use Rattle.fm_plan.specs.Tasks.{Plan, task}
use Rattle.fm_plan.specs.Base.{lift_work, lifting}
use Rattle.fm_lift.specs.Lifts.{AreMatricesOver, after_the_first}
use Rattle.fm_lift.proofs.Chains.{chained}
use Rattle.fm_lift.proofs.Products.{work_spends}

-- a list that begins with x
abbrev pub Begins : {A : Type 0} → A → List A → Type 0
Begins x xs = xs ≡ x ∷ after_the_first xs

pub still_begins : {A : Type 0} (x : A) (xs ys : List A) → Begins x xs → Begins x (xs ++ ys)
still_begins x [] ys h = cc
still_begins x (y ∷ xs) ys h = ap (λ zs. zs ++ ys) h

pub over_more : (r : Ring) (ms : List MatrixValue) (m : MatrixValue) → AreMatricesOver r ms → m.ring ≡ r → AreMatricesOver r (ms ++ m ∷ [])
over_more r [] m h e = (e, tt)
over_more r (n ∷ ms) m h e = (h.0, over_more r ms m h.1 e)

-- what stands in a list of values from a place on
pub dropped : {A B : Type 0} (f : A → B) (xs : List A) (i : ℕ) (x : A) → x ≡ get_or xs i x → i < length xs → drop i (map f xs) ≡ f x ∷ drop (suc i) (map f xs)
dropped f [] i x is less = absurd (omega (arith, less))
dropped f (y ∷ xs) zero x is less = ap (λ z. f z ∷ map f xs) (sym is)
dropped f (y ∷ xs) (suc i) x is less = dropped f xs i x is (omega (arith, less))

pub ends : {A B : Type 0} (f : A → B) (xs : List A) (i : ℕ) → length xs ≤ i → drop i (map f xs) ≡ []
ends f [] zero h = refl
ends f [] (suc i) h = refl
ends f (x ∷ xs) zero h = absurd (omega (arith, h))
ends f (x ∷ xs) (suc i) h = ends f xs i (omega (arith, h))

module _ (r : Ring) (side : Side) where
  abbrev pub lift_step : ℕ → MatrixOf r → Graph r → Plan (MatrixOf r)
  lift_step j theta g = task side Lift j (lift_work r theta g)

  pub step_spends : (j : ℕ) (theta : MatrixOf r) (g : Graph r) → Spends (lift_step j theta g)
  step_spends j theta g = work_spends r theta g

  pub lifting_chained : (gs : List (Graph r)) (j : ℕ) (theta : MatrixOf r) → lifting r side j theta gs ≡ chained lift_step j theta gs
  lifting_chained [] j theta = refl
  lifting_chained (g ∷ gs) j theta = λ i. lift_step j theta g >>= λ next. lifting_chained gs (suc j) next i >>= λ later. ready (next ∷ later)

-- a call of the task of a matrix
pub told : (s r : Ring) → s ≡ r → (side : Side) (t : Task) (number : ℕ) → t ≡ record { side = side; name = Lift; number = number } → (theta : MatrixValue) (g : GraphValue) (result : Result MatrixValue Stop) (answer : Result MatrixValue Stopped) (old new : ℕ)
    → answer ≡ stopped_in t result → Follows (matrix_meaning s) result old new (lift_work s (matrix_meaning s theta) (graph_meaning s g) old)
    → FollowsPlan (matrix_meaning r) answer old new (lift_step r side number (matrix_meaning r theta) (graph_meaning r g) old)
told s r same side t number named theta g result answer old new is h =
    subst (λ (x : Ring). FollowsPlan (matrix_meaning x) answer old new (lift_step x side number (matrix_meaning x theta) (graph_meaning x g) old)) same
    (subst (λ a. FollowsPlan (matrix_meaning s) a old new (lift_step s side number (matrix_meaning s theta) (graph_meaning s g) old)) (sym (is ∙ ap (λ x. stopped_in x result) named))
    (plan_follows (matrix_meaning s) side Lift number old new (lift_work s (matrix_meaning s theta) (graph_meaning s g)) result h))
