-- The lift of the identity as a chain of tasks.
use Rattle.std.proofs.Common.{ℕ, suc, ◌≡◌, List, [], ◌∷◌, Result, refl, sym, ap, ◌∙◌, subst}
use Rattle.fm_poly.specs.declared.ring.Ring.{Ring}
use Rattle.fm_run.specs.declared.stop.Stop.{Stop}
use Rattle.fm_run.specs.declared.task.Side.TheVariants.{Alone}
use Rattle.fm_run.specs.declared.task.Name.TheVariants.{Lambda}
use Rattle.fm_run.specs.declared.task.Task.{Task}
use Rattle.fm_run.specs.declared.task.Stopped.{Stopped}
use Rattle.fm_run.specs.Runs.{Spends, Follows, ready, ◌>>=◌}
use Rattle.fm_run.specs.Tasks.{stopped_in}
use Rattle.fm_mat.specs.Matrices.{MatrixValue, matrix_meaning}
use Rattle.fm_graphs.specs.Graphs.{MatrixOf, Graph}
use Rattle.fm_syz.specs.GraphValues.{GraphValue, graph_meaning}
use Rattle.fm_plan.specs.Tasks.{Plan, task}
use Rattle.fm_plan.specs.Queries.{over_identity}
use Rattle.fm_plan.specs.Following.{FollowsPlan}
use Rattle.fm_plan.proofs.Following.{plan_follows}
use Rattle.fm_lift.specs.Lifts.{graphs_meaning, matrices_meaning, product_work}
use Rattle.fm_lift.proofs.Chains.{chained}
use Rattle.fm_lift.proofs.Products.{product_spends}

module _ (r : Ring) where
  -- a matrix and a graph
  abbrev pub pairs : List MatrixValue → List GraphValue → List (MatrixOf r × Graph r)
  pairs [] gs = []
  pairs (d ∷ ds) [] = []
  pairs (d ∷ ds) (g ∷ gs) = (matrix_meaning r d, graph_meaning r g) ∷ pairs ds gs

  abbrev pub identity_step : ℕ → MatrixOf r → MatrixOf r × Graph r → Plan (MatrixOf r)
  identity_step j lambda x = task Alone Lambda j (product_work r lambda x.0 x.1)

  pub identity_spends : (j : ℕ) (lambda : MatrixOf r) (x : MatrixOf r × Graph r) → Spends (identity_step j lambda x)
  identity_spends j lambda x = product_spends r lambda x.0 x.1

  pub identity_chained : (ds : List MatrixValue) (gs : List GraphValue) (j : ℕ) (lambda : MatrixOf r) → over_identity r j lambda (matrices_meaning r ds) (graphs_meaning r gs) ≡ chained identity_step j lambda (pairs ds gs)
  identity_chained [] gs j lambda = refl
  identity_chained (d ∷ ds) [] j lambda = refl
  identity_chained (d ∷ ds) (g ∷ gs) j lambda = λ i. identity_step j lambda (matrix_meaning r d, graph_meaning r g) >>= λ next. identity_chained ds gs (suc j) next i >>= λ later. ready (next ∷ later)

-- a call of the task of a matrix
pub identity_told : (s r : Ring) → s ≡ r → (t : Task) (number : ℕ) → t ≡ record { side = Alone; name = Lambda; number = number } → (lambda d : MatrixValue) (g : GraphValue) (result : Result MatrixValue Stop) (answer : Result MatrixValue Stopped) (old new : ℕ)
    → answer ≡ stopped_in t result → Follows (matrix_meaning s) result old new (product_work s (matrix_meaning s lambda) (matrix_meaning s d) (graph_meaning s g) old)
    → FollowsPlan (matrix_meaning r) answer old new (identity_step r number (matrix_meaning r lambda) (matrix_meaning r d, graph_meaning r g) old)
identity_told s r same t number named lambda d g result answer old new is h =
    subst (λ (x : Ring). FollowsPlan (matrix_meaning x) answer old new (identity_step x number (matrix_meaning x lambda) (matrix_meaning x d, graph_meaning x g) old)) same
    (subst (λ a. FollowsPlan (matrix_meaning s) a old new (identity_step s number (matrix_meaning s lambda) (matrix_meaning s d, graph_meaning s g) old)) (sym (is ∙ ap (λ x. stopped_in x result) named))
    (plan_follows (matrix_meaning s) Alone Lambda number old new (product_work s (matrix_meaning s lambda) (matrix_meaning s d) (graph_meaning s g)) result h))
