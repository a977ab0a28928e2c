-- Calls on the graph of the stable kernel, in the ring of the query.
use Rattle.std.proofs.Common.{ℕ, ◌≡◌, ◌∙◌, List, Result, length, subst}
use Rattle.fm_poly.specs.declared.ring.Ring.{Ring}
use Rattle.fm_poly.specs.declared.term.Term.{Term}
use Rattle.fm_poly.specs.Polys.{meaning}
use Rattle.fm_mat.specs.Matrices.{matrix_meaning}
use Rattle.fm_run.specs.declared.stop.Stop.{Stop}
use Rattle.fm_run.specs.declared.task.Stopped.{Stopped}
use Rattle.fm_run.specs.declared.task.Side.TheVariants.{Alone}
use Rattle.fm_run.specs.declared.task.Name.TheVariants as names
use Rattle.fm_run.specs.Runs.{Follows}
use Rattle.fm_graphs.specs.Graphs.{whole_run}
use Rattle.fm_plan.specs.Tasks.{task}
use Rattle.fm_plan.specs.Following.{FollowsPlan}
use Rattle.fm_syz.specs.GraphValues.{GraphValue, graph_meaning}
use Rattle.fm_syz.specs.GeneratorValues.{PreimageValue, preimage_meaning}
use Rattle.fm_syz.specs.Insides.{HasColumns, inside_value}
use Rattle.fm_syz.specs.declared.inside.Inside.{Inside}
use Rattle.fm_support.specs.Annihilators.{annihilator_work}
use Rattle.fm_support.specs.Inverting.{inverted_value, invert_plan}
use Rattle.fm_support.specs.declared.inverting.Inverted.{Inverted}

pub columns_told : (r : Ring) (g h : GraphValue) → h ≡ g → g.matrix.ring ≡ r → (x : Inside) → HasColumns h.matrix.ring (length h.matrix.columns) x → HasColumns r (length g.matrix.columns) x
columns_told r g h same ring x k = subst (λ (s : Ring). HasColumns s (length g.matrix.columns) x) ring (subst (λ (h : GraphValue). HasColumns h.matrix.ring (length h.matrix.columns) x) same k)

module _ (r : Ring) (g h : GraphValue) (same : h ≡ g) (ring : g.matrix.ring ≡ r) (old new : ℕ) where
  pub whole_told : (result : Result Inside Stop) → (let s = h.matrix.ring in Follows (inside_value s) result old new (whole_run s (graph_meaning s h) old))
      → Follows (inside_value r) result old new (whole_run r (graph_meaning r g) old)
  whole_told result k = subst (λ (s : Ring). Follows (inside_value s) result old new (whole_run s (graph_meaning s g) old)) ring
      (subst (λ (h : GraphValue). let s = h.matrix.ring in Follows (inside_value s) result old new (whole_run s (graph_meaning s h) old)) same k)

  pub annihilator_told : {Y : Type 0} (values : Y → PreimageValue) (result : Result Y Stopped)
      → (let s = h.matrix.ring in FollowsPlan (λ y. preimage_meaning s (values y)) result old new (task Alone names.Annihilator 0 (annihilator_work s (matrix_meaning s h.matrix)) old))
      → FollowsPlan (λ y. preimage_meaning r (values y)) result old new (task Alone names.Annihilator 0 (annihilator_work r (matrix_meaning r g.matrix)) old)
  annihilator_told values result k =
      subst (λ (s : Ring). FollowsPlan (λ y. preimage_meaning s (values y)) result old new (task Alone names.Annihilator 0 (annihilator_work s (matrix_meaning s g.matrix)) old)) ring
      (subst (λ (h : GraphValue). let s = h.matrix.ring in FollowsPlan (λ y. preimage_meaning s (values y)) result old new (task Alone names.Annihilator 0 (annihilator_work s (matrix_meaning s h.matrix)) old)) same k)

  pub inverting_told : (ts : List Term) (result : Result Inverted Stopped)
      → (let s = h.matrix.ring in FollowsPlan (inverted_value s) result old new (invert_plan s (meaning s ts) (graph_meaning s h) old))
      → FollowsPlan (inverted_value r) result old new (invert_plan r (meaning r ts) (graph_meaning r g) old)
  inverting_told ts result k =
      subst (λ (s : Ring). FollowsPlan (inverted_value s) result old new (invert_plan s (meaning s ts) (graph_meaning s g) old)) ring
      (subst (λ (h : GraphValue). let s = h.matrix.ring in FollowsPlan (inverted_value s) result old new (invert_plan s (meaning s ts) (graph_meaning s h) old)) same k)
