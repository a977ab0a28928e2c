-- The calls of the query `class`, in its ring.
use Rattle.std.proofs.Common.{ℕ, ◌≡◌, List, length, None, Result, Vec, Global, subst}
use Rattle.fm_algebra.specs.PolynomialMatrices.{InImage, matrix_twist}
use Rattle.fm_limit.specs.ResolvedIdeal.{matrix_at}
use Rattle.fm_poly.specs.declared.ring.Ring.{Ring}
use Rattle.fm_poly.specs.declared.poly.Poly.{Poly}
use Rattle.fm_poly.specs.Polys.{PolyValue}
use Rattle.fm_run.specs.declared.task.Stopped.{Stopped}
use Rattle.fm_run.specs.declared.task.Side.TheVariants.{Alone}
use Rattle.fm_run.specs.declared.task.Name.TheVariants as names
use Rattle.fm_run.specs.Runs.{ended_with}
use Rattle.fm_mat.specs.Matrices.{column_meaning, matrix_meaning}
use Rattle.fm_plan.specs.Tasks.{task}
use Rattle.fm_plan.specs.Queries.{base_of, chain_graphs, lift_at, solution_of, stages}
use Rattle.fm_plan.specs.Following.{FollowsPlan}
use Rattle.fm_syz.specs.GraphValues.{GraphValue, graph_meaning}
use Rattle.fm_resolve.specs.Resolutions.{ResolutionValue, resolution_value}
use Rattle.fm_ext.specs.Exts.{differentials, ring_of}
use Rattle.fm_chain.specs.Stages.{killed_value}
use Rattle.fm_chain.specs.declared.stages.Killed.{Killed}
use Rattle.fm_queries.specs.Bases.{BaseValue, base_meaning}
use Rattle.fm_queries.specs.Founds.{FollowsQuery, class_test}
use Rattle.fm_queries.specs.declared.unanswered.Unanswered.{Unanswered}

module _ (r : Ring) where
  module _ (x : ResolutionValue) (ring : x.first.matrix.ring ≡ r) (i : ℕ) where
    pub test_told : (e : ℕ) (z : List PolyValue) (result : Result (Unit {0}) Unanswered) (units : ℕ)
        → ((units : ℕ) → let s = x.first.matrix.ring in FollowsQuery (λ u. tt) result units units (class_test s e (matrix_at s.prime s.vars (differentials s x) i) (column_meaning s z) units))
        → FollowsQuery (λ u. tt) result units units (class_test r e (matrix_at r.prime r.vars (differentials r x) i) (column_meaning r z) units)
    test_told e z result units h = subst (λ (s : Ring). FollowsQuery (λ u. tt) result units units (class_test s e (matrix_at s.prime s.vars (differentials s x) i) (column_meaning s z) units)) ring (h units)

    pub base_told : {Y : Type 0} (values : Y → BaseValue) (result : Result Y Stopped) (old new : ℕ)
        → (let s = x.first.matrix.ring in FollowsPlan (λ b. base_meaning s (values b)) result old new (base_of s Alone i (resolution_value s x) old))
        → FollowsPlan (λ b. base_meaning r (values b)) result old new (base_of r Alone i (resolution_value r x) old)
    base_told values result old new h = subst (λ (s : Ring). FollowsPlan (λ b. base_meaning s (values b)) result old new (base_of s Alone i (resolution_value s x) old)) ring h

  module _ (e : ℕ) (g h : GraphValue) (same : h ≡ g) (ring : g.matrix.ring ≡ r) (z : List PolyValue) where
    pub coordinates_told : (result : Result (Vec Poly Global) Stopped) (old new : ℕ)
        → (let s = h.matrix.ring in FollowsPlan (λ w. column_meaning s w.items) result old new (ended_with (solution_of s) (task Alone names.Coordinates 0 (lift_at s e (graph_meaning s h) (column_meaning s z)) old)))
        → FollowsPlan (λ w. column_meaning r w.items) result old new (ended_with (solution_of r) (task Alone names.Coordinates 0 (lift_at r e (graph_meaning r g) (column_meaning r z)) old))
    coordinates_told result old new k =
        subst (λ (s : Ring). FollowsPlan (λ w. column_meaning s w.items) result old new (ended_with (solution_of s) (task Alone names.Coordinates 0 (lift_at s e (graph_meaning s g) (column_meaning s z)) old))) ring
        (subst (λ (h : GraphValue). let s = h.matrix.ring in FollowsPlan (λ w. column_meaning s w.items) result old new (ended_with (solution_of s) (task Alone names.Coordinates 0 (lift_at s e (graph_meaning s h) (column_meaning s z)) old))) same k)

    pub length_told : (w : List PolyValue) → InImage r.prime r.vars (matrix_twist r.prime r.vars e (matrix_meaning r g.matrix)) (column_meaning r z)
        → (let s = h.matrix.ring in InImage s.prime s.vars (matrix_twist s.prime s.vars e (matrix_meaning s h.matrix)) (column_meaning s z) → length w ≡ length h.matrix.columns)
        → length w ≡ length g.matrix.columns
    length_told w inside k =
        subst (λ (s : Ring). InImage s.prime s.vars (matrix_twist s.prime s.vars e (matrix_meaning s g.matrix)) (column_meaning s z) → length w ≡ length g.matrix.columns) ring
        (subst (λ (h : GraphValue). let s = h.matrix.ring in InImage s.prime s.vars (matrix_twist s.prime s.vars e (matrix_meaning s h.matrix)) (column_meaning s z) → length w ≡ length h.matrix.columns) same k) inside

  pub kill_told : (b : BaseValue) → ring_of b.ext ≡ r → (e : ℕ) (w : List PolyValue) (result : Result Killed Stopped) (old new : ℕ)
      → (let s = ring_of b.ext in FollowsPlan (killed_value s) result old new (stages s e (column_meaning s w) 0 None (chain_graphs s (base_meaning s b)) old))
      → FollowsPlan (killed_value r) result old new (stages r e (column_meaning r w) 0 None (chain_graphs r (base_meaning r b)) old)
  kill_told b ring e w result old new h = subst (λ (s : Ring). FollowsPlan (killed_value s) result old new (stages s e (column_meaning s w) 0 None (chain_graphs s (base_meaning s b)) old)) ring h
