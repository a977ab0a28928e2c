-- Ext and its chain, one after the other.
use Rattle.std.proofs.Common.{ℕ, ◌≡◌, Result, Ok, Err, refl, subst, subst₂, arith}
use Rattle.fm_poly.specs.declared.ring.Ring.{Ring}
use Rattle.fm_mat.specs.Matrices.{MatrixValue, matrix_meaning}
use Rattle.fm_run.specs.declared.task.Side.{Side}
use Rattle.fm_run.specs.declared.task.Stopped.{Stopped}
use Rattle.fm_run.specs.Runs.{Spends, ready, ◌>>=◌}
use Rattle.fm_run.proofs.Spending.{then_spends}
use Rattle.fm_plan.specs.Tasks.{Plan}
use Rattle.fm_plan.specs.Base.{resolution_plan, ext_plan, chain_plan, chain_of}
use Rattle.fm_plan.specs.Results as plans
use Rattle.fm_plan.specs.Queries.{BaseOf, base_of, base_plan}
use Rattle.fm_plan.specs.Following.{FollowsPlan}
use Rattle.fm_syz.specs.GraphValues.{GraphValue, graph_meaning}
use Rattle.fm_resolve.specs.Resolutions.{ResolutionValue, resolution_value}
use Rattle.fm_ext.specs.Exts.{ExtValue, ext_meaning}
use Rattle.fm_chain.specs.Chains.{ChainValue, chain_meaning}
use Rattle.fm_queries.specs.Bases.{BaseValue, base_meaning}
use Rattle.fm_queries.proofs.Rows.{stops, goes, ends, last_stops}
use Rattle.fm_queries.proofs.Spending.{resolution_spends, ext_spends, chain_spends, base_spends}

module _ (r : Ring) (side : Side) (i : ℕ) (x : plans.Resolution r) where
  abbrev made : plans.Ext r → plans.Chain r → BaseOf r
  made y c = record { ext = y; chain = c }

  abbrev after : plans.Ext r → Plan (BaseOf r)
  after y = chain_plan r side y >>= λ c. ready (made y c)

  after_spends : (y : plans.Ext r) → Spends (after y)
  unfolding chain_plan
  after_spends y = then_spends (chain_plan r side y) (λ c. ready (made y c)) (chain_spends r side y.u y.relations.graph) (λ c units. omega arith)

  pub ext_stops : (old new : ℕ) (s : Stopped) → FollowsPlan {X = ExtValue} (ext_meaning r) (Err s) old new (ext_plan r side i x old)
      → FollowsPlan {X = BaseValue} (base_meaning r) (Err s) old new (base_of r side i x old)
  ext_stops old new s h = stops (ext_meaning r) (ext_plan r side i x) after (base_meaning r) after_spends old new s h

  module _ (old mid new : ℕ) (y : ExtValue) (first : FollowsPlan (ext_meaning r) (Ok y) old mid (ext_plan r side i x old)) where
    abbrev g : GraphValue
    g = y.relations.generators.graph

    pub chain_stops : (s : Stopped) → FollowsPlan {X = ChainValue} (chain_meaning r g) (Err s) mid new (chain_of r side (matrix_meaning r y.u) (graph_meaning r g) mid)
        → FollowsPlan {X = BaseValue} (base_meaning r) (Err s) old new (base_of r side i x old)
    unfolding chain_plan
    chain_stops s h = goes (ext_meaning r) (ext_plan r side i x) after (base_meaning r) (ext_spends r side i x) old mid new y (Err s) first
        (last_stops (chain_meaning r g) (base_meaning r) (chain_plan r side (ext_meaning r y)) (made (ext_meaning r y)) mid new s h)

    pub chain_ends : (c : ChainValue) → FollowsPlan (chain_meaning r g) (Ok c) mid new (chain_of r side (matrix_meaning r y.u) (graph_meaning r g) mid)
        → FollowsPlan (base_meaning r) (Ok (record { ext = y; chain = c })) old new (base_of r side i x old)
    unfolding chain_plan
    chain_ends c h = goes (ext_meaning r) (ext_plan r side i x) after (base_meaning r) (ext_spends r side i x) old mid new y (Ok (record { ext = y; chain = c })) first
        (ends (chain_meaning r g) (base_meaning r) (chain_plan r side (ext_meaning r y)) (made (ext_meaning r y)) mid new c (record { ext = y; chain = c }) refl h)

-- the chain in the ring of the resolution
pub chain_told : {Y : Type 0} (r : Ring) (side : Side) (values : Y → ChainValue) (g h : GraphValue) (u v : MatrixValue) (result : Result Y Stopped) (old new : ℕ) → h ≡ g → v ≡ u → g.matrix.ring ≡ r
    → (let s = h.matrix.ring in FollowsPlan (λ c. chain_meaning s h (values c)) result old new (chain_of s side (matrix_meaning s v) (graph_meaning s h) old))
    → FollowsPlan (λ c. chain_meaning r g (values c)) result old new (chain_of r side (matrix_meaning r u) (graph_meaning r g) old)
chain_told r side values g h u v result old new graph matrix ring k =
    subst (λ (s : Ring). FollowsPlan (λ c. chain_meaning s g (values c)) result old new (chain_of s side (matrix_meaning s u) (graph_meaning s g) old)) ring
    (subst₂ (λ (h : GraphValue) (v : MatrixValue). let s = h.matrix.ring in FollowsPlan (λ c. chain_meaning s h (values c)) result old new (chain_of s side (matrix_meaning s v) (graph_meaning s h) old)) graph matrix k)

-- ---- from the generators on
module _ (r : Ring) (side : Side) (i : ℕ) (fs : plans.Ideal r) where
  pub resolution_stops : (old new : ℕ) (s : Stopped) → FollowsPlan {X = ResolutionValue} (resolution_value r) (Err s) old new (resolution_plan r side i fs old)
      → FollowsPlan {X = BaseValue} (base_meaning r) (Err s) old new (base_plan r side i fs old)
  unfolding base_plan
  resolution_stops old new s h = stops (resolution_value r) (resolution_plan r side i fs) (base_of r side i) (base_meaning r) (base_spends r side i) old new s h

  pub base_goes : {Y : Type 0} (values : Y → BaseValue) (old mid new : ℕ) (x : ResolutionValue) (result : Result Y Stopped) → FollowsPlan (resolution_value r) (Ok x) old mid (resolution_plan r side i fs old) → x.first.matrix.ring ≡ r
      → (let s = x.first.matrix.ring in FollowsPlan (λ b. base_meaning s (values b)) result mid new (base_of s side i (resolution_value s x) mid))
      → FollowsPlan (λ b. base_meaning r (values b)) result old new (base_plan r side i fs old)
  unfolding base_plan
  base_goes values old mid new x result first ring h =
      goes (resolution_value r) (resolution_plan r side i fs) (base_of r side i) (λ b. base_meaning r (values b)) (resolution_spends r side i fs) old mid new x result first
      (subst (λ (s : Ring). FollowsPlan (λ b. base_meaning s (values b)) result mid new (base_of s side i (resolution_value s x) mid)) ring h)
