-- Plans make no unit.
use Rattle.std.proofs.Common.{ℕ, List, [], ◌∷◌, take, arith}
use Rattle.fm_algebra.specs.PolynomialMatrices.{matrix_unit}
use Rattle.fm_limit.specs.ResolvedIdeal.{matrix_at, differential, row}
use Rattle.fm_poly.specs.declared.ring.Ring.{Ring}
use Rattle.fm_run.specs.declared.task.Side.{Side}
use Rattle.fm_run.specs.declared.task.Name.TheVariants as names
use Rattle.fm_run.specs.Runs.{Spends, ◌>>=◌, ready}
use Rattle.fm_run.proofs.Spending.{then_spends, turns_spend}
use Rattle.fm_graphs.specs.Graphs.{MatrixOf, Graph, graph_run}
use Rattle.fm_graphs.specs.Trims.{Preimage, kernel_run, preimage_run}
use Rattle.fm_graphs.proofs.Spending.{graph_spends, preimage_spends}
use Rattle.fm_plan.specs.Tasks.{Plan, task, out_of_units}
use Rattle.fm_plan.specs.Base.{Links, flip, resolving, resolution_plan, lifting, ext_plan, morphism_work, chain_turn, chain_of, chain_plan}
use Rattle.fm_plan.specs.Results.{Ideal, Resolution, Ext, Chain, graphs_of, differentials_of}
use Rattle.fm_plan.specs.Queries.{BaseOf, base_of, base_plan}
use Rattle.fm_resolve.proofs.ResolvingRuns.{resolving_spends}
use Rattle.fm_ext.proofs.InRow.{kernel_spends, lifting_spends}
use Rattle.fm_ext.proofs.Morphisms.{morphism_spends}
use Rattle.fm_chain.proofs.LinkParts.{chain_work_spends}

module _ (r : Ring) (side : Side) where
  pub resolution_spends : (i : ℕ) (fs : Ideal r) → Spends (resolution_plan r side i fs)
  unfolding resolution_plan
  resolution_spends i fs = then_spends (task side names.Resolve 1 (graph_run r (row r.prime r.vars fs)))
      (λ g. resolving r side i 1 g >>= λ next. ready (record { first = g; next = next })) (graph_spends r (row r.prime r.vars fs))
      (λ g. then_spends (resolving r side i 1 g) (λ next. ready (record { first = g; next = next })) (resolving_spends r side i 1 g) (λ next units. omega arith))

  pub ext_spends : (i : ℕ) (x : Resolution r) → Spends (ext_plan r side i x)
  unfolding ext_plan
  ext_spends i x =
      let unit = matrix_unit r.prime r.vars 1 in
      let ds = differentials_of r x in
      let made = λ (thetas : List (MatrixOf r)) (z n : Preimage r) (u : MatrixOf r). ready {A = Ext r} (record { resolution = x; lift = unit ∷ thetas; cocycles = z; relations = n; u = u }) in
      let morphism = λ (thetas : List (MatrixOf r)) (z n : Preimage r).
      task side names.Morphism 0 (morphism_work r (matrix_at r.prime r.vars (unit ∷ thetas) i) z.graph) >>= λ u. made thetas z n u in
      let relations = λ (thetas : List (MatrixOf r)) (z : Preimage r).
      task side names.Relations 0 (preimage_run r z.found (flip r (differential r.prime r.vars ds i))) >>= λ n. morphism thetas z n in
      let cocycles = λ (thetas : List (MatrixOf r)).
      task side names.Cocycles 0 (kernel_run r (flip r (matrix_at r.prime r.vars ds i))) >>= λ z. relations thetas z in
      then_spends (lifting r side 1 unit (take i (graphs_of r x))) cocycles (lifting_spends r side (take i (graphs_of r x)))
      (λ thetas. then_spends (task side names.Cocycles 0 (kernel_run r (flip r (matrix_at r.prime r.vars ds i)))) (relations thetas) (kernel_spends r (flip r (matrix_at r.prime r.vars ds i)))
      (λ z. then_spends (task side names.Relations 0 (preimage_run r z.found (flip r (differential r.prime r.vars ds i)))) (morphism thetas z) (preimage_spends r z.found (flip r (differential r.prime r.vars ds i)))
      (λ n. then_spends (task side names.Morphism 0 (morphism_work r (matrix_at r.prime r.vars (unit ∷ thetas) i) z.graph)) (made thetas z n) (morphism_spends r (matrix_at r.prime r.vars (unit ∷ thetas) i) z.graph)
      (λ u units. omega arith))))

  pub chain_spends : (u : MatrixOf r) (g : Graph r) → Spends (chain_of r side u g)
  chain_spends u g units = turns_spend (out_of_units side names.Chain) (chain_turn r side u) (λ c. chain_work_spends r u c) units (record { links = []; growth = []; graph = g }) units

  pub base_spends : (i : ℕ) (x : Resolution r) → Spends (base_of r side i x)
  unfolding chain_plan
  base_spends i x = then_spends (ext_plan r side i x) (λ y. chain_plan r side y >>= λ c. ready (record { ext = y; chain = c })) (ext_spends i x)
      (λ y. then_spends (chain_plan r side y) (λ c. ready (record { ext = y; chain = c })) (chain_spends y.u y.relations.graph) (λ c units. omega arith))

  pub plan_spends : (i : ℕ) (fs : Ideal r) → Spends (base_plan r side i fs)
  unfolding base_plan
  plan_spends i fs = then_spends (resolution_plan r side i fs) (base_of r side i) (resolution_spends i fs) (base_spends i)
