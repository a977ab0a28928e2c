-- A turn of the chain that isn't the last has spent a unit.
use Rattle.std.proofs.Common.{ℕ, ◌<◌, ◌≡◌, suc, length, refl, ap, subst, arith}
use Rattle.fm_run.specs.Runs.{Ended}
use Rattle.fm_poly.specs.declared.ring.Ring.{Ring}
use Rattle.fm_run.specs.Runs.{ready, ◌>>=◌}
use Rattle.fm_run.specs.Turns.{Turn, again}
use Rattle.fm_graphs.specs.Graphs.{MatrixOf, Outside, Inside, all_inside, first_outside, inside_run}
use Rattle.fm_graphs.specs.Bounds.{twisted_matrix}
use Rattle.fm_graphs.specs.Trims.{Preimage, preimage_run}
use Rattle.fm_run.proofs.Ends.{Ends, same_value, bound}
use Rattle.fm_run.proofs.Counting.{left_of}
use Rattle.fm_graphs.proofs.Spending.{twist_spends, preimage_spends, outside_spends}
use Rattle.fm_run.specs.declared.task.Side.{Side}
use Rattle.fm_run.specs.declared.task.Name.TheVariants.{Chain as ChainTask}
use Rattle.fm_plan.specs.Results.{Chain}
use Rattle.fm_plan.specs.Base.{Links, linked, chain_work, chain_turn}
use Rattle.fm_plan.proofs.Tasks.{task_ends}

module _ (r : Ring) where
  goes_on : (c : Links r) (x : Preimage r) (y : Inside r) (c' : Links r) → linked r c x y ≡ again c' → (o : Outside) × (y ≡ first_outside o)
  goes_on c x (all_inside ws) c' e = cc
  goes_on c x (first_outside o) c' e = (o, refl)

  pub chain_spends : (side : Side) (u : MatrixOf r) (c c' : Links r) (units left : ℕ) → Ends (chain_turn r side u c units) (again c') left → left < units
  unfolding chain_work inside_run
  chain_spends side u c c' units left ends =
      let e = task_ends side ChainTask (suc (length c.growth)) (chain_work r u c) units left (again c') ends in
      let linking = λ (x : Preimage r). inside_run r x.found c.graph >>= λ y. ready (linked r c x y) in
      let a = bound (twisted_matrix r.prime r.vars 1 c.graph.matrix) (λ K. preimage_run r u K >>= linking) units left (again c') e in
      let b = bound (preimage_run r u a.value) linking a.between left (again c') a.second in
      let d = bound (inside_run r (b.value).found c.graph) (λ y. ready (linked r c b.value y)) b.between left (again c') b.second in
      let o = goes_on c b.value d.value c' (same_value (linked r c b.value d.value) (again c') d.between left d.second) in
      let paid = outside_spends r c.graph 1 (b.value).found.columns b.between d.between o.0 (subst (λ y. Ends (inside_run r (b.value).found c.graph b.between) y d.between) o.1 d.first) in
      let h = left_of (twisted_matrix r.prime r.vars 1 c.graph.matrix) units a.between a.value (twist_spends r 1 c.graph.matrix) a.first in
      let k = left_of (preimage_run r u a.value) a.between b.between b.value (preimage_spends r u a.value) b.first in
      let same : d.between ≡ left = ap (λ (q : Ended (Turn (Links r) (Chain r))). q.left) d.second in
      omega (arith, paid, h, k, same)
