-- The next member of a chain, part by part.
use Rattle.std.proofs.Common.{ℕ, ◌≡◌, Result, Ok, Err, refl, arith}
use Rattle.fm_poly.specs.declared.ring.Ring.{Ring}
use Rattle.fm_run.specs.declared.stop.Stop.{Stop}
use Rattle.fm_run.specs.Runs.{Spends, Follows, ready, ◌>>=◌, halt_of, Work}
use Rattle.fm_run.specs.Turns.{Turn}
use Rattle.fm_run.proofs.Calls.{row_goes, row_stops}
use Rattle.fm_run.proofs.Spending.{then_spends}
use Rattle.fm_mat.specs.Matrices.{MatrixValue, matrix_meaning}
use Rattle.fm_graphs.specs.Bounds.{twisted_matrix}
use Rattle.fm_graphs.specs.Graphs.{MatrixOf, inside_run}
use Rattle.fm_graphs.specs.Graphs as runs
use Rattle.fm_graphs.specs.Trims.{Preimage, preimage_run}
use Rattle.fm_graphs.proofs.Sizes.{inside_spends}
use Rattle.fm_graphs.proofs.Spending.{preimage_spends, twist_spends}
use Rattle.fm_plan.specs.Base.{Links, linked, chain_work}
use Rattle.fm_plan.specs.Results as plans
use Rattle.fm_syz.specs.GeneratorValues.{PreimageValue, preimage_meaning}
use Rattle.fm_syz.specs.Insides.{inside_value}
use Rattle.fm_syz.specs.declared.inside.Inside.{Inside}
use Rattle.fm_chain.specs.Chains.{link_value}
use Rattle.fm_chain.specs.declared.links.Link.{Link}

module _ (r : Ring) (u : MatrixOf r) (c : Links r) where
  abbrev View : Type 0
  View = Turn (Links r) (plans.Chain r)

  ending : Preimage r → runs.Inside r → Work View
  ending x y = ready (linked r c x y)

  abbrev after_member : Preimage r → Work View
  after_member x = inside_run r x.found c.graph >>= λ y. ready (linked r c x y)

  abbrev after_power : MatrixOf r → Work View
  after_power K = preimage_run r u K >>= after_member

  member_spends : (x : Preimage r) → Spends (after_member x)
  member_spends x = then_spends (inside_run r x.found c.graph) (λ y. ready (linked r c x y)) (inside_spends r x.found c.graph) (λ y units. omega arith)

  power_spends : (K : MatrixOf r) → Spends (after_power K)
  power_spends K = then_spends (preimage_run r u K) after_member (preimage_spends r u K) member_spends

  pub chain_work_spends : Spends (chain_work r u c)
  unfolding chain_work
  chain_work_spends = then_spends (twisted_matrix r.prime r.vars 1 c.graph.matrix) after_power (twist_spends r 1 c.graph.matrix) power_spends

  pub power_stops : (units : ℕ) (z : Stop) → Follows {X = MatrixValue} (matrix_meaning r) (Err z) units units (twisted_matrix r.prime r.vars 1 c.graph.matrix units) → Follows {X = Link} (link_value r c) (Err z) units units (chain_work r u c units)
  unfolding chain_work
  power_stops units z h = row_stops (twisted_matrix r.prime r.vars 1 c.graph.matrix) after_power units units (λ (K : MatrixValue). matrix_meaning r K) (link_value r c) halt_of z power_spends h

  module _ (old : ℕ) (K : MatrixValue) (first : twisted_matrix r.prime r.vars 1 c.graph.matrix old ≡ record { end = Ok (matrix_meaning r K); left = old }) where
    on : (new : ℕ) (answer : Result Link Stop) → Follows (link_value r c) answer old new (after_power (matrix_meaning r K) old) → Follows (link_value r c) answer old new (chain_work r u c old)
    unfolding chain_work
    on new answer h = row_goes (twisted_matrix r.prime r.vars 1 c.graph.matrix) after_power old new (matrix_meaning r K) old first (twist_spends r 1 c.graph.matrix) (link_value r c) halt_of answer h

    pub member_stops : (new : ℕ) (z : Stop) → Follows {X = PreimageValue} (preimage_meaning r) (Err z) old new (preimage_run r u (matrix_meaning r K) old) → Follows {X = Link} (link_value r c) (Err z) old new (chain_work r u c old)
    member_stops new z h = on new (Err z) (row_stops (preimage_run r u (matrix_meaning r K)) after_member old new (λ (x : PreimageValue). preimage_meaning r x) (link_value r c) halt_of z member_spends h)

    module _ (mid new : ℕ) (x : PreimageValue) (second : preimage_run r u (matrix_meaning r K) old ≡ record { end = Ok (preimage_meaning r x); left = mid }) where
      then : (answer : Result Link Stop) → Follows (link_value r c) answer mid new (after_member (preimage_meaning r x) mid) → Follows (link_value r c) answer old new (chain_work r u c old)
      then answer h = on new answer (row_goes (preimage_run r u (matrix_meaning r K)) after_member old new (preimage_meaning r x) mid second (preimage_spends r u (matrix_meaning r K)) (link_value r c) halt_of answer h)

      pub inside_stops : (z : Stop) → Follows {X = Inside} (inside_value r) (Err z) mid new (inside_run r (preimage_meaning r x).found c.graph mid) → Follows {X = Link} (link_value r c) (Err z) old new (chain_work r u c old)
      inside_stops z h = then (Err z) (row_stops (inside_run r (preimage_meaning r x).found c.graph) (λ y. ready (linked r c (preimage_meaning r x) y)) mid new (inside_value r) (link_value r c) halt_of z (λ y units. omega arith) h)

      pub link_ends : (y : Inside) → inside_run r (preimage_meaning r x).found c.graph mid ≡ record { end = Ok (inside_value r y); left = new } → Follows {X = Link} (link_value r c) (Ok (record { member = x; inside = y })) old new (chain_work r u c old)
      link_ends y h = then (Ok (record { member = x; inside = y })) (row_goes (inside_run r (preimage_meaning r x).found c.graph) (λ y. ready (linked r c (preimage_meaning r x) y)) mid new (inside_value r y) new h
          (inside_spends r (preimage_meaning r x).found c.graph) (link_value r c) halt_of (Ok (record { member = x; inside = y })) refl)
