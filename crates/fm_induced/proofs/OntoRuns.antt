-- Whether a map is onto, task by task.
use Rattle.std.proofs.Common.{ℕ, ◌≡◌, [], Result, Ok, Err, sym, subst, arith}
use Rattle.fm_algebra.specs.PolynomialMatrices.{matrix_beside}
use Rattle.fm_graphs.specs.Graphs as runs
use Rattle.fm_graphs.specs.Graphs.{MatrixOf, Graph, all_inside, first_outside, graph_run, whole_run}
use Rattle.fm_graphs.proofs.Sizes.{whole_spends}
use Rattle.fm_graphs.proofs.Spending.{graph_spends}
use Rattle.fm_mat.specs.Matrices.{MatrixValue, matrix_meaning}
use Rattle.fm_plan.specs.Following.{FollowsPlan, unanswered_by}
use Rattle.fm_plan.specs.Queries as plans
use Rattle.fm_plan.specs.Queries.{join_turn, join_work, joined, onto_plan}
use Rattle.fm_plan.specs.Tasks.{Plan, out_of_units, task}
use Rattle.fm_poly.specs.declared.ring.Ring.{Ring}
use Rattle.fm_run.specs.declared.stop.Stop.{Stop}
use Rattle.fm_run.specs.declared.task.Name.TheVariants as names
use Rattle.fm_run.specs.declared.task.Side.TheVariants.{Alone}
use Rattle.fm_run.specs.declared.task.Stopped.{Stopped}
use Rattle.fm_run.specs.Runs.{Follows, Spends, Work, halt_of, ready, ◌>>=◌}
use Rattle.fm_run.specs.Turns.{repeated}
use Rattle.fm_run.proofs.Calls.{row_goes, row_stops}
use Rattle.fm_run.proofs.Following.{after_value}
use Rattle.fm_run.proofs.Spending.{then_spends, turns_spend}
use Rattle.fm_syz.specs.GraphValues.{GraphValue, graph_meaning}
use Rattle.fm_syz.specs.Insides.{inside_value}
use Rattle.fm_syz.specs.declared.inside.Inside.{Inside}
use Rattle.fm_induced.specs.Joins.{beginning_value, joined_value, onto_value}
use Rattle.fm_induced.specs.declared.joins.Joined.{Joined}
use Rattle.fm_induced.specs.declared.joins.Beginning.{Beginning}
use Rattle.fm_induced.specs.declared.onto_maps.Onto.{Onto}
use Rattle.fm_induced.proofs.JoinRuns.{link_spends}

-- ---- the graph from which the chain begins
module _ (r : Ring) (A : MatrixOf r) where
  abbrev after_graph : Graph r → Work (Graph r × runs.Inside r)
  after_graph g = whole_run r g >>= λ y. ready (g, y)

  after_graph_spends : (g : Graph r) → Spends (after_graph g)
  after_graph_spends g = then_spends (whole_run r g) (λ y. ready (g, y)) (whole_spends r g) (λ y units. omega arith)

  pub join_spends : Spends (join_work r A)
  unfolding join_work
  join_spends = then_spends (graph_run r A) after_graph (graph_spends r A) after_graph_spends

  pub graph_stops : (old new : ℕ) (z : Stop) → Follows {X = GraphValue} (graph_meaning r) (Err z) old new (graph_run r A old) → Follows {X = Beginning} (beginning_value r) (Err z) old new (join_work r A old)
  unfolding join_work
  graph_stops old new z h = row_stops (graph_run r A) after_graph old new (λ (g : GraphValue). graph_meaning r g) (beginning_value r) halt_of z after_graph_spends h

  module _ (old mid : ℕ) (g : GraphValue) (goes : graph_run r A old ≡ record { end = Ok (graph_meaning r g); left = mid }) (new : ℕ) where
    from_graph : (answer : Result Beginning Stop) → Follows (beginning_value r) answer mid new (after_graph (graph_meaning r g) mid) → Follows (beginning_value r) answer old new (join_work r A old)
    unfolding join_work
    from_graph answer h = row_goes (graph_run r A) after_graph old new (graph_meaning r g) mid goes (graph_spends r A) (beginning_value r) halt_of answer h

    pub whole_stops : (z : Stop) → Follows {X = Inside} (inside_value r) (Err z) mid new (whole_run r (graph_meaning r g) mid) → Follows {X = Beginning} (beginning_value r) (Err z) old new (join_work r A old)
    whole_stops z h = from_graph (Err z) (row_stops (whole_run r (graph_meaning r g)) (λ y. ready (graph_meaning r g, y)) mid new (inside_value r) (beginning_value r) halt_of z (λ y units. omega arith) h)

    pub whole_ends : (y : Inside) → Follows (inside_value r) (Ok y) mid new (whole_run r (graph_meaning r g) mid) → Follows (beginning_value r) (Ok (record { first = g; whole = y })) old new (join_work r A old)
    whole_ends y h = from_graph (Ok (record { first = g; whole = y })) (after_value (whole_run r (graph_meaning r g)) (λ y. ready (graph_meaning r g, y)) mid new (inside_value r y) h)

-- GRAPH, for another spelling of the matrix
pub graph_told : (r : Ring) (m : MatrixValue) (A : MatrixOf r) → m.ring ≡ r → matrix_meaning r m ≡ A → (result : Result GraphValue Stop) (old new : ℕ)
    → (let s = m.ring in Follows (λ g. graph_meaning s g) result old new (graph_run s (matrix_meaning s m) old)) → Follows (graph_meaning r) result old new (graph_run r A old)
graph_told r m A ring is result old new h =
    subst (λ B. Follows (graph_meaning r) result old new (graph_run r B old)) is
    (subst (λ (s : Ring). Follows (λ g. graph_meaning s g) result old new (graph_run s (matrix_meaning s m) old)) ring h)

-- ---- the chain
module _ (r : Ring) (u : MatrixOf r) where
  abbrev pub joining : Graph r → runs.Outside → Plan (plans.Onto r)
  joining g o = repeated (out_of_units Alone names.Onto) (join_turn r u g) (record { links = []; graph = g; proper = o })

  pub joining_spends : (g : Graph r) (o : runs.Outside) → Spends (joining g o)
  joining_spends g o units = turns_spend (out_of_units Alone names.Onto) (join_turn r u g) (λ c. link_spends r u g c) units (record { links = []; graph = g; proper = o }) units

module _ (r : Ring) (N phi u : MatrixOf r) where
  abbrev first : Plan (Graph r × runs.Inside r)
  first = task Alone names.Onto 0 (join_work r (matrix_beside r.prime r.vars N phi))

  joined_spends : (b : Graph r × runs.Inside r) → Spends (joined r u b)
  joined_spends (g, all_inside ws) = λ units. omega arith
  joined_spends (g, first_outside o) = joining_spends r u g o

  pub onto_spends : Spends (onto_plan r N phi u)
  unfolding onto_plan
  onto_spends = then_spends first (joined r u) (join_spends r (matrix_beside r.prime r.vars N phi)) joined_spends

  pub first_stops : (old new : ℕ) (z : Stopped) → FollowsPlan {X = Beginning} (beginning_value r) (Err z) old new (first old) → FollowsPlan {X = Onto} (onto_value r) (Err z) old new (onto_plan r N phi u old)
  unfolding onto_plan
  first_stops old new z h = row_stops first (joined r u) old new (beginning_value r) (onto_value r) unanswered_by z joined_spends h

  module _ (old mid : ℕ) (b : Beginning) (goes : FollowsPlan (beginning_value r) (Ok b) old mid (first old)) (new : ℕ) (answer : Result Onto Stopped) where
    on : FollowsPlan (onto_value r) answer mid new (joined r u (beginning_value r b) mid) → FollowsPlan (onto_value r) answer old new (onto_plan r N phi u old)
    unfolding onto_plan
    on h = row_goes first (joined r u) old new (beginning_value r b) mid goes (join_spends r (matrix_beside r.prime r.vars N phi)) (onto_value r) unanswered_by answer h

    pub begun : (y : runs.Inside r) → inside_value r b.whole ≡ y → FollowsPlan (onto_value r) answer mid new (joined r u (graph_meaning r b.first, y) mid) → FollowsPlan (onto_value r) answer old new (onto_plan r N phi u old)
    begun y is h = on (subst (λ x. FollowsPlan (onto_value r) answer mid new (joined r u (graph_meaning r b.first, x) mid)) (sym is) h)

-- the links from a graph over r
pub joining_told : {X : Type 0} (r : Ring) (g : GraphValue) → g.matrix.ring ≡ r → (u : MatrixValue) (o : runs.Outside) (values : X → Joined) (result : Result X Stopped) (old new : ℕ)
    → (let s = g.matrix.ring in FollowsPlan (λ x. joined_value s g (values x)) result old new (joining s (matrix_meaning s u) (graph_meaning s g) o old))
    → FollowsPlan (λ x. joined_value r g (values x)) result old new (joining r (matrix_meaning r u) (graph_meaning r g) o old)
joining_told r g ring u o values result old new h = subst (λ (s : Ring). FollowsPlan (λ x. joined_value s g (values x)) result old new (joining s (matrix_meaning s u) (graph_meaning s g) o old)) ring h
