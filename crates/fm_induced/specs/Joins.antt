-- Whether an induced map is onto: the program's answers, and the chain from [N | Phi] on the way.
use Rattle.std.specs.Prelude.{ℕ, ◌<◌, ◌≡◌, Some, option_map}
use Rattle.fm_graphs.specs.Bounds.{twisted_matrix}
use Rattle.fm_graphs.specs.Graphs.{MatrixOf, Graph, inside_run, whole_run}
use Rattle.fm_graphs.specs.Graphs as runs
use Rattle.fm_graphs.specs.Trims.{Preimage, preimage_run}
use Rattle.fm_mat.specs.Matrices.{matrix_meaning}
use Rattle.fm_plan.specs.Queries as plans
use Rattle.fm_plan.specs.Queries.{join_next, join_settled}
use Rattle.fm_poly.specs.declared.ring.Ring.{Ring}
use Rattle.fm_run.specs.Runs.{Work, ready, ◌>>=◌}
use Rattle.fm_run.specs.Turns.{Turn, last, again}
use Rattle.fm_support.specs.Inverting.{AreColons, newest, outside_value, preimages_meaning}
use Rattle.fm_syz.specs.GraphValues.{GraphValue, graph_meaning}
use Rattle.fm_syz.specs.Insides.{inside_value}
use Rattle.fm_induced.specs.declared.joins.Beginning.{Beginning}
use Rattle.fm_induced.specs.declared.joins.Joins.{Joins}
use Rattle.fm_induced.specs.declared.joins.Joined.{Joined}
use Rattle.fm_induced.specs.declared.joins.Joined.TheVariants.{Whole, Stable}
use Rattle.fm_induced.specs.declared.joins.JoinTurn.{JoinTurn}
use Rattle.fm_induced.specs.declared.joins.JoinTurn.TheVariants.{Last, Again}
use Rattle.fm_induced.specs.declared.onto_maps.Onto.{Onto}
use Rattle.fm_induced.specs.declared.onto_maps.Onto.TheVariants.{At, Never}

module _ (r : Ring) where
  abbrev pub onto_value : Onto → plans.Onto r
  onto_value (At first links w before) = plans.onto_at (graph_meaning r first) (preimages_meaning r links.items) (matrix_meaning r w) (option_map outside_value before)
  onto_value (Never first links w proper) = plans.never_onto (graph_meaning r first) (preimages_meaning r links.items) (matrix_meaning r w) (outside_value proper)

  abbrev pub beginning_value : Beginning → Graph r × runs.Inside r
  beginning_value b = (graph_meaning r b.first, inside_value r b.whole)

  -- ---- the links on the way
  abbrev pub joins_value : GraphValue → Joins → plans.Joins r
  joins_value g c = record { links = preimages_meaning r c.links.items; graph = graph_meaning r (newest g c.links.items); proper = outside_value c.proper }

  abbrev pub joined_value : GraphValue → Joined → plans.Onto r
  joined_value g (Whole links w before) = plans.onto_at (graph_meaning r g) (preimages_meaning r links.items) (matrix_meaning r w) (Some (outside_value before))
  joined_value g (Stable links w proper) = plans.never_onto (graph_meaning r g) (preimages_meaning r links.items) (matrix_meaning r w) (outside_value proper)

  abbrev pub turn_value : GraphValue → JoinTurn → Turn (plans.Joins r) (plans.Onto r)
  turn_value g (Last x) = last (joined_value g x)
  turn_value g (Again c) = again (joins_value g c)

  -- `onto s`, after the links before it
  abbrev pub link_work : MatrixOf r → Graph r → plans.Joins r → Work (Turn (plans.Joins r) (plans.Onto r))
  link_work u first c = twisted_matrix r.prime r.vars 1 c.graph.matrix >>= λ L. preimage_run r u L >>= λ x. whole_run r x.graph >>= join_next r first c x

  -- what comes after the link x that is not everything
  abbrev pub settle_work : Graph r → plans.Joins r → Preimage r → runs.Outside → Work (Turn (plans.Joins r) (plans.Onto r))
  settle_work first c x o = inside_run r x.found c.graph >>= λ y. ready (join_settled r first c x o y)

-- the matrices are over r, and the links have as many rows as the first
abbrev pub IsOntoOver : Ring → Onto → Type 0
IsOntoOver r (At first links w before) = (first.matrix.ring ≡ r) × (AreColons first links.items × (w.ring ≡ r))
IsOntoOver r (Never first links w proper) = (first.matrix.ring ≡ r) × (AreColons first links.items × (w.ring ≡ r))

-- they are over the ring of the matrix of g, and the links have as many rows
abbrev pub IsJoinedOver : GraphValue → Joined → Type 0
IsJoinedOver g (Whole links w before) = AreColons g links.items × (w.ring ≡ g.matrix.ring)
IsJoinedOver g (Stable links w proper) = AreColons g links.items × (w.ring ≡ g.matrix.ring)

-- a turn that is not the last has spent a unit, and the links of each are over the ring of the matrix of g, with as many rows
abbrev pub GoesOn : GraphValue → (old new : ℕ) → JoinTurn → Type 0
GoesOn g old new (Last x) = IsJoinedOver g x
GoesOn g old new (Again c) = (new < old) × AreColons g c.links.items
