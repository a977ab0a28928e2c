-- Links one after another, from a graph on: how a turn ends.
use Rattle.std.proofs.Common.{Vec, Global, ℕ, ◌<◌, ◌≤◌, ◌≡◌, Some, List, [], ◌∷◌, ◌++◌, length, Result, Ok, Err, refl, sym, ap, ◌∙◌, subst, arith}
use Rattle.std.specs.Prelude.{IfErr, IfOk}
use Rattle.std.proofs.lemmas.List.{map-append}
use Rattle.fm_graphs.specs.Bounds.{twisted_matrix}
use Rattle.fm_graphs.specs.Graphs as runs
use Rattle.fm_graphs.specs.Graphs.{MatrixOf, Graph, all_inside, first_outside, inside_run, whole_run, width}
use Rattle.fm_graphs.specs.Listing.{VectorOf}
use Rattle.fm_graphs.specs.Trims.{Preimage, preimage_run}
use Rattle.fm_graphs.proofs.Sizes.{inside_spends, whole_spends}
use Rattle.fm_graphs.proofs.Spending.{outside_spends, preimage_spends, twist_spends}
use Rattle.fm_mat.specs.Matrices.{AreColumns, MatrixValue, column_meaning, columns_meaning, matrix_meaning}
use Rattle.fm_mat.specs.declared.column.Column.{Column}
use Rattle.fm_mat.proofs.Steps.{map_length}
use Rattle.fm_plan.specs.Queries as plans
use Rattle.fm_plan.specs.Queries.{join_next, join_settled}
use Rattle.fm_poly.specs.declared.ring.Ring.{Ring}
use Rattle.fm_poly.specs.Polys.{PolyValue}
use Rattle.fm_run.specs.declared.stop.Stop.{Stop}
use Rattle.fm_run.specs.declared.stop.Stop.TheVariants as stops
use Rattle.fm_run.specs.Runs.{Spends, Work, Follows, Halts, halt_of, ready, ◌>>=◌}
use Rattle.fm_run.specs.Turns.{Turn, last, again}
use Rattle.fm_run.proofs.Calls.{given, row_goes, row_stops}
use Rattle.fm_run.proofs.Counting.{left_of}
use Rattle.fm_run.proofs.Spending.{then_spends}
use Rattle.fm_support.specs.Inverting.{newest, preimages_meaning}
use Rattle.fm_support.proofs.ColonRuns.{newest_more}
use Rattle.fm_syz.specs.GeneratorValues.{PreimageValue, preimage_meaning}
use Rattle.fm_syz.specs.GraphValues.{GraphValue, graph_meaning}
use Rattle.fm_syz.specs.Insides.{HasColumns, inside_value}
use Rattle.fm_syz.specs.declared.inside.Inside.{Inside}
use Rattle.fm_syz.specs.declared.inside.Inside.TheVariants.{All}
use Rattle.fm_induced.specs.Joins.{GoesOn, link_work, settle_work, turn_value}
use Rattle.fm_induced.specs.declared.joins.JoinTurn.{JoinTurn}
use Rattle.fm_induced.specs.declared.joins.JoinTurn.TheVariants.{Last, Again}

abbrev TurnOf : Ring → Type 0
TurnOf r = Turn (plans.Joins r) (plans.Onto r)

-- ---- after a link that is not everything
module _ (r : Ring) (first : Graph r) (C : plans.Joins r) (X : Preimage r) (O : runs.Outside) where
  pub settle_spends : Spends (settle_work r first C X O)
  settle_spends = then_spends (inside_run r X.found C.graph) (λ y. ready (join_settled r first C X O y)) (inside_spends r X.found C.graph) (λ y units. omega arith)

  module _ (old mid : ℕ) where
    pub settle_stops : (z : Stop) → Follows {X = Inside} (inside_value r) (Err z) old mid (inside_run r X.found C.graph old) → Halts old mid (settle_work r first C X O old) (halt_of z)
    settle_stops z h = row_stops (inside_run r X.found C.graph) (λ y. ready (join_settled r first C X O y)) old mid (inside_value r) (λ (t : TurnOf r). t) halt_of z (λ y units. omega arith) h

    pub settle_goes : (y : Inside) → Follows (inside_value r) (Ok y) old mid (inside_run r X.found C.graph old) → {Y : Type 0} (view : Y → TurnOf r) (answer : Result Y Stop)
        → Follows view answer mid mid (ready (join_settled r first C X O (inside_value r y)) mid) → Follows view answer old mid (settle_work r first C X O old)
    settle_goes y h view answer k = row_goes (inside_run r X.found C.graph) (λ y. ready (join_settled r first C X O y)) old mid (inside_value r y) mid h (inside_spends r X.found C.graph) view halt_of answer k

    pub outside_paid : (o : runs.Outside) → inside_run r X.found C.graph old ≡ record { end = Ok (first_outside o); left = mid } → mid < old
    unfolding inside_run
    outside_paid o e = outside_spends r C.graph 1 X.found.columns old mid o e

-- ---- the answers of turns
-- columns that were solved for through a graph, as a matrix
pub solved : (r : Ring) (g : GraphValue) (m : MatrixValue) (ws : List (List PolyValue)) → m.rows ≡ length g.matrix.columns → m.columns ≡ ws → ◌≡◌ {A = MatrixOf r} (record { rows = width r (graph_meaning r g); columns = columns_meaning r ws }) (matrix_meaning r m)
solved r g m ws rows columns = λ t. record { rows = (map_length (column_meaning r) g.matrix.columns ∙ sym rows) t; columns = ap (columns_meaning r) (sym columns) t }

module _ (r : Ring) (first : Graph r) (cs cs' : List PreimageValue) (x : PreimageValue) (grown : cs' ≡ cs ++ x ∷ []) where
  links_same : preimages_meaning r cs ++ preimage_meaning r x ∷ [] ≡ preimages_meaning r cs'
  links_same = sym (map-append (preimage_meaning r) cs (x ∷ [])) ∙ ap (preimages_meaning r) (sym grown)

  module _ (g : GraphValue) (m : MatrixValue) (ws : List (List PolyValue)) (rows : m.rows ≡ length g.matrix.columns) (columns : m.columns ≡ ws) (p : runs.Outside) where
    pub stable_value : ◌≡◌ {A = TurnOf r} (last (plans.never_onto first (preimages_meaning r cs ++ preimage_meaning r x ∷ []) (record { rows = width r (graph_meaning r g); columns = columns_meaning r ws }) p))
        (last (plans.never_onto first (preimages_meaning r cs') (matrix_meaning r m) p))
    stable_value = λ t. last (plans.never_onto first (links_same t) (solved r g m ws rows columns t) p)

    pub reached_value : ◌≡◌ {A = TurnOf r} (last (plans.onto_at first (preimages_meaning r cs ++ preimage_meaning r x ∷ []) (record { rows = width r (graph_meaning r g); columns = columns_meaning r ws }) (Some p)))
        (last (plans.onto_at first (preimages_meaning r cs') (matrix_meaning r m) (Some p)))
    reached_value = λ t. last (plans.onto_at first (links_same t) (solved r g m ws rows columns t) (Some p))

  pub again_value : (k : GraphValue) (o : runs.Outside) → ◌≡◌ {A = TurnOf r} (again (record { links = preimages_meaning r cs ++ preimage_meaning r x ∷ []; graph = graph_meaning r x.generators.graph; proper = o }))
      (again (record { links = preimages_meaning r cs'; graph = graph_meaning r (newest k cs'); proper = o }))
  again_value k o = λ t. again (record {
    links = links_same t;
    graph = ap (graph_meaning r) (sym (newest_more k cs x) ∙ ap (newest k) (sym grown)) t;
    proper = o;
  })

-- ---- a link
module _ (r : Ring) (u : MatrixOf r) (first : Graph r) (C : plans.Joins r) where
  abbrev tested : Preimage r → Work (TurnOf r)
  tested X = whole_run r X.graph >>= join_next r first C X

  abbrev after_power : MatrixOf r → Work (TurnOf r)
  after_power L = preimage_run r u L >>= tested

  abbrev power : Work (MatrixOf r)
  power = twisted_matrix r.prime r.vars 1 C.graph.matrix

  next_spends : (X : Preimage r) (y : runs.Inside r) → Spends (join_next r first C X y)
  next_spends X (all_inside ws) = λ units. omega arith
  next_spends X (first_outside o) = settle_spends r first C X o

  tested_spends : (X : Preimage r) → Spends (tested X)
  tested_spends X = then_spends (whole_run r X.graph) (join_next r first C X) (whole_spends r X.graph) (next_spends X)

  after_power_spends : (L : MatrixOf r) → Spends (after_power L)
  after_power_spends L = then_spends (preimage_run r u L) tested (preimage_spends r u L) tested_spends

  pub link_spends : Spends (link_work r u first C)
  link_spends = then_spends power after_power (twist_spends r 1 C.graph.matrix) after_power_spends

  module _ (old : ℕ) where
    pub power_stops : (z : Stop) → Follows {X = MatrixValue} (matrix_meaning r) (Err z) old old (power old) → Halts old old (link_work r u first C old) (halt_of z)
    power_stops z h = row_stops power after_power old old (λ (m : MatrixValue). matrix_meaning r m) (λ (t : TurnOf r). t) halt_of z after_power_spends h

    module _ (L : MatrixOf r) (formed : power old ≡ record { end = Ok L; left = old }) where
      from_power : {Y : Type 0} (view : Y → TurnOf r) (answer : Result Y Stop) (new : ℕ) → Follows view answer old new (after_power L old) → Follows view answer old new (link_work r u first C old)
      from_power view answer new h = row_goes power after_power old new L old formed (twist_spends r 1 C.graph.matrix) view halt_of answer h

      pub preimage_stops : (mid : ℕ) (z : Stop) → Follows {X = PreimageValue} (preimage_meaning r) (Err z) old mid (preimage_run r u L old) → Halts old mid (link_work r u first C old) (halt_of z)
      preimage_stops mid z h = from_power (λ (t : TurnOf r). t) (Err z) mid (row_stops (preimage_run r u L) tested old mid (preimage_meaning r) (λ (t : TurnOf r). t) halt_of z tested_spends h)

      module _ (mid : ℕ) (x : PreimageValue) (goes : Follows (preimage_meaning r) (Ok x) old mid (preimage_run r u L old)) (new : ℕ) where
        abbrev X : Preimage r
        X = preimage_meaning r x

        on : {Y : Type 0} (view : Y → TurnOf r) (answer : Result Y Stop) → Follows view answer mid new (tested X mid) → Follows view answer old new (link_work r u first C old)
        on view answer h = from_power view answer new (row_goes (preimage_run r u L) tested old new X mid goes (preimage_spends r u L) view halt_of answer h)

        pub test_stops : (z : Stop) → Follows {X = Inside} (inside_value r) (Err z) mid new (whole_run r X.graph mid) → Halts old new (link_work r u first C old) (halt_of z)
        test_stops z h = on (λ (t : TurnOf r). t) (Err z) (row_stops (whole_run r X.graph) (join_next r first C X) mid new (inside_value r) (λ (t : TurnOf r). t) halt_of z (next_spends X) h)

        pub test_goes : (y : Inside) (after : ℕ) → Follows (inside_value r) (Ok y) mid after (whole_run r X.graph mid) → {Y : Type 0} (view : Y → TurnOf r) (answer : Result Y Stop)
            → Follows view answer after new (join_next r first C X (inside_value r y) after) → Follows view answer old new (link_work r u first C old)
        test_goes y after h view answer k = on view answer (row_goes (whole_run r X.graph) (join_next r first C X) mid new (inside_value r y) after h (whole_spends r X.graph) view halt_of answer k)

        pub spent : (after : ℕ) (y : runs.Inside r) → whole_run r X.graph mid ≡ record { end = Ok y; left = after } → after ≤ old
        spent after y h =
            let a = left_of (preimage_run r u L) old mid X (preimage_spends r u L) goes in
            let b = left_of (whole_run r X.graph) mid after y (whole_spends r X.graph) h in
            omega (arith, a, b)

-- the twist, for another spelling of the matrix
pub power_told : (r : Ring) (m : MatrixValue) (b g : GraphValue) → m ≡ b.matrix → b ≡ g → (result : Result MatrixValue Stop) (old : ℕ) → Follows (matrix_meaning r) result old old (twisted_matrix r.prime r.vars 1 (matrix_meaning r m) old)
    → Follows (matrix_meaning r) result old old (twisted_matrix r.prime r.vars 1 (graph_meaning r g).matrix old)
power_told r m b g same is result old h =
    subst (λ (a : MatrixValue). Follows (matrix_meaning r) result old old (twisted_matrix r.prime r.vars 1 (matrix_meaning r a) old)) (same ∙ ap (λ (x : GraphValue). x.matrix) is) h

-- units that were spent before a turn that goes on
pub goes_on_earlier : (k : GraphValue) (old mid new : ℕ) (a : Result JoinTurn Stop) → mid ≤ old → IfOk a (GoesOn k mid new) → IfOk a (GoesOn k old new)
goes_on_earlier k old mid new (Ok (Last x)) less h = h
goes_on_earlier k old mid new (Ok (Again c)) less h = (let l = h.0 in omega (arith, l, less), h.1)
goes_on_earlier k old mid new (Err e) less h = tt

-- a last turn spends what it spends
pub goes_on_last : (k : GraphValue) (old new : ℕ) (a : Result JoinTurn Stop) → IfOk a (λ t. (old new : ℕ) → GoesOn k old new t) → IfOk a (GoesOn k old new)
goes_on_last k old new (Ok t) h = h old new
goes_on_last k old new (Err e) h = tt

-- the solutions are columns of the graph's ring
pub reached_columns : (g h : GraphValue) (ring : Ring) (y : Inside) (ws : Vec Column Global) → g ≡ h → h.matrix.ring ≡ ring → y ≡ All ws → HasColumns g.matrix.ring (length g.matrix.columns) y → AreColumns ring (length h.matrix.columns) ws.items
reached_columns g h ring y ws same over is a =
    subst (λ (s : Ring). AreColumns s (length h.matrix.columns) ws.items) over
    (subst (λ (x : GraphValue). AreColumns x.matrix.ring (length x.matrix.columns) ws.items) same (subst (HasColumns g.matrix.ring (length g.matrix.columns)) is a).0)

-- a link that is everything
pub reached_follows : (r : Ring) (g : GraphValue) (links : List (Preimage r)) (X : Preimage r) (ws : List (VectorOf r)) (p : runs.Outside) (result : Result JoinTurn Stop) (units : ℕ) (first : Graph r) (C : plans.Joins r)
    → IfOk result (λ t. turn_value r g t ≡ last (plans.onto_at first (links ++ X ∷ []) (record { rows = width r X.graph; columns = ws }) (Some p)))
    → IfErr result (λ e. e ≡ stops.Memory) → Follows (turn_value r g) result units units (ready (last (plans.onto_at first (links ++ X ∷ []) (record { rows = width r X.graph; columns = ws }) (Some p))) units)
reached_follows r g links X ws p result units first C value memory =
    given (turn_value r g) result units _ (last (plans.onto_at first (links ++ X ∷ []) (record { rows = width r X.graph; columns = ws }) (Some p))) refl value memory
