-- The plan of `map`, by its parts.
use Rattle.std.proofs.Common.{ℕ, ◌≤◌, ◌≡◌, Option, Some, None, List, ◌∷◌, take, Result, Ok, Err, sym, ap, ◌∙◌, subst, arith}
use Rattle.fm_algebra.specs.PolynomialMatrices.{matrix_unit}
use Rattle.fm_graphs.specs.Graphs.{MatrixOf, Inside, inside_run}
use Rattle.fm_graphs.specs.Trims.{Preimage}
use Rattle.fm_graphs.proofs.Sizes.{inside_spends}
use Rattle.fm_ext.proofs.IdentityGraphs.{identity_spends}
use Rattle.fm_induced.proofs.ContainedRuns.{work_spends}
use Rattle.fm_induced.proofs.MapRuns.{fibre_spends, phi_spends}
use Rattle.fm_induced.proofs.OntoRuns.{onto_spends}
use Rattle.fm_limit.specs.Facts.{ColumnsInImage}
use Rattle.fm_limit.specs.ResolvedIdeal.{matrix_at, row}
use Rattle.fm_plan.specs.Following.{FollowsPlan, unanswered_by}
use Rattle.fm_plan.specs.Queries as plans
use Rattle.fm_plan.specs.Queries.{BaseOf, Found, Onto, found_map, ask_map, plan, base_plan, stable_graph, compared, contained_work, fibre_work, mapped, onto_plan, over_identity, phi_work, unless}
use Rattle.fm_plan.specs.Results.{Ideal, differentials_of, graphs_of}
use Rattle.fm_plan.specs.Tasks as told
use Rattle.fm_plan.specs.Tasks.{Plan, not_contained, task}
use Rattle.fm_plan.proofs.Identities.{contained_is}
use Rattle.fm_plan.proofs.Tasks.{task_ends, unless_ends}
use Rattle.fm_poly.specs.declared.ring.Ring.{Ring}
use Rattle.fm_run.specs.Runs.{Ending, Halts, Spends, ready, ◌>>=◌}
use Rattle.fm_run.specs.declared.task.Name.TheVariants as names
use Rattle.fm_run.specs.declared.task.Side.TheVariants.{Alone, Source, Target}
use Rattle.fm_run.specs.declared.task.Stopped.{Stopped}
use Rattle.fm_run.proofs.Calls.{halts_row, row_goes}
use Rattle.fm_run.proofs.Ends.{bound}
use Rattle.fm_run.proofs.Spending.{then_spends}
use Rattle.fm_mat.specs.Matrices.{MatrixValue, matrix_meaning}
use Rattle.fm_syz.specs.Insides.{inside_value}
use Rattle.fm_lift.specs.Lifts.{matrices_meaning}
use Rattle.fm_induced.specs.Fibres.{fibre_value}
use Rattle.fm_induced.specs.Joins.{onto_value}
use Rattle.fm_queries.specs.Bases.{BaseValue, base_meaning}
use Rattle.fm_queries.specs.Founds.{FollowsQuery, ended_by}
use Rattle.fm_queries.specs.declared.comparing.Compared.{Compared}
use Rattle.fm_queries.proofs.MapTold.{Compares}
use Rattle.fm_queries.specs.Maps.{contained_test}
use Rattle.fm_queries.specs.declared.unanswered.Unanswered.{Unanswered}
use Rattle.fm_queries.specs.declared.unanswered.Unanswered.TheVariants as ends
use Rattle.fm_queries.proofs.Spending.{plan_spends}

-- ---- comparing
module _ (r : Ring) (b c : BaseOf r) (phi : MatrixOf r) (answer : Inside r → Preimage r × Inside r → Onto r → Found r) where
  abbrev nulling : Plan (Inside r)
  nulling = task Alone names.Null 0 (inside_run r phi (stable_graph r c))

  abbrev fibring : Plan (Preimage r × Inside r)
  fibring = task Alone names.One 0 (fibre_work r phi (stable_graph r c).matrix (stable_graph r b))

  abbrev covering : Plan (Onto r)
  covering = onto_plan r c.ext.relations.found phi c.ext.u

  abbrev after_one : Inside r → Preimage r × Inside r → Plan (Found r)
  after_one null one = covering >>= λ s. ready (answer null one s)

  abbrev after_null : Inside r → Plan (Found r)
  after_null null = fibring >>= after_one null

  after_one_spends : (null : Inside r) (one : Preimage r × Inside r) → Spends (after_one null one)
  after_one_spends null one = then_spends covering (λ s. ready (answer null one s)) (onto_spends r c.ext.relations.found phi c.ext.u) (λ s units. omega arith)

  after_null_spends : (null : Inside r) → Spends (after_null null)
  after_null_spends null = then_spends fibring (after_one null) (fibre_spends r phi (stable_graph r c).matrix (stable_graph r b)) (after_one_spends null)

  pub compared_spends : Spends (compared r b c phi answer)
  unfolding compared
  compared_spends = then_spends nulling after_null (inside_spends r phi (stable_graph r c)) after_null_spends

  pub null_stops : (old new : ℕ) (s : Stopped) → Halts old new (nulling old) (unanswered_by s) → Halts old new (compared r b c phi answer old) (unanswered_by s)
  unfolding compared
  null_stops old new s h = halts_row nulling after_null old new after_null_spends (unanswered_by s) h

  module _ {X : Type 0} (view : X → Found r) (old one : ℕ) (null : Inside r) (nulls : nulling old ≡ record { end = Ok null; left = one }) where
    from_null : (result : Result X Stopped) (new : ℕ) → FollowsPlan view result one new (after_null null one) → FollowsPlan view result old new (compared r b c phi answer old)
    unfolding compared
    from_null result new h = row_goes nulling after_null old new null one nulls (inside_spends r phi (stable_graph r c)) view unanswered_by result h

    pub one_stops : (new : ℕ) (s : Stopped) → Halts one new (fibring one) (unanswered_by s) → FollowsPlan view (Err s) old new (compared r b c phi answer old)
    one_stops new s h = from_null (Err s) new (halts_row fibring (after_one null) one new (after_one_spends null) (unanswered_by s) h)

    module _ (two : ℕ) (fibre : Preimage r × Inside r) (fibres : fibring one ≡ record { end = Ok fibre; left = two }) (new : ℕ) where
      from_one : (result : Result X Stopped) → FollowsPlan view result two new (after_one null fibre two) → FollowsPlan view result old new (compared r b c phi answer old)
      from_one result h = from_null result new (row_goes fibring (after_one null) one new fibre two fibres (fibre_spends r phi (stable_graph r c).matrix (stable_graph r b)) view unanswered_by result h)

      pub onto_stops : (s : Stopped) → Halts two new (covering two) (unanswered_by s) → FollowsPlan view (Err s) old new (compared r b c phi answer old)
      onto_stops s h = from_one (Err s) (halts_row covering (λ s. ready (answer null fibre s)) two new (λ s units. omega arith) (unanswered_by s) h)

      pub onto_ends : (s : Onto r) → covering two ≡ record { end = Ok s; left = new } → (x : X) → view x ≡ answer null fibre s → FollowsPlan view (Ok x) old new (compared r b c phi answer old)
      onto_ends s h x same = from_one (Ok x) (row_goes covering (λ s. ready (answer null fibre s)) two new s new h (onto_spends r c.ext.relations.found phi c.ext.u) view unanswered_by (Ok x)
          (ap (λ y. record { end = Ok y; left = new }) (sym same)))

-- ---- the test
module _ (r : Ring) (fs gs : Ideal r) where
  unless_spends : (o : Option ℕ) → Spends (unless r not_contained o)
  unless_spends None units = omega arith
  unless_spends (Some k) units = omega arith

  pub test_spends : Spends (contained_test r fs gs)
  test_spends = then_spends (task Alone names.Contained 0 (contained_work r fs gs)) (unless r not_contained) (work_spends r fs gs) unless_spends

  -- the test stops, or finds a number, or none
  pub contained_stops : (old new : ℕ) (s : Stopped) → Halts old new (task Alone names.Contained 0 (contained_work r fs gs) old) (unanswered_by s) → Halts old new (contained_test r fs gs old) (unanswered_by s)
  contained_stops old new s h = halts_row (task Alone names.Contained 0 (contained_work r fs gs)) (unless r not_contained) old new unless_spends (unanswered_by s) h

  pub contained_goes : (old new : ℕ) (o : Option ℕ) → task Alone names.Contained 0 (contained_work r fs gs) old ≡ record { end = Ok o; left = new } → {X : Type 0} (view : X → Unit {0}) (answer : Result X Unanswered)
      → FollowsQuery view answer new new (unless r not_contained o new) → FollowsQuery view answer old new (contained_test r fs gs old)
  contained_goes old new o h view answer k = row_goes (task Alone names.Contained 0 (contained_work r fs gs)) (unless r not_contained) old new o new h (work_spends r fs gs) view ended_by answer k

  -- what passed the test is contained
  pub contained_passes : (units left : ℕ) (u : Unit {0}) → contained_test r fs gs units ≡ record { end = Ok u; left = left } → ColumnsInImage r.prime r.vars (row r.prime r.vars fs) (row r.prime r.vars gs)
  contained_passes units left u ends =
      let work = contained_work r fs gs in
      let a = bound (task Alone names.Contained 0 work) (unless r not_contained) units left u ends in
      let none : a.value ≡ None = unless_ends r not_contained a.value a.between left u a.second in
      contained_is r fs gs units a.between (subst (λ o. work units ≡ record { end = Ok o; left = a.between }) none (task_ends Alone names.Contained 0 work units a.between a.value a.first))

-- ---- the tasks in a row
module _ (r : Ring) (i : ℕ) (fs gs : Ideal r) where
  abbrev unit : MatrixOf r
  unit = matrix_unit r.prime r.vars 1

  abbrev found : BaseOf r → BaseOf r → List (MatrixOf r) → MatrixOf r → Inside r → Preimage r × Inside r → Onto r → Found r
  found b c ls phi null one s = found_map i fs gs b c (unit ∷ ls) phi null one.0 one.1 s

  abbrev lifting : BaseOf r → BaseOf r → Plan (List (MatrixOf r))
  lifting b c = over_identity r 1 unit (take i (differentials_of r c.ext.resolution)) (take i (graphs_of r b.ext.resolution))

  abbrev inducing : BaseOf r → BaseOf r → List (MatrixOf r) → Plan (MatrixOf r)
  inducing b c ls = task Alone names.Phi 0 (phi_work r (matrix_at r.prime r.vars (unit ∷ ls) i) b.ext.cocycles.found c.ext.cocycles.graph)

  abbrev comparing : BaseOf r → BaseOf r → List (MatrixOf r) → MatrixOf r → Plan (Found r)
  comparing b c ls phi = compared r b c phi (found b c ls phi)

  abbrev after_lift : BaseOf r → BaseOf r → List (MatrixOf r) → Plan (Found r)
  after_lift b c ls = inducing b c ls >>= comparing b c ls

  abbrev after_source : BaseOf r → Plan (Found r)
  after_source b = base_plan r Target i gs >>= mapped r i fs gs b

  abbrev after_test : Unit {0} → Plan (Found r)
  after_test u = base_plan r Source i fs >>= after_source

  after_lift_spends : (b c : BaseOf r) (ls : List (MatrixOf r)) → Spends (after_lift b c ls)
  after_lift_spends b c ls = then_spends (inducing b c ls) (comparing b c ls) (phi_spends r (matrix_at r.prime r.vars (unit ∷ ls) i) b.ext.cocycles.found c.ext.cocycles.graph)
      (λ phi. compared_spends r b c phi (found b c ls phi))

  lifting_spends : (b c : BaseOf r) → Spends (lifting b c)
  lifting_spends b c = identity_spends r 1 unit (take i (differentials_of r c.ext.resolution)) (take i (graphs_of r b.ext.resolution))

  mapped_spends : (b c : BaseOf r) → Spends (mapped r i fs gs b c)
  unfolding mapped
  mapped_spends b c = then_spends (lifting b c) (after_lift b c) (lifting_spends b c) (after_lift_spends b c)

  after_source_spends : (b : BaseOf r) → Spends (after_source b)
  after_source_spends b = then_spends (base_plan r Target i gs) (mapped r i fs gs b) (plan_spends r Target i gs) (mapped_spends b)

  after_test_spends : (u : Unit {0}) → Spends (after_test u)
  after_test_spends u = then_spends (base_plan r Source i fs) after_source (plan_spends r Source i fs) after_source_spends

  module _ {X : Type 0} (view : X → Found r) (old : ℕ) where
    abbrev Asks : Result X Unanswered → ℕ → Type 0
    Asks answer new = FollowsQuery view answer old new (plan r (ask_map i fs gs) old)

    pub test_stops : (new : ℕ) (s : Unanswered) → Halts old new (contained_test r fs gs old) (ended_by s) → Asks (Err s) new
    unfolding plan
    test_stops new s h = halts_row (contained_test r fs gs) after_test old new after_test_spends (ended_by s) h

    module _ (one : ℕ) (passes : contained_test r fs gs old ≡ record { end = Ok tt; left = one }) where
      from_test : (answer : Result X Unanswered) (new : ℕ) → FollowsQuery view answer one new (after_test tt one) → Asks answer new
      unfolding plan
      from_test answer new h = row_goes (contained_test r fs gs) after_test old new tt one passes (test_spends r fs gs) view ended_by answer h

      pub source_stops : (new : ℕ) (s : Stopped) → Halts one new (base_plan r Source i fs one) (unanswered_by s) → Asks (Err (ends.Stopped s)) new
      source_stops new s h = from_test (Err (ends.Stopped s)) new (halts_row (base_plan r Source i fs) after_source one new after_source_spends (unanswered_by s) h)

      module _ (two : ℕ) (b : BaseOf r) (source : base_plan r Source i fs one ≡ record { end = Ok b; left = two }) where
        from_source : (answer : Result X Unanswered) (new : ℕ) → FollowsQuery view answer two new (after_source b two) → Asks answer new
        from_source answer new h = from_test answer new (row_goes (base_plan r Source i fs) after_source one new b two source (plan_spends r Source i fs) view ended_by answer h)

        pub target_stops : (new : ℕ) (s : Stopped) → Halts two new (base_plan r Target i gs two) (unanswered_by s) → Asks (Err (ends.Stopped s)) new
        target_stops new s h = from_source (Err (ends.Stopped s)) new (halts_row (base_plan r Target i gs) (mapped r i fs gs b) two new (mapped_spends b) (unanswered_by s) h)

        module _ (three : ℕ) (c : BaseOf r) (target : base_plan r Target i gs two ≡ record { end = Ok c; left = three }) (new : ℕ) where
          from_target : (answer : Result X Unanswered) → FollowsQuery view answer three new (mapped r i fs gs b c three) → Asks answer new
          from_target answer h = from_source answer new (row_goes (base_plan r Target i gs) (mapped r i fs gs b) two new c three target (plan_spends r Target i gs) view ended_by answer h)

          pub between_stops : (s : Stopped) → Halts three new (mapped r i fs gs b c three) (unanswered_by s) → Asks (Err (ends.Stopped s)) new
          between_stops s h = from_target (Err (ends.Stopped s)) h

          pub between_ends : (x : X) → mapped r i fs gs b c three ≡ record { end = Ok (view x); left = new } → Asks (Ok x) new
          between_ends x h = from_target (Ok x) h

  -- ---- the tasks from `lambda 1` on
  module _ {X : Type 0} (view : X → Found r) (b c : BaseOf r) (old : ℕ) where
    pub lift_stops : (new : ℕ) (s : Stopped) → Halts old new (lifting b c old) (unanswered_by s) → FollowsPlan view (Err s) old new (mapped r i fs gs b c old)
    unfolding mapped
    lift_stops new s h = halts_row (lifting b c) (after_lift b c) old new (after_lift_spends b c) (unanswered_by s) h

    module _ (four : ℕ) (ls : List (MatrixOf r)) (lifts : lifting b c old ≡ record { end = Ok ls; left = four }) where
      from_lift : (answer : Result X Stopped) (new : ℕ) → FollowsPlan view answer four new (after_lift b c ls four) → FollowsPlan view answer old new (mapped r i fs gs b c old)
      unfolding mapped
      from_lift answer new h = row_goes (lifting b c) (after_lift b c) old new ls four lifts (lifting_spends b c) view unanswered_by answer h

      pub phi_stops : (new : ℕ) (s : Stopped) → Halts four new (inducing b c ls four) (unanswered_by s) → FollowsPlan view (Err s) old new (mapped r i fs gs b c old)
      phi_stops new s h = from_lift (Err s) new (halts_row (inducing b c ls) (comparing b c ls) four new (λ phi. compared_spends r b c phi (found b c ls phi)) (unanswered_by s) h)

      module _ (five : ℕ) (phi : MatrixOf r) (induces : inducing b c ls four ≡ record { end = Ok phi; left = five }) where
        pub from_phi : (answer : Result X Stopped) (new : ℕ) → FollowsPlan view answer five new (comparing b c ls phi five) → FollowsPlan view answer old new (mapped r i fs gs b c old)
        from_phi answer new h = from_lift answer new
            (row_goes (inducing b c ls) (comparing b c ls) four new phi five induces (phi_spends r (matrix_at r.prime r.vars (unit ∷ ls) i) b.ext.cocycles.found c.ext.cocycles.graph) view unanswered_by answer h)

  -- ---- the last tasks, by the program's values
  module _ {X : Type 0} (view : X → Found r) (b c : BaseValue) (old four : ℕ) (ls : List (MatrixOf r)) (lifts : lifting (base_meaning r b) (base_meaning r c) old ≡ record { end = Ok ls; left = four }) (five : ℕ) (phi : MatrixValue)
      (induces : inducing (base_meaning r b) (base_meaning r c) ls four ≡ record { end = Ok (matrix_meaning r phi); left = five }) (new : ℕ) where
    pub compare_stops : (s : Stopped) → Compares r b c phi (Err s) five new → FollowsPlan view (Err s) old new (mapped r i fs gs (base_meaning r b) (base_meaning r c) old)
    compare_stops s h = from_phi view (base_meaning r b) (base_meaning r c) old four ls lifts five (matrix_meaning r phi) induces (Err s) new (h (found (base_meaning r b) (base_meaning r c) ls (matrix_meaning r phi)))

    pub compare_ends : (x : Compared) → Compares r b c phi (Ok x) five new → (ms : List MatrixValue) → matrices_meaning r ms ≡ unit ∷ ls → (m : X)
        → view m ≡ found_map i fs gs (base_meaning r b) (base_meaning r c) (matrices_meaning r ms) (matrix_meaning r phi) (inside_value r x.null) (fibre_value r x.fibre).0 (fibre_value r x.fibre).1 (onto_value r x.onto)
        → FollowsPlan view (Ok m) old new (mapped r i fs gs (base_meaning r b) (base_meaning r c) old)
    compare_ends x h ms first m same = from_phi view (base_meaning r b) (base_meaning r c) old four ls lifts five (matrix_meaning r phi) induces (Ok m) new
        (h (found (base_meaning r b) (base_meaning r c) ls (matrix_meaning r phi)) ∙ ap (λ y. record { end = Ok y; left = new })
        (ap (λ l. found_map i fs gs (base_meaning r b) (base_meaning r c) l (matrix_meaning r phi) (inside_value r x.null) (fibre_value r x.fibre).0 (fibre_value r x.fibre).1 (onto_value r x.onto)) (sym first) ∙ sym same))
