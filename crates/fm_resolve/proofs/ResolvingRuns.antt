-- Resolutions, task by task.
use Rattle.std.proofs.Common.{ℕ, zero, suc, ◌-◌, ◌≡◌, List, ◌∷◌, ◌+◌, ◌≤◌, length, option_map, IfOk, Result, Ok, Err, sym, ap, ◌∙◌, subst, arith}
use Rattle.fm_limit.specs.ResolvedIdeal.{row}
use Rattle.fm_limit.proofs.MatrixWords.{shape_rows}
use Rattle.fm_poly.specs.declared.ring.Ring.{Ring}
use Rattle.fm_run.specs.declared.stop.Stop.{Stop}
use Rattle.fm_run.specs.declared.task.Stopped.{Stopped}
use Rattle.fm_run.specs.declared.task.Side.{Side}
use Rattle.fm_run.specs.declared.task.Name.TheVariants.{Resolve}
use Rattle.fm_run.specs.Runs.{Spends, Follows, ready, ◌>>=◌}
use Rattle.fm_run.proofs.Calls.{row_goes, row_stops}
use Rattle.fm_run.proofs.Spending.{then_spends}
use Rattle.fm_mat.proofs.Steps.{map_length}
use Rattle.fm_mat.specs.Matrices.{column_meaning}
use Rattle.fm_graphs.specs.Graphs.{Graph, graph_run, width}
use Rattle.fm_graphs.specs.Trims.{Preimage, generating}
use Rattle.fm_graphs.proofs.Spending.{graph_spends, generating_spends}
use Rattle.fm_run.specs.declared.task.Task.{Task}
use Rattle.fm_run.specs.declared.stop.Stop.TheVariants as stops
use Rattle.fm_run.specs.Runs.{Ending, Halts, halt_of}
use Rattle.fm_run.specs.Tasks.{stopped_in}
use Rattle.fm_plan.specs.Tasks.{Unanswered, Plan, stopped, task}
use Rattle.fm_plan.proofs.Following.{told_of}
use Rattle.fm_graphs.proofs.Preimages.{generating_is, kernel_from}
use Rattle.fm_plan.proofs.Resolving.{resolution_is}
use Rattle.fm_limit.specs.ResolvedIdeal.{IsResolutionOf}
use Rattle.fm_plan.specs.Results as plans
use Rattle.fm_plan.specs.Base.{resolving, resolution_plan}
use Rattle.fm_plan.specs.Following.{FollowsPlan, unanswered_by}
use Rattle.fm_syz.specs.GraphValues.{GraphValue, IsGraph, graph_meaning}
use Rattle.fm_syz.specs.GeneratorValues.{GeneratorsValue, AreGenerators, generators_meaning}
use Rattle.fm_resolve.specs.Resolutions.{ResolutionValue, AreKernelGenerators, generators_from, resolution_value, resolve_step}

module _ (r : Ring) (side : Side) where
  abbrev step : ℕ → Graph r → Plan (Preimage r)
  step j g = resolve_step r side j g

  abbrev pub on : ℕ → ℕ → Preimage r → Plan (List (Preimage r))
  on count j x = resolving r side count (suc j) x.graph >>= λ later. ready (x ∷ later)

  pub resolving_spends : (count j : ℕ) (g : Graph r) → Spends (resolving r side count j g)
  resolving_spends zero j g = λ units. omega arith
  resolving_spends (suc count) j g = then_spends (step j g) (on count j) (generating_spends r (width r g) 0 g) (λ x. then_spends (resolving r side count (suc j) x.graph) (λ later. ready (x ∷ later)) (resolving_spends count (suc j) x.graph) (λ later units. omega arith))

  on_spends : (count j : ℕ) (x : Preimage r) → Spends (on count j x)
  on_spends count j x = then_spends (resolving r side count (suc j) x.graph) (λ later. ready (x ∷ later)) (resolving_spends count (suc j) x.graph) (λ later units. omega arith)

  module _ (count j : ℕ) (g : GraphValue) (old : ℕ) where
    pub step_stops : {Y : Type 0} (view : Y → List (Preimage r)) (new : ℕ) (z : Stopped) → FollowsPlan {X = GeneratorsValue} (generators_meaning r g) (Err z) old new (step j (graph_meaning r g) old)
        → FollowsPlan view (Err z) old new (resolving r side (suc count) j (graph_meaning r g) old)
    step_stops view new z h = row_stops (step j (graph_meaning r g)) (on count j) old new (generators_meaning r g) view unanswered_by z (on_spends count j) h

    module _ (mid new : ℕ) (x : GeneratorsValue) (goes : FollowsPlan (generators_meaning r g) (Ok x) old mid (step j (graph_meaning r g) old)) where
      on_goes : {Y : Type 0} (view : Y → List (Preimage r)) (answer : Result Y Stopped) → FollowsPlan view answer mid new (on count j (generators_meaning r g x) mid) → FollowsPlan view answer old new (resolving r side (suc count) j (graph_meaning r g) old)
      on_goes view answer h = row_goes (step j (graph_meaning r g)) (on count j) old new (generators_meaning r g x) mid goes (generating_spends r (width r (graph_meaning r g)) 0 (graph_meaning r g)) view unanswered_by answer h

      pub later_stops : {Y W : Type 0} (view : Y → List (Preimage r)) (view' : W → List (Preimage r)) (z : Stopped) → FollowsPlan view' (Err z) mid new (resolving r side count (suc j) (graph_meaning r x.graph) mid)
          → FollowsPlan view (Err z) old new (resolving r side (suc count) j (graph_meaning r g) old)
      later_stops view view' z h = on_goes view (Err z) (row_stops (resolving r side count (suc j) (graph_meaning r x.graph)) (λ later. ready (generators_meaning r g x ∷ later)) mid new view' view unanswered_by z (λ later units. omega arith) h)

      pub later_goes : {Y : Type 0} (view : Y → List (Preimage r)) (answer : Result Y Stopped) (later : List (Preimage r)) → resolving r side count (suc j) (graph_meaning r x.graph) mid ≡ record { end = Ok later; left = new }
          → FollowsPlan view answer new new (record { end = Ok (generators_meaning r g x ∷ later); left = new }) → FollowsPlan view answer old new (resolving r side (suc count) j (graph_meaning r g) old)
      later_goes view answer later e h = on_goes view answer (row_goes (resolving r side count (suc j) (graph_meaning r x.graph)) (λ later. ready (generators_meaning r g x ∷ later)) mid new later new e (resolving_spends count (suc j) (graph_meaning r x.graph)) view unanswered_by answer h)

-- what holds of an answer holds once it is told of a task
pub still_ok : {X : Type 0} (P : X → Type 0) (task : Task) (r : Result X Stop) → IfOk r P → IfOk (stopped_in task r) P
still_ok P task (Ok x) h = h
still_ok P task (Err e) h = tt

-- want of memory in a task
pub wants : {A : Type 0} (s : Stopped) (units : ℕ) (d : Ending Unanswered A) → s.stop ≡ stops.Memory → d.left ≤ units → Halts units units d (unanswered_by s)
wants s units d memory less = subst (λ (x : Stop). Halts units units d (option_map (stopped s.task) (halt_of x))) (sym memory) (omega arith, less)

-- the generators of a kernel, as the task has them
pub step_told : (r : Ring) (side : Side) (j a : ℕ) (g : GraphValue) (t : Task) (result : Result GeneratorsValue Stop) (answer : Result GeneratorsValue Stopped) (old new : ℕ) → a ≡ length g.matrix.columns
    → t ≡ record { side = side; name = Resolve; number = j + 1 } → answer ≡ stopped_in t result → Follows (generators_meaning r g) result old new (generating r a (length g.matrix.columns - a) (graph_meaning r g) old)
    → FollowsPlan (generators_meaning r g) answer old new (resolve_step r side j (graph_meaning r g) old)
step_told r side j a g t result answer old new wide is told h =
    let G = graph_meaning r g in
    let number : j + 1 ≡ suc j = omega arith in
    let none : length g.matrix.columns - a ≡ 0 = omega (arith, wide) in
    let all : a ≡ width r G = wide ∙ sym (map_length (column_meaning r) g.matrix.columns) in
    told_of (generators_meaning r g) side Resolve (suc j) old new (generating r (width r G) 0 G) result answer
    (told ∙ ap (λ (t : Task). stopped_in t result) (is ∙ ap (λ n. record { side = side; name = Resolve; number = n }) number))
    (subst (λ n. Follows (generators_meaning r g) result old new (generating r n 0 G old)) all (subst (λ b. Follows (generators_meaning r g) result old new (generating r a b G old)) none h))

-- what the generators of a kernel are
pub step_exact : (a : ℕ) (g : GraphValue) (result : Result GeneratorsValue Stop) (old new : ℕ) → a ≡ length g.matrix.columns → IsGraph g
    → (let r = g.matrix.ring in Follows (generators_meaning r g) result old new (generating r a (length g.matrix.columns - a) (graph_meaning r g) old))
    → IfOk result (AreGenerators g) → IfOk result (λ x. x.graph.matrix.rows ≡ a) → IfOk result (AreKernelGenerators g)
step_exact a g (Err e) old new wide G h generate rows = tt
step_exact a g (Ok x) old new wide G h generate rows =
    let r = g.matrix.ring in
    let G' = graph_meaning r g in
    let none : length g.matrix.columns - a ≡ 0 = omega (arith, wide) in
    let all : a ≡ width r G' = wide ∙ sym (map_length (column_meaning r) g.matrix.columns) in
    let ends =
    (subst (λ n. Follows {X = GeneratorsValue} (generators_meaning r g) (Ok x) old new (generating r n 0 G' old)) all (subst (λ b. Follows {X = GeneratorsValue} (generators_meaning r g) (Ok x) old new (generating r a b G' old)) none h)) in
    record {
      generators = generate;
      rows = rows ∙ wide;
      below = shape_rows r.prime r.vars 0 _ _ (generating_is r (width r G') 0 G' G.completed (plain (width r G')) old new (generators_meaning r g x) ends).x_shape;
      exact = kernel_from r G' G.completed old new (generators_meaning r g x) ends;
    }
  where
    plain : (n : ℕ) → n ≡ n + 0
    plain n = omega arith

-- what was resolved from another spelling of the graph
pub later_told : {Y : Type 0} (items : Y → List GeneratorsValue) (r : Ring) (side : Side) (k j i : ℕ) (x y : GraphValue) (result : Result Y Stopped) (old new : ℕ) → y ≡ x → x.matrix.ring ≡ r → i ≡ suc j
    → (let s = y.matrix.ring in FollowsPlan (λ xs. generators_from s y (items xs)) result old new (resolving s side k i (graph_meaning s y) old))
    → FollowsPlan (λ xs. generators_from r x (items xs)) result old new (resolving r side k (suc j) (graph_meaning r x) old)
later_told items r side k j i x y result old new same ring index h =
    subst (λ n. FollowsPlan (λ xs. generators_from r x (items xs)) result old new (resolving r side k n (graph_meaning r x) old)) index
    (subst (λ (s : Ring). FollowsPlan (λ xs. generators_from s x (items xs)) result old new (resolving s side k i (graph_meaning s x) old)) ring
    (subst (λ (z : GraphValue). let s = z.matrix.ring in FollowsPlan (λ xs. generators_from s z (items xs)) result old new (resolving s side k i (graph_meaning s z) old)) same h))

-- ---- the resolution
module _ (r : Ring) (side : Side) (i : ℕ) (fs : plans.Ideal r) where
  abbrev first : Plan (Graph r)
  first = task side Resolve 1 (graph_run r (row r.prime r.vars fs))

  abbrev after_first : Graph r → Plan (plans.Resolution r)
  after_first g = resolving r side i 1 g >>= λ next. ready (record { first = g; next = next })

  after_spends : (g : Graph r) → Spends (after_first g)
  after_spends g = then_spends (resolving r side i 1 g) (λ next. ready (record { first = g; next = next })) (resolving_spends r side i 1 g) (λ next units. omega arith)

  pub first_stops : (old new : ℕ) (z : Stopped) → FollowsPlan {X = GraphValue} (λ g. graph_meaning r g) (Err z) old new (first old) → FollowsPlan {X = ResolutionValue} (resolution_value r) (Err z) old new (resolution_plan r side i fs old)
  unfolding resolution_plan
  first_stops old new z h = row_stops first after_first old new (λ (g : GraphValue). graph_meaning r g) (resolution_value r) unanswered_by z after_spends h

  module _ (old mid new : ℕ) (g : GraphValue) (goes : FollowsPlan (λ (g : GraphValue). graph_meaning r g) (Ok g) old mid (first old)) where
    after_goes : (answer : Result ResolutionValue Stopped) → FollowsPlan (resolution_value r) answer mid new (after_first (graph_meaning r g) mid) → FollowsPlan (resolution_value r) answer old new (resolution_plan r side i fs old)
    unfolding resolution_plan
    after_goes answer h = row_goes first after_first old new (graph_meaning r g) mid goes (graph_spends r (row r.prime r.vars fs)) (resolution_value r) unanswered_by answer h

    pub next_stops : {Y : Type 0} (view : Y → List (Preimage r)) (z : Stopped) → FollowsPlan view (Err z) mid new (resolving r side i 1 (graph_meaning r g) mid) → FollowsPlan {X = ResolutionValue} (resolution_value r) (Err z) old new (resolution_plan r side i fs old)
    next_stops view z h = after_goes (Err z) (row_stops (resolving r side i 1 (graph_meaning r g)) (λ next. ready (record { first = graph_meaning r g; next = next })) mid new view (resolution_value r) unanswered_by z (λ next units. omega arith) h)

    pub next_goes : (x : ResolutionValue) (next : List (Preimage r)) → resolving r side i 1 (graph_meaning r g) mid ≡ record { end = Ok next; left = new } → resolution_value r x ≡ record { first = graph_meaning r g; next = next }
        → FollowsPlan (resolution_value r) (Ok x) old new (resolution_plan r side i fs old)
    next_goes x next e same = after_goes (Ok x) (row_goes (resolving r side i 1 (graph_meaning r g)) (λ next. ready (record { first = graph_meaning r g; next = next })) mid new next new e (resolving_spends r side i 1 (graph_meaning r g)) (resolution_value r) unanswered_by (Ok x)
        (ap (λ y. record { end = Ok y; left = new }) (sym same)))

  pub resolves : (x : ResolutionValue) (old new : ℕ) → resolution_plan r side i fs old ≡ record { end = Ok (resolution_value r x); left = new } → IsResolutionOf r.prime r.vars fs i (plans.differentials_of r (resolution_value r x))
  resolves x old new e = (resolution_is r side i fs old new (resolution_value r x) e).resolution
