-- The tasks of Ext in a row, and what they present.
use Rattle.std.proofs.Common.{ℕ, ◌≤◌, ◌≡◌, List, ◌∷◌, length, take, IfOk, Result, Ok, Err, refl, sym, ap, ◌∙◌, subst, arith}
use Rattle.fm_algebra.specs.PolynomialMatrices.{HasShape, matrix_unit}
use Rattle.fm_limit.specs.ResolvedIdeal.{matrix_at, differential, rank, IsFrobeniusLiftOf}
use Rattle.fm_limit.proofs.MatrixWords.{shape_rows, shape_columns}
use Rattle.fm_poly.specs.declared.ring.Ring.{Ring}
use Rattle.fm_run.specs.declared.task.Side.{Side}
use Rattle.fm_run.specs.declared.task.Stopped.{Stopped}
use Rattle.fm_run.specs.declared.stop.Stop.{Stop}
use Rattle.fm_run.specs.declared.task.Task.{Task}
use Rattle.fm_run.specs.declared.task.Name.{Name}
use Rattle.fm_run.specs.Tasks.{stopped_in}
use Rattle.fm_plan.proofs.Following.{told_of}
use Rattle.fm_plan.proofs.Lifting.{lift_is}
use Rattle.fm_plan.proofs.Resolving.{Resolved}
use Rattle.fm_run.specs.declared.task.Name.TheVariants.{Cocycles, Relations, Morphism}
use Rattle.fm_run.specs.Runs.{Ending, Work, Follows, Spends, ready, ◌>>=◌}
use Rattle.fm_run.proofs.Calls.{row_goes, row_stops}
use Rattle.fm_run.proofs.Spending.{then_spends}
use Rattle.fm_run.proofs.Ends.{Ends}
use Rattle.fm_mat.specs.Matrices.{MatrixValue, column_meaning, matrix_meaning}
use Rattle.fm_mat.proofs.Steps.{map_length}
use Rattle.fm_graphs.specs.Graphs.{MatrixOf, Graph}
use Rattle.fm_graphs.specs.Trims.{Preimage, kernel_run, preimage_run}
use Rattle.fm_graphs.proofs.Spending.{preimage_spends}
use Rattle.fm_plan.specs.Tasks.{Unanswered, Plan, task}
use Rattle.fm_plan.specs.Base.{flip, lifting, morphism_work, ext_plan}
use Rattle.fm_plan.specs.Results as plans
use Rattle.fm_plan.specs.Following.{FollowsPlan, unanswered_by}
use Rattle.fm_plan.proofs.Exts.{ext_is}
use Rattle.fm_syz.specs.GeneratorValues.{PreimageValue, preimage_meaning}
use Rattle.fm_syz.proofs.GeneratorFacts.{run_spends}
use Rattle.fm_lift.specs.Lifts.{AreMatricesOver, after_the_first, matrices_meaning}
use Rattle.fm_lift.proofs.Chains.{chained_spends}
use Rattle.fm_lift.proofs.LiftChains.{lift_step, step_spends, lifting_chained}
use Rattle.fm_resolve.specs.Resolutions.{ResolutionValue, IsResolution, generators_of, resolution_value}
use Rattle.fm_resolve.proofs.Resolved.{resolved}
use Rattle.fm_ext.specs.Exts.{ExtValue, IsExt, differentials, cocycles_matrix, relations_matrix, ext_meaning, ring_of}
use Rattle.fm_ext.proofs.Morphisms.{morphism_spends}

pub kernel_spends : (r : Ring) (A : MatrixOf r) → Spends (kernel_run r A)
unfolding kernel_run
kernel_spends r A = run_spends r A (length A.columns) 0 0

pub lifting_spends : (r : Ring) (side : Side) (gs : List (Graph r)) → Spends (lifting r side 1 (matrix_unit r.prime r.vars 1) gs)
lifting_spends r side gs units =
    subst (λ (f : ℕ → Ending Unanswered (List (MatrixOf r))). (f units).left ≤ units) (sym (lifting_chained r side gs 1 (matrix_unit r.prime r.vars 1)))
    (chained_spends (lift_step r side) (step_spends r side) gs 1 (matrix_unit r.prime r.vars 1) units)

module _ (r : Ring) (side : Side) (i : ℕ) (x : plans.Resolution r) where
  abbrev unit : MatrixOf r
  unit = matrix_unit r.prime r.vars 1

  abbrev ds : List (MatrixOf r)
  ds = plans.differentials_of r x

  abbrev lifts : Plan (List (MatrixOf r))
  lifts = lifting r side 1 unit (take i (plans.graphs_of r x))

  abbrev kernels : Plan (Preimage r)
  kernels = task side Cocycles 0 (kernel_run r (flip r (matrix_at r.prime r.vars ds i)))

  abbrev preimages : Preimage r → Plan (Preimage r)
  preimages z = task side Relations 0 (preimage_run r z.found (flip r (differential r.prime r.vars ds i)))

  abbrev morphisms : List (MatrixOf r) → Preimage r → Plan (MatrixOf r)
  morphisms thetas z = task side Morphism 0 (morphism_work r (matrix_at r.prime r.vars (unit ∷ thetas) i) z.graph)

  abbrev made : List (MatrixOf r) → Preimage r → Preimage r → MatrixOf r → plans.Ext r
  made thetas z n u = record { resolution = x; lift = unit ∷ thetas; cocycles = z; relations = n; u = u }

  abbrev after_relations : List (MatrixOf r) → Preimage r → Preimage r → Plan (plans.Ext r)
  after_relations thetas z n = morphisms thetas z >>= λ u. ready (made thetas z n u)

  abbrev after_cocycles : List (MatrixOf r) → Preimage r → Plan (plans.Ext r)
  after_cocycles thetas z = preimages z >>= after_relations thetas z

  abbrev after_lifts : List (MatrixOf r) → Plan (plans.Ext r)
  after_lifts thetas = kernels >>= after_cocycles thetas

  relations_spend : (thetas : List (MatrixOf r)) (z n : Preimage r) → Spends (after_relations thetas z n)
  relations_spend thetas z n = then_spends (morphisms thetas z) (λ u. ready (made thetas z n u)) (morphism_spends r (matrix_at r.prime r.vars (unit ∷ thetas) i) z.graph) (λ u units. omega arith)

  cocycles_spend : (thetas : List (MatrixOf r)) (z : Preimage r) → Spends (after_cocycles thetas z)
  cocycles_spend thetas z = then_spends (preimages z) (after_relations thetas z) (preimage_spends r z.found (flip r (differential r.prime r.vars ds i))) (relations_spend thetas z)

  lifts_spend : (thetas : List (MatrixOf r)) → Spends (after_lifts thetas)
  lifts_spend thetas = then_spends kernels (after_cocycles thetas) (kernel_spends r (flip r (matrix_at r.prime r.vars ds i))) (cocycles_spend thetas)

  pub lifts_stop : {Y : Type 0} (view : Y → List (MatrixOf r)) (old new : ℕ) (s : Stopped) → FollowsPlan view (Err s) old new (lifts old) → FollowsPlan {X = ExtValue} (ext_meaning r) (Err s) old new (ext_plan r side i x old)
  unfolding ext_plan
  lifts_stop view old new s h = row_stops lifts after_lifts old new view (ext_meaning r) unanswered_by s lifts_spend h

  module _ (old one : ℕ) (thetas : List (MatrixOf r)) (lifted : lifts old ≡ record { end = Ok thetas; left = one }) where
    from_lifts : (answer : Result ExtValue Stopped) (new : ℕ) → FollowsPlan (ext_meaning r) answer one new (after_lifts thetas one) → FollowsPlan (ext_meaning r) answer old new (ext_plan r side i x old)
    unfolding ext_plan
    from_lifts answer new h = row_goes lifts after_lifts old new thetas one lifted (lifting_spends r side (take i (plans.graphs_of r x))) (ext_meaning r) unanswered_by answer h

    pub kernels_stop : (new : ℕ) (s : Stopped) → FollowsPlan {X = PreimageValue} (preimage_meaning r) (Err s) one new (kernels one) → FollowsPlan {X = ExtValue} (ext_meaning r) (Err s) old new (ext_plan r side i x old)
    kernels_stop new s h = from_lifts (Err s) new (row_stops kernels (after_cocycles thetas) one new (preimage_meaning r) (ext_meaning r) unanswered_by s (cocycles_spend thetas) h)

    module _ (two : ℕ) (z : PreimageValue) (cocycles : FollowsPlan (preimage_meaning r) (Ok z) one two (kernels one)) where
      abbrev Z : Preimage r
      Z = preimage_meaning r z

      from_kernels : (answer : Result ExtValue Stopped) (new : ℕ) → FollowsPlan (ext_meaning r) answer two new (after_cocycles thetas Z two) → FollowsPlan (ext_meaning r) answer old new (ext_plan r side i x old)
      from_kernels answer new h = from_lifts answer new (row_goes kernels (after_cocycles thetas) one new Z two cocycles (kernel_spends r (flip r (matrix_at r.prime r.vars ds i))) (ext_meaning r) unanswered_by answer h)

      pub preimages_stop : (new : ℕ) (s : Stopped) → FollowsPlan {X = PreimageValue} (preimage_meaning r) (Err s) two new (preimages Z two) → FollowsPlan {X = ExtValue} (ext_meaning r) (Err s) old new (ext_plan r side i x old)
      preimages_stop new s h = from_kernels (Err s) new (row_stops (preimages Z) (after_relations thetas Z) two new (preimage_meaning r) (ext_meaning r) unanswered_by s (relations_spend thetas Z) h)

      module _ (three : ℕ) (n : PreimageValue) (relations : FollowsPlan (preimage_meaning r) (Ok n) two three (preimages Z two)) where
        abbrev N : Preimage r
        N = preimage_meaning r n

        from_preimages : (answer : Result ExtValue Stopped) (new : ℕ) → FollowsPlan (ext_meaning r) answer three new (after_relations thetas Z N three) → FollowsPlan (ext_meaning r) answer old new (ext_plan r side i x old)
        from_preimages answer new h =
            from_kernels answer new (row_goes (preimages Z) (after_relations thetas Z) two new N three relations (preimage_spends r Z.found (flip r (differential r.prime r.vars ds i))) (ext_meaning r) unanswered_by answer h)

        pub morphisms_stop : (new : ℕ) (s : Stopped) → FollowsPlan {X = MatrixValue} (matrix_meaning r) (Err s) three new (morphisms thetas Z three) → FollowsPlan {X = ExtValue} (ext_meaning r) (Err s) old new (ext_plan r side i x old)
        morphisms_stop new s h = from_preimages (Err s) new (row_stops (morphisms thetas Z) (λ u. ready (made thetas Z N u)) three new (matrix_meaning r) (ext_meaning r) unanswered_by s (λ u units. omega arith) h)

        pub ext_ends : (new : ℕ) (u : MatrixValue) (y : ExtValue) → ext_meaning r y ≡ made thetas Z N (matrix_meaning r u) → FollowsPlan (matrix_meaning r) (Ok u) three new (morphisms thetas Z three)
            → FollowsPlan (ext_meaning r) (Ok y) old new (ext_plan r side i x old)
        ext_ends new u y same h = from_preimages (Ok y) new (row_goes (morphisms thetas Z) (λ u. ready (made thetas Z N u)) three new (matrix_meaning r u) new h
            (morphism_spends r (matrix_at r.prime r.vars (unit ∷ thetas) i) Z.graph) (ext_meaning r) unanswered_by (Ok y) (ap (λ e. record { end = Ok e; left = new }) (sym same)))

-- a task without a number
pub task_told : {A X : Type 0} (view : X → A) (side : Side) (name : Name) (old new : ℕ) (work : Work A) (t : Task) (result : Result X Stop) (answer : Result X Stopped) → answer ≡ stopped_in t result
    → t ≡ record { side = side; name = name; number = 0 } → Follows view result old new (work old) → FollowsPlan view answer old new (task side name 0 work old)
task_told view side name old new work t result answer is named h = told_of view side name 0 old new work result answer (is ∙ ap (λ t. stopped_in t result) named) h

-- ---- the lift
pub lift_told : {Y : Type 0} (items : Y → List MatrixValue) (r : Ring) (side : Side) (x : ResolutionValue) → IsResolution x → x.first.matrix.ring ≡ r → (i : ℕ) → length x.next ≡ i → (result : Result Y Stopped) (old new : ℕ)
    → FollowsPlan (λ ts. after_the_first (matrices_meaning r (items ts))) result old new (lifting r side 1 (matrix_unit r.prime r.vars 1) (take i (plans.graphs_of r (resolution_value r x))) old)
    → IfOk result (λ ts. matrices_meaning r (items ts) ≡ matrix_unit r.prime r.vars 1 ∷ after_the_first (matrices_meaning r (items ts)))
    → IfOk result (λ ts. IsFrobeniusLiftOf r.prime r.vars i (differentials r x) (matrices_meaning r (items ts)))
lift_told items r side x h ring i degree (Err e) old new follows first = tt
lift_told items r side x h ring i degree (Ok ts) old new follows first =
    let X : Resolved r i (generators_of r x) (resolution_value r x) = subst (λ i. Resolved r i (generators_of r x) (resolution_value r x)) degree (resolved r x h ring) in
    subst (IsFrobeniusLiftOf r.prime r.vars i (differentials r x)) (sym first)
    (lift_is r (generators_of r x) i (resolution_value r x) X side old new (after_the_first (matrices_meaning r (items ts))) follows)

module _ (r : Ring) (i : ℕ) (ds : List (MatrixOf r)) (ts : List MatrixValue) (m : MatrixValue) (lift : IsFrobeniusLiftOf r.prime r.vars i ds (matrices_meaning r ts)) (is : matrix_at r.prime r.vars (matrices_meaning r ts) i ≡ matrix_meaning r m) where
  theta_fits : HasShape r.prime r.vars (rank r.prime r.vars ds i) (rank r.prime r.vars ds i) (matrix_meaning r m)
  theta_fits = subst (HasShape r.prime r.vars (rank r.prime r.vars ds i) (rank r.prime r.vars ds i)) is (lift.fits i (let c = lift.count in omega (arith, c)))

  pub theta_rows : m.rows ≡ rank r.prime r.vars ds i
  theta_rows = shape_rows r.prime r.vars _ _ _ theta_fits

  pub theta_columns : length m.columns ≡ rank r.prime r.vars ds i
  theta_columns = sym (map_length (column_meaning r) m.columns) ∙ shape_columns r.prime r.vars _ _ _ theta_fits

-- what ended is Ext
pub presents : (side : Side) (i : ℕ) (y : ExtValue) → length y.resolution.next ≡ i → IsResolution y.resolution → AreMatricesOver (ring_of y) y.lift → (cocycles_matrix y).ring ≡ ring_of y → (relations_matrix y).ring ≡ ring_of y → y.u.ring ≡ ring_of y
    → (units left : ℕ) → (let r = ring_of y in Ends (ext_plan r side i (resolution_value r y.resolution) units) (ext_meaning r y) left) → IsExt y
presents side i y degree h over z_ring n_ring u_ring units left e =
    let r = ring_of y in
    let fs = generators_of r y.resolution in
    let X = resolution_value r y.resolution in
    let ends = subst (λ i. Ends (ext_plan r side i X units) (ext_meaning r y) left) (sym degree) e in
    let P = ext_is r side (length y.resolution.next) fs X (resolved r y.resolution h refl) units left (ext_meaning r y) ends in
    let wide = map_length (column_meaning r) (cocycles_matrix y).columns in
    record {
      resolution = h;
      lift = over;
      cocycles = z_ring;
      relations = n_ring;
      morphism = u_ring;
      cocycles_rows = shape_rows r.prime r.vars _ _ _ P.presents.cocycles_fit;
      relations_rows = shape_rows r.prime r.vars _ _ _ P.presents.relations_fit ∙ wide;
      morphism_rows = shape_rows r.prime r.vars _ _ _ P.presents.morphism_fits ∙ wide;
      morphism_columns = sym (map_length (column_meaning r) y.u.columns) ∙ shape_columns r.prime r.vars _ _ _ P.presents.morphism_fits ∙ wide;
      resolved = P.is_resolved;
      presents = P.presents;
    }
