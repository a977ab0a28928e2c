-- The sizes of what BASE finds are within its units and what it is asked with.
use Rattle.std.proofs.Common.{ℕ, zero, suc, ◌+◌, ◌<◌, ◌≤◌, ◌≡◌, List, [], ◌∷◌, ◌++◌, map, length, take, refl, ap, subst, arith}
use Rattle.std.proofs.lemmas.List.{length-append}
use Rattle.fm_algebra.specs.Matrix.{zero_matrix, table, listed}
use Rattle.fm_algebra.specs.PolynomialMatrices.{matrix_unit, matrix_zero}
use Rattle.fm_limit.specs.ResolvedIdeal.{matrix_at, differential, rank, row}
use Rattle.fm_limit.proofs.MatrixWords.{row_fits, shape_rows, shape_columns}
use Rattle.fm_poly.specs.declared.ring.Ring.{Ring}
use Rattle.fm_run.specs.Runs.{ready, ◌>>=◌}
use Rattle.fm_run.specs.Turns.{Turn, repeated}
use Rattle.fm_run.proofs.Ends.{Ends, bound}
use Rattle.fm_run.proofs.Counting.{same_end, left_of, LeadsLeft, turns_lead_left}
use Rattle.fm_graphs.specs.Graphs.{MatrixOf, Graph, Inside, all_inside, first_outside, width, graph_run, lifted, inside_run, twisted_graph}
use Rattle.fm_graphs.specs.Trims.{Preimage, generating, kernel_run, preimage_run}
use Rattle.fm_graphs.specs.Bounds.{multiplied, twisted_matrix}
use Rattle.fm_graphs.specs.Sizes.{IsMatrixAtMost, IsGraphAtMost, IsInsideAtMost, IsPreimageAtMost}
use Rattle.fm_graphs.proofs.Spending.{lifted_spends, generating_spends, preimage_spends, twist_spends}
use Rattle.fm_graphs.proofs.Sizes.{graph_size, lifted_size, inside_size, IsPaid, inside_paid, generating_size, kernel_size, preimage_size, transpose_columns, unit_columns, unit_rows, multiplied_columns, twisted_columns, twisted_graph_width, multiplied_spends, twisted_graph_spends, kernel_spends}
use Rattle.fm_run.specs.declared.task.Side.{Side}
use Rattle.fm_run.specs.declared.task.Name.TheVariants.{Resolve, Lift, Cocycles, Relations, Morphism, Chain as ChainTask}
use Rattle.fm_plan.specs.Tasks.{task, out_of_units}
use Rattle.fm_plan.specs.Results.{Resolution, Ext, Chain, Ideal, graphs_of, differentials_of}
use Rattle.fm_plan.specs.Base.{flip, lift_work, morphism_work, Links, linked, chain_work, resolving, resolution_plan, lifting, ext_plan, chain_turn, chain_plan}
use Rattle.fm_plan.specs.Queries.{BaseOf, base_of, base_plan}
use Rattle.fm_plan.specs.Sizes.{AreMatricesAtMost, ArePreimagesAtMost, IsResolutionAtMost, IsExtAtMost, IsChainAtMost, IsBaseAtMost}
use Rattle.fm_plan.proofs.Tasks.{task_ends}

module _ (r : Ring) (most : ℕ) where
  -- ---- lists
  pub preimages_more : (xs : List (Preimage r)) (x : Preimage r) → ArePreimagesAtMost r most xs → IsPreimageAtMost r most x → ArePreimagesAtMost r most (xs ++ x ∷ [])
  preimages_more [] x w h = (h, tt)
  preimages_more (y ∷ ys) x w h = (w.0, preimages_more ys x w.1 h)

  empty_at_most : IsMatrixAtMost r most (matrix_zero r.prime r.vars 0 0)
  unfolding matrix_zero zero_matrix table listed
  empty_at_most = record { rows = omega arith; columns = omega arith }

  pub matrix_at_most : (As : List (MatrixOf r)) → AreMatricesAtMost r most As → (j : ℕ) → IsMatrixAtMost r most (matrix_at r.prime r.vars As j)
  unfolding matrix_at
  matrix_at_most [] w j = empty_at_most
  matrix_at_most (A ∷ As) w zero = w.0
  matrix_at_most (A ∷ As) w (suc j) = matrix_at_most As w.1 j

  abbrev pub AreGraphsAtMost : List (Graph r) → Type 0
  AreGraphsAtMost [] = Unit {0}
  AreGraphsAtMost (g ∷ gs) = IsGraphAtMost r most g × AreGraphsAtMost gs

  pub graphs_taken : (i : ℕ) (gs : List (Graph r)) → AreGraphsAtMost gs → AreGraphsAtMost (take i gs)
  graphs_taken zero gs w = tt
  graphs_taken (suc i) [] w = tt
  graphs_taken (suc i) (g ∷ gs) w = (w.0, graphs_taken i gs w.1)

  pub graphs_next : (xs : List (Preimage r)) → ArePreimagesAtMost r most xs → AreGraphsAtMost (map (λ (y : Preimage r). y.graph) xs)
  graphs_next [] w = tt
  graphs_next (x ∷ xs) w = (w.0.graph, graphs_next xs w.1)

  pub graphs_at_most : (x : Resolution r) → IsResolutionAtMost r most x → AreGraphsAtMost (graphs_of r x)
  graphs_at_most x w = (w.first, graphs_next x.next w.next)

  matrices_of : (gs : List (Graph r)) → AreGraphsAtMost gs → AreMatricesAtMost r most (map (λ (g : Graph r). g.matrix) gs)
  matrices_of [] w = tt
  matrices_of (g ∷ gs) w = (w.0.matrix, matrices_of gs w.1)

  pub differentials_at_most : (x : Resolution r) → IsResolutionAtMost r most x → AreMatricesAtMost r most (differentials_of r x)
  differentials_at_most x w = matrices_of (graphs_of r x) (graphs_at_most x w)

  pub unit_at_most : 1 ≤ most → IsMatrixAtMost r most (matrix_unit r.prime r.vars 1)
  unit_at_most one = let h = unit_rows r 1 in let k = unit_columns r 1 in record { rows = omega (arith, h, one); columns = omega (arith, k, one) }

  ranks_at_most : (ds : List (MatrixOf r)) → AreMatricesAtMost r most ds → 1 ≤ most → (j : ℕ) → rank r.prime r.vars ds j ≤ most
  ranks_at_most ds w one zero = one
  ranks_at_most ds w one (suc j) = (matrix_at_most ds w j).columns

  pub row_at_most : (fs : Ideal r) → 1 ≤ most → length fs ≤ most → IsMatrixAtMost r most (row r.prime r.vars fs)
  row_at_most fs one h =
      let rows = shape_rows r.prime r.vars 1 (length fs) (row r.prime r.vars fs) (row_fits r.prime r.vars fs) in
      let columns = shape_columns r.prime r.vars 1 (length fs) (row r.prime r.vars fs) (row_fits r.prime r.vars fs) in
      record { rows = omega (arith, rows, one); columns = omega (arith, columns, h) }

  pub graph_at_most : (A : MatrixOf r) → IsMatrixAtMost r most A → (units left : ℕ) (g : Graph r) → units < most → Ends (graph_run r A units) g left → IsGraphAtMost r most g × (left < most)
  graph_at_most A w units left g enough e =
      let G = graph_size r A units left g e in
      let h = G.1 in
      (record { matrix = subst (IsMatrixAtMost r most) G.0 w; members = omega (arith, h, enough) }, omega (arith, h, enough))

  count_of : (xs : List (Preimage r)) → length (map (λ (g : Graph r). g.matrix) (map (λ (y : Preimage r). y.graph) xs)) ≡ length xs
  count_of [] = refl
  count_of (x ∷ xs) = ap suc (count_of xs)

  module _ (side : Side) where
    -- ---- resolutions
    resolving_sizes : (count j : ℕ) (g : Graph r) → IsGraphAtMost r most g → (units left : ℕ) (xs : List (Preimage r)) → units < most → Ends (resolving r side count j g units) xs left
        → ArePreimagesAtMost r most xs × (length xs ≡ count) × (left < most)
    resolving_sizes zero j g w units left xs enough e =
        same_end (λ (xs : List (Preimage r)) left. ArePreimagesAtMost r most xs × (length xs ≡ 0) × (left < most)) [] xs units left e (tt, refl, enough)
    resolving_sizes (suc count) j g w units left xs enough e =
        let work = generating r (width r g) 0 g in
        let b = bound (task side Resolve (suc j) work) (λ x. resolving r side count (suc j) x.graph >>= λ later. ready (x ∷ later)) units left xs e in
        let f = task_ends side Resolve (suc j) work units b.between b.value b.first in
        let h = left_of work units b.between b.value (generating_spends r (width r g) 0 g) f in
        let own = generating_size r most (width r g) 0 g w.matrix.columns w.members units b.between b.value (omega (arith, enough)) f in
        let d = bound (resolving r side count (suc j) b.value.graph) (λ later. ready (b.value ∷ later)) b.between left xs b.second in
        let later = resolving_sizes count (suc j) b.value.graph own.graph b.between d.between d.value (omega (arith, h, enough)) d.first in
        same_end (λ (xs : List (Preimage r)) left. ArePreimagesAtMost r most xs × (length xs ≡ suc count) × (left < most)) (b.value ∷ d.value) xs d.between left d.second
        ((own, later.0), ap suc later.1, later.2)

    pub resolution_sizes : (i : ℕ) (fs : Ideal r) → i + 2 ≤ most → length fs ≤ most → (units left : ℕ) (x : Resolution r) → units < most → Ends (resolution_plan r side i fs units) x left
        → IsResolutionAtMost r most x × (left < most)
    unfolding resolution_plan
    resolution_sizes i fs degree generators units left x enough e =
        let A = row r.prime r.vars fs in
        let work = graph_run r A in
        let b = bound (task side Resolve 1 work) (λ g. resolving r side i 1 g >>= λ next. ready (record { first = g; next = next })) units left x e in
        let one : 1 ≤ most = omega (arith, degree) in
        let first = graph_at_most A (row_at_most fs one generators) units b.between b.value enough (task_ends side Resolve 1 work units b.between b.value b.first) in
        let d = bound (resolving r side i 1 b.value) (λ next. ready (record { first = b.value; next = next })) b.between left x b.second in
        let R = resolving_sizes i 1 b.value first.0 b.between d.between d.value first.1 d.first in
        let made : Resolution r = record { first = b.value; next = d.value } in
        let all = matrices_of (graphs_of r made) (first.0, graphs_next d.value R.0) in
        let long = R.1 in
        let count = count_of d.value in
        same_end (λ (x : Resolution r) left. IsResolutionAtMost r most x × (left < most)) made x d.between left d.second
        (record { first = first.0; next = R.0; count = omega (arith, count, long, degree); ranks = ranks_at_most (differentials_of r made) all one }, R.2)

    -- ---- Ext
    lift_sizes : (theta : MatrixOf r) (g : Graph r) → IsGraphAtMost r most g → (units left : ℕ) (W : MatrixOf r) → units < most → Ends (lift_work r theta g units) W left → IsMatrixAtMost r most W × (left < most)
    unfolding lift_work
    lift_sizes theta g w units left W enough e =
        let after = λ (D : MatrixOf r). multiplied r.prime r.vars theta D >>= λ B. lifted r g B.columns in
        let a = bound (twisted_matrix r.prime r.vars 1 g.matrix) after units left W e in
        let b = bound (multiplied r.prime r.vars theta a.value) (λ B. lifted r g B.columns) a.between left W a.second in
        let s = lifted_size r g b.value.columns b.between left W b.second in
        let rows = s.0 in
        let columns = s.1 in
        let twisted = twisted_columns r 1 g.matrix units a.between a.value a.first in
        let product = multiplied_columns r theta a.value a.between b.between b.value b.first in
        let most_columns = w.matrix.columns in
        let x = left_of (twisted_matrix r.prime r.vars 1 g.matrix) units a.between a.value (twist_spends r 1 g.matrix) a.first in
        let y = left_of (multiplied r.prime r.vars theta a.value) a.between b.between b.value (multiplied_spends r theta a.value) b.first in
        let z = left_of (lifted r g b.value.columns) b.between left W (lifted_spends r g b.value.columns) b.second in
        (record { rows = omega (arith, rows, most_columns); columns = omega (arith, columns, twisted, product, most_columns) }, omega (arith, x, y, z, enough))

    lifting_sizes : (j : ℕ) (theta : MatrixOf r) (gs : List (Graph r)) → AreGraphsAtMost gs → (units left : ℕ) (thetas : List (MatrixOf r)) → units < most → Ends (lifting r side j theta gs units) thetas left
        → AreMatricesAtMost r most thetas × (left < most)
    lifting_sizes j theta [] w units left thetas enough e = same_end (λ (As : List (MatrixOf r)) left. AreMatricesAtMost r most As × (left < most)) [] thetas units left e (tt, enough)
    lifting_sizes j theta (g ∷ gs) w units left thetas enough e =
        let work = lift_work r theta g in
        let b = bound (task side Lift j work) (λ next. lifting r side (suc j) next gs >>= λ later. ready (next ∷ later)) units left thetas e in
        let d = bound (lifting r side (suc j) b.value gs) (λ later. ready (b.value ∷ later)) b.between left thetas b.second in
        let own = lift_sizes theta g w.0 units b.between b.value enough (task_ends side Lift j work units b.between b.value b.first) in
        let later = lifting_sizes (suc j) b.value gs w.1 b.between d.between d.value own.1 d.first in
        same_end (λ (As : List (MatrixOf r)) left. AreMatricesAtMost r most As × (left < most)) (b.value ∷ d.value) thetas d.between left d.second ((own.0, later.0), later.1)

    morphism_sizes : (theta : MatrixOf r) (z : Graph r) → IsGraphAtMost r most z → (units left : ℕ) (U : MatrixOf r) → units < most → Ends (morphism_work r theta z units) U left → IsMatrixAtMost r most U × (left < most)
    unfolding morphism_work
    morphism_sizes theta z w units left U enough e =
        let b = bound (multiplied r.prime r.vars (flip r theta) z.matrix) (λ B. twisted_graph r 1 z >>= λ g. lifted r g B.columns) units left U e in
        let d = bound (twisted_graph r 1 z) (λ g. lifted r g b.value.columns) b.between left U b.second in
        let s = lifted_size r d.value b.value.columns d.between left U d.second in
        let rows = s.0 in
        let columns = s.1 in
        let product = multiplied_columns r (flip r theta) z.matrix units b.between b.value b.first in
        let twisted = twisted_graph_width r 1 z b.between d.between d.value d.first in
        let most_columns = w.matrix.columns in
        let x = left_of (multiplied r.prime r.vars (flip r theta) z.matrix) units b.between b.value (multiplied_spends r (flip r theta) z.matrix) b.first in
        let y = left_of (twisted_graph r 1 z) b.between d.between d.value (twisted_graph_spends r 1 z) d.first in
        let v = left_of (lifted r d.value b.value.columns) d.between left U (lifted_spends r d.value b.value.columns) d.second in
        (record { rows = omega (arith, rows, twisted, most_columns); columns = omega (arith, columns, product, most_columns) }, omega (arith, x, y, v, enough))

    abbrev made : Resolution r → List (MatrixOf r) → Preimage r → Preimage r → MatrixOf r → Ext r
    made x thetas z N u = record { resolution = x; lift = matrix_unit r.prime r.vars 1 ∷ thetas; cocycles = z; relations = N; u = u }

    pub ext_sizes : (i : ℕ) (x : Resolution r) → 1 ≤ most → IsResolutionAtMost r most x → (units left : ℕ) (y : Ext r) → units < most → Ends (ext_plan r side i x units) y left → IsExtAtMost r most y × (left < most)
    unfolding ext_plan
    ext_sizes i x one w units left y enough ends =
        let unit = matrix_unit r.prime r.vars 1 in
        let ds = differentials_of r x in
        let d = matrix_at r.prime r.vars ds i in
        let below = flip r (differential r.prime r.vars ds i) in
        let kernel = kernel_run r (flip r d) in
        let u_plan = λ (thetas : List (MatrixOf r)) (z N : Preimage r). task side Morphism 0 (morphism_work r (matrix_at r.prime r.vars (unit ∷ thetas) i) z.graph) >>= λ u. ready (made x thetas z N u) in
        let n_plan = λ (thetas : List (MatrixOf r)) (z : Preimage r). task side Relations 0 (preimage_run r z.found below) >>= u_plan thetas z in
        let z_plan = λ (thetas : List (MatrixOf r)). task side Cocycles 0 kernel >>= n_plan thetas in
        let a = bound (lifting r side 1 unit (take i (graphs_of r x))) z_plan units left y ends in
        let T = lifting_sizes 1 unit (take i (graphs_of r x)) (graphs_taken i (graphs_of r x) (graphs_at_most x w)) units a.between a.value enough a.first in
        let b = bound (task side Cocycles 0 kernel) (n_plan a.value) a.between left y a.second in
        let z = b.value in
        let z_ends = task_ends side Cocycles 0 kernel a.between b.between z b.first in
        let d_rows = (matrix_at_most ds (differentials_at_most x w) i).rows in
        let flipped = transpose_columns r d in
        let after_lift = T.1 in
        let Z = kernel_size r most (flip r d) (omega (arith, d_rows, flipped)) a.between b.between z (omega (arith, after_lift)) z_ends in
        let z_left = left_of kernel a.between b.between z (kernel_spends r (flip r d)) z_ends in
        let n_work = preimage_run r z.found below in
        let c = bound (task side Relations 0 n_work) (u_plan a.value z) b.between left y b.second in
        let n_ends = task_ends side Relations 0 n_work b.between c.between c.value c.first in
        let N = preimage_size r most z.found below Z.found.columns b.between c.between c.value (omega (arith, after_lift, z_left)) n_ends in
        let n_left = left_of n_work b.between c.between c.value (preimage_spends r z.found below) n_ends in
        let theta = matrix_at r.prime r.vars (unit ∷ a.value) i in
        let e = bound (task side Morphism 0 (morphism_work r theta z.graph)) (λ u. ready (made x a.value z c.value u)) c.between left y c.second in
        let U = morphism_sizes theta z.graph Z.graph c.between e.between e.value (omega (arith, after_lift, z_left, n_left)) (task_ends side Morphism 0 (morphism_work r theta z.graph) c.between e.between e.value e.first) in
        same_end (λ (y : Ext r) left. IsExtAtMost r most y × (left < most)) (made x a.value z c.value e.value) y e.between left e.second
        (record { resolution = w; lift = (unit_at_most one, T.0); cocycles = Z; relations = N; u = U.0 }, U.1)

    -- ---- chains
    -- the links so far: each but the first has cost a unit
    record LinksAtMost (c : Links r) (left : ℕ) : Type 0 where
      links : ArePreimagesAtMost r most c.links
      count : length c.links ≡ length c.growth
      paid : length c.growth + left < most
      graph : IsMatrixAtMost r most c.graph.matrix

    module _ (U : MatrixOf r) (u_sizes : IsMatrixAtMost r most U) where
      abbrev Done : Chain r → ℕ → Type 0
      Done c left = IsChainAtMost r most c × (left < most)

      lead : Turn (Links r) (Chain r) → ℕ → Type 0
      lead t left = LeadsLeft (out_of_units side ChainTask) (chain_turn r side U) LinksAtMost Done t left

      linked_sizes : (c : Links r) (x : Preimage r) (y : Inside r) (units between left : ℕ) → LinksAtMost c units → IsPreimageAtMost r most x → between ≤ units → IsPaid r between left y → IsInsideAtMost r (length x.found.columns) y
          → lead (linked r c x y) left
      unfolding lead
      linked_sizes c x (all_inside ws) units between left w h spent paid some =
          let longer = length-append c.links (x ∷ []) in
          let count = w.count in
          let before = w.paid in
          let columns = h.found.columns in (
            record {
              links = preimages_more c.links x w.links h;
              count = omega (arith, longer, count, before);
              index = omega (arith, before);
              stable = w.graph;
              w = record { rows = w.graph.columns; columns = omega (arith, some, columns) };
            },
            omega (arith, before, spent, paid),
          )
      linked_sizes c x (first_outside o) units between left w h spent paid some =
          let longer = length-append c.links (x ∷ []) in
          let grown = length-append c.growth (o ∷ []) in
          let count = w.count in
          let before = w.paid in
          record { links = preimages_more c.links x w.links h; count = omega (arith, longer, grown, count); paid = omega (arith, grown, before, spent, paid); graph = h.graph.matrix }

      turn_sizes : (c : Links r) (units left : ℕ) (t : Turn (Links r) (Chain r)) → LinksAtMost c units → Ends (chain_turn r side U c units) t left → lead t left
      unfolding chain_work
      turn_sizes c units left t w ends =
          let e = task_ends side ChainTask (suc (length c.growth)) (chain_work r U c) units left t ends in
          let after = λ (x : Preimage r). inside_run r x.found c.graph >>= λ y. ready (linked r c x y) in
          let a = bound (twisted_matrix r.prime r.vars 1 c.graph.matrix) (λ K. preimage_run r U K >>= after) units left t e in
          let b = bound (preimage_run r U a.value) after a.between left t a.second in
          let d = bound (inside_run r b.value.found c.graph) (λ y. ready (linked r c b.value y)) b.between left t b.second in
          let k = left_of (twisted_matrix r.prime r.vars 1 c.graph.matrix) units a.between a.value (twist_spends r 1 c.graph.matrix) a.first in
          let l = left_of (preimage_run r U a.value) a.between b.between b.value (preimage_spends r U a.value) b.first in
          let before = w.paid in
          let x = preimage_size r most U a.value u_sizes.columns a.between b.between b.value (omega (arith, before, k)) b.first in
          same_end lead (linked r c b.value d.value) t d.between left d.second
          (linked_sizes c b.value d.value units b.between d.between w x (omega (arith, k, l)) (inside_paid r b.value.found c.graph b.between d.between d.value d.first) (inside_size r b.value.found c.graph b.between d.between d.value d.first))

      pub chain_sizes : (g : Graph r) → IsMatrixAtMost r most g.matrix → (units left : ℕ) (c : Chain r) → units < most → Ends (repeated (out_of_units side ChainTask) (chain_turn r side U) (record { links = []; growth = []; graph = g }) units) c left
          → IsChainAtMost r most c × (left < most)
      unfolding lead
      chain_sizes g w units left c enough ends =
          turns_lead_left (out_of_units side ChainTask) (chain_turn r side U) LinksAtMost Done turn_sizes units (record { links = []; growth = []; graph = g }) units left c
          (record { links = tt; count = refl; paid = omega (arith, enough); graph = w }) ends

    -- ---- BASE
    pub base_of_sizes : (i : ℕ) (x : Resolution r) → 1 ≤ most → IsResolutionAtMost r most x → (units left : ℕ) (b : BaseOf r) → units < most → Ends (base_of r side i x units) b left → IsBaseAtMost r most b × (left < most)
    unfolding chain_plan
    base_of_sizes i x one w units left b enough ends =
        let after = λ (y : Ext r). chain_plan r side y >>= λ c. ready (record { ext = y; chain = c }) in
        let a = bound (ext_plan r side i x) after units left b ends in
        let Y = ext_sizes i x one w units a.between a.value enough a.first in
        let d = bound (chain_plan r side a.value) (λ c. ready (record { ext = a.value; chain = c })) a.between left b a.second in
        let C = chain_sizes a.value.u Y.0.u a.value.relations.graph Y.0.relations.graph.matrix a.between d.between d.value Y.1 d.first in
        same_end (λ (b : BaseOf r) left. IsBaseAtMost r most b × (left < most)) (record { ext = a.value; chain = d.value }) b d.between left d.second (record { ext = Y.0; chain = C.0 }, C.1)

    pub base_sizes : (i : ℕ) (fs : Ideal r) → i + 2 ≤ most → length fs ≤ most → (units left : ℕ) (b : BaseOf r) → units < most → Ends (base_plan r side i fs units) b left → IsBaseAtMost r most b × (left < most)
    unfolding base_plan
    base_sizes i fs degree generators units left b enough ends =
        let a = bound (resolution_plan r side i fs) (base_of r side i) units left b ends in
        let X = resolution_sizes i fs degree generators units a.between a.value enough a.first in
        base_of_sizes i a.value (omega (arith, degree)) X.0 a.between left b X.1 a.second
