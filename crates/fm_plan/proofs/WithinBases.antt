-- BASE that ends stays within the bound on exponents.
use Rattle.std.proofs.Common.{ℕ, zero, suc, ◌≡◌, true, List, [], ◌∷◌, ◌++◌, map, length, take, subst}
use Rattle.fm_algebra.specs.PolynomialMatrices.{matrix_unit, matrix_column}
use Rattle.fm_limit.specs.ResolvedIdeal.{matrix_at, differential, row}
use Rattle.fm_poly.specs.declared.ring.Ring.{Ring}
use Rattle.fm_run.specs.Runs.{ready, ◌>>=◌}
use Rattle.fm_run.specs.Turns.{Turn, repeated}
use Rattle.fm_run.proofs.Ends.{Ends, same_value, bound, Leads, turns_lead}
use Rattle.fm_graphs.specs.Graphs.{MatrixOf, Graph, Inside, all_inside, first_outside, width, graph_run, lifted, inside_run, twisted_graph}
use Rattle.fm_graphs.specs.Trims.{Preimage, generating, kernel_run, preimage_run}
use Rattle.fm_graphs.specs.Bounds.{multiplied, twisted_matrix}
use Rattle.fm_graphs.specs.Within.{are_within, IsMatrixWithin, IsGraphWithin, IsInsideWithin, IsPreimageWithin}
use Rattle.fm_graphs.proofs.WithinMatrices.{zeros_within, units_within, column_within, transpose_within}
use Rattle.fm_graphs.proofs.WithinGraphs.{multiplied_ends, twist_ends, graph_ends, lifted_ends, inside_ends, generating_ends, kernel_ends, preimage_ends}
use Rattle.fm_run.specs.declared.task.Side.{Side}
use Rattle.fm_run.specs.declared.task.Name.TheVariants.{Resolve, Lift, Cocycles, Relations, Morphism, Chain as ChainTask}
use Rattle.fm_plan.specs.Tasks.{task, out_of_units}
use Rattle.fm_plan.specs.Results.{Resolution, Ext, Chain, Ideal, graphs_of, differentials_of}
use Rattle.fm_plan.specs.Base.{flip, lift_work, morphism_work, Links, linked, chain_work, resolving, resolution_plan, lifting, ext_plan, chain_turn, chain_plan}
use Rattle.fm_plan.specs.Queries.{BaseOf, base_of, base_plan}
use Rattle.fm_plan.specs.Within.{AreMatricesWithin, ArePreimagesWithin, IsResolutionWithin, IsExtWithin, IsChainWithin, IsBaseWithin}
use Rattle.fm_plan.proofs.Tasks.{task_ends}

module _ (r : Ring) where
  abbrev IdealWithin : Ideal r → Type 0
  IdealWithin fs = are_within r.prime r.vars fs ≡ true

  pub row_within : (fs : Ideal r) → IdealWithin fs → IsMatrixWithin r (row r.prime r.vars fs)
  unfolding row
  row_within fs h = transpose_within r.prime r.vars (matrix_column r.prime r.vars fs) (column_within r.prime r.vars fs h)

  -- ---- lists
  pub preimages_more : (xs : List (Preimage r)) (x : Preimage r) → ArePreimagesWithin r xs → IsPreimageWithin r x → ArePreimagesWithin r (xs ++ x ∷ [])
  preimages_more [] x w h = (h, tt)
  preimages_more (y ∷ ys) x w h = (w.0, preimages_more ys x w.1 h)

  pub matrix_at_within : (As : List (MatrixOf r)) → AreMatricesWithin r As → (j : ℕ) → IsMatrixWithin r (matrix_at r.prime r.vars As j)
  unfolding matrix_at
  matrix_at_within [] w j = zeros_within r.prime r.vars 0 0
  matrix_at_within (A ∷ As) w zero = w.0
  matrix_at_within (A ∷ As) w (suc j) = matrix_at_within As w.1 j

  differential_within : (As : List (MatrixOf r)) → AreMatricesWithin r As → (j : ℕ) → IsMatrixWithin r (differential r.prime r.vars As j)
  unfolding differential
  differential_within As w zero = zeros_within r.prime r.vars 0 1
  differential_within As w (suc j) = matrix_at_within As w j

  next_within : (xs : List (Preimage r)) → ArePreimagesWithin r xs → AreMatricesWithin r (map (λ (g : Graph r). g.matrix) (map (λ (y : Preimage r). y.graph) xs))
  next_within [] w = tt
  next_within (x ∷ xs) w = (w.0.graph.matrix, next_within xs w.1)

  differentials_within : (x : Resolution r) → IsResolutionWithin r x → AreMatricesWithin r (differentials_of r x)
  differentials_within x w = (w.first.matrix, next_within x.next w.next)

  module _ (side : Side) where
    -- ---- resolutions
    resolving_within : (count j : ℕ) (g : Graph r) → IsGraphWithin r g → (units left : ℕ) (xs : List (Preimage r)) → Ends (resolving r side count j g units) xs left → ArePreimagesWithin r xs
    resolving_within zero j g w units left xs e = subst (ArePreimagesWithin r) (same_value [] xs units left e) tt
    resolving_within (suc count) j g w units left xs e =
        let work = generating r (width r g) 0 g in
        let b = bound (task side Resolve (suc j) work) (λ x. resolving r side count (suc j) x.graph >>= λ later. ready (x ∷ later)) units left xs e in
        let own = generating_ends r (width r g) 0 g w units b.between b.value (task_ends side Resolve (suc j) work units b.between b.value b.first) in
        let d = bound (resolving r side count (suc j) b.value.graph) (λ later. ready (b.value ∷ later)) b.between left xs b.second in
        subst (ArePreimagesWithin r) (same_value (b.value ∷ d.value) xs d.between left d.second) (own, resolving_within count (suc j) b.value.graph own.graph b.between d.between d.value d.first)

    pub resolution_within : (i : ℕ) (fs : Ideal r) → IdealWithin fs → (units left : ℕ) (x : Resolution r) → Ends (resolution_plan r side i fs units) x left → IsResolutionWithin r x
    unfolding resolution_plan
    resolution_within i fs h units left x e =
        let work = graph_run r (row r.prime r.vars fs) in
        let b = bound (task side Resolve 1 work) (λ g. resolving r side i 1 g >>= λ next. ready (record { first = g; next = next })) units left x e in
        let first = graph_ends r (row r.prime r.vars fs) (row_within fs h) units b.between b.value (task_ends side Resolve 1 work units b.between b.value b.first) in
        let d = bound (resolving r side i 1 b.value) (λ next. ready (record { first = b.value; next = next })) b.between left x b.second in
        subst (IsResolutionWithin r) {x = record { first = b.value; next = d.value }} (same_value (record { first = b.value; next = d.value }) x d.between left d.second)
        (record { first = first; next = resolving_within i 1 b.value first b.between d.between d.value d.first })

    -- ---- Ext
    lift_within : (theta : MatrixOf r) (g : Graph r) (units left : ℕ) (W : MatrixOf r) → Ends (lift_work r theta g units) W left → IsMatrixWithin r W
    unfolding lift_work
    lift_within theta g units left W e =
        let after = λ (D : MatrixOf r). multiplied r.prime r.vars theta D >>= λ B. lifted r g B.columns in
        let a = bound (twisted_matrix r.prime r.vars 1 g.matrix) after units left W e in
        let b = bound (multiplied r.prime r.vars theta a.value) (λ B. lifted r g B.columns) a.between left W a.second in
        lifted_ends r g (b.value).columns (multiplied_ends r theta a.value a.between b.between b.value b.first) b.between left W b.second

    lifting_within : (j : ℕ) (theta : MatrixOf r) (gs : List (Graph r)) (units left : ℕ) (thetas : List (MatrixOf r)) → Ends (lifting r side j theta gs units) thetas left → AreMatricesWithin r thetas
    lifting_within j theta [] units left thetas e = subst (AreMatricesWithin r) (same_value [] thetas units left e) tt
    lifting_within j theta (g ∷ gs) units left thetas e =
        let work = lift_work r theta g in
        let b = bound (task side Lift j work) (λ next. lifting r side (suc j) next gs >>= λ later. ready (next ∷ later)) units left thetas e in
        let d = bound (lifting r side (suc j) b.value gs) (λ later. ready (b.value ∷ later)) b.between left thetas b.second in
        subst (AreMatricesWithin r) (same_value (b.value ∷ d.value) thetas d.between left d.second)
        (lift_within theta g units b.between b.value (task_ends side Lift j work units b.between b.value b.first), lifting_within (suc j) b.value gs b.between d.between d.value d.first)

    morphism_within : (theta : MatrixOf r) (z : Graph r) (units left : ℕ) (U : MatrixOf r) → Ends (morphism_work r theta z units) U left → IsMatrixWithin r U
    unfolding morphism_work
    morphism_within theta z units left U e =
        let b = bound (multiplied r.prime r.vars (flip r theta) z.matrix) (λ B. twisted_graph r 1 z >>= λ g. lifted r g B.columns) units left U e in
        let d = bound (twisted_graph r 1 z) (λ g. lifted r g b.value.columns) b.between left U b.second in
        lifted_ends r d.value b.value.columns (multiplied_ends r (flip r theta) z.matrix units b.between b.value b.first) d.between left U d.second

    abbrev made : Resolution r → List (MatrixOf r) → Preimage r → Preimage r → MatrixOf r → Ext r
    made x thetas z N u = record { resolution = x; lift = matrix_unit r.prime r.vars 1 ∷ thetas; cocycles = z; relations = N; u = u }

    pub ext_within : (i : ℕ) (x : Resolution r) → IsResolutionWithin r x → (units left : ℕ) (y : Ext r) → Ends (ext_plan r side i x units) y left → IsExtWithin r y
    unfolding ext_plan
    ext_within i x w units left y ends =
        let unit = matrix_unit r.prime r.vars 1 in
        let ds = differentials_of r x in
        let d = matrix_at r.prime r.vars ds i in
        let below = flip r (differential r.prime r.vars ds i) in
        let kernel = kernel_run r (flip r d) in
        let u_plan = λ (thetas : List (MatrixOf r)) (z N : Preimage r). task side Morphism 0 (morphism_work r (matrix_at r.prime r.vars (unit ∷ thetas) i) z.graph) >>= λ u. ready (made x thetas z N u) in
        let n_plan = λ (thetas : List (MatrixOf r)) (z : Preimage r). task side Relations 0 (preimage_run r z.found below) >>= u_plan thetas z in
        let z_plan = λ (thetas : List (MatrixOf r)). task side Cocycles 0 kernel >>= n_plan thetas in
        let a = bound (lifting r side 1 unit (take i (graphs_of r x))) z_plan units left y ends in
        let b = bound (task side Cocycles 0 kernel) (n_plan a.value) a.between left y a.second in
        let z = b.value in
        let all = differentials_within x w in
        let Z = kernel_ends r (flip r d) (transpose_within r.prime r.vars d (matrix_at_within ds all i)) a.between b.between z (task_ends side Cocycles 0 kernel a.between b.between z b.first) in
        let c = bound (task side Relations 0 (preimage_run r z.found below)) (u_plan a.value z) b.between left y b.second in
        let N = preimage_ends r z.found below Z.found (transpose_within r.prime r.vars (differential r.prime r.vars ds i) (differential_within ds all i)) b.between c.between c.value (task_ends side Relations 0 (preimage_run r z.found below) b.between c.between c.value c.first) in
        let theta = matrix_at r.prime r.vars (unit ∷ a.value) i in
        let e = bound (task side Morphism 0 (morphism_work r theta z.graph)) (λ u. ready (made x a.value z c.value u)) c.between left y c.second in
        subst (IsExtWithin r) {x = made x a.value z c.value e.value} (same_value (made x a.value z c.value e.value) y e.between left e.second) (record {
          resolution = w;
          lift = (units_within r.prime r.vars 1, lifting_within 1 unit (take i (graphs_of r x)) units a.between a.value a.first);
          cocycles = Z;
          relations = N;
          u = morphism_within theta z.graph c.between e.between e.value (task_ends side Morphism 0 (morphism_work r theta z.graph) c.between e.between e.value e.first);
        })

    -- ---- chains
    record LinksWithin (c : Links r) : Type 0 where
      links : ArePreimagesWithin r c.links
      graph : IsGraphWithin r c.graph

    module _ (U : MatrixOf r) (u_within : IsMatrixWithin r U) where
      lead : Turn (Links r) (Chain r) → Type 0
      lead t = Leads (out_of_units side ChainTask) (chain_turn r side U) LinksWithin (IsChainWithin r) t

      linked_within : (c : Links r) (x : Preimage r) (y : Inside r) → LinksWithin c → IsPreimageWithin r x → IsInsideWithin r y → lead (linked r c x y)
      unfolding lead
      linked_within c x (all_inside ws) w h k = record { links = preimages_more c.links x w.links h; stable = w.graph; w = k }
      linked_within c x (first_outside o) w h k = record { links = preimages_more c.links x w.links h; graph = h.graph }

      turn_within : (c : Links r) (units left : ℕ) (t : Turn (Links r) (Chain r)) → LinksWithin c → Ends (chain_turn r side U c units) t left → lead t
      unfolding chain_work
      turn_within c units left t w ends =
          let e = task_ends side ChainTask (suc (length c.growth)) (chain_work r U c) units left t ends in
          let after = λ (x : Preimage r). inside_run r x.found c.graph >>= λ y. ready (linked r c x y) in
          let a = bound (twisted_matrix r.prime r.vars 1 c.graph.matrix) (λ K. preimage_run r U K >>= after) units left t e in
          let b = bound (preimage_run r U a.value) after a.between left t a.second in
          let x = preimage_ends r U a.value u_within (twist_ends r 1 c.graph.matrix units a.between a.value a.first) a.between b.between b.value b.first in
          let d = bound (inside_run r b.value.found c.graph) (λ y. ready (linked r c b.value y)) b.between left t b.second in
          subst lead {x = linked r c b.value d.value} (same_value (linked r c b.value d.value) t d.between left d.second)
          (linked_within c b.value d.value w x (inside_ends r b.value.found c.graph x.found b.between d.between d.value d.first))

      chain_within : (g : Graph r) → IsGraphWithin r g → (units left : ℕ) (c : Chain r) → Ends (repeated (out_of_units side ChainTask) (chain_turn r side U) (record { links = []; growth = []; graph = g }) units) c left → IsChainWithin r c
      unfolding lead
      chain_within g w units left c ends =
          turns_lead (out_of_units side ChainTask) (chain_turn r side U) LinksWithin (IsChainWithin r) turn_within units (record { links = []; growth = []; graph = g }) units left c (record { links = tt; graph = w }) ends

    -- ---- BASE
    pub base_of_within : (i : ℕ) (x : Resolution r) → IsResolutionWithin r x → (units left : ℕ) (b : BaseOf r) → Ends (base_of r side i x units) b left → IsBaseWithin r b
    unfolding chain_plan
    base_of_within i x w units left b ends =
        let after = λ (y : Ext r). chain_plan r side y >>= λ c. ready (record { ext = y; chain = c }) in
        let a = bound (ext_plan r side i x) after units left b ends in
        let Y = ext_within i x w units a.between a.value a.first in
        let d = bound (chain_plan r side a.value) (λ c. ready (record { ext = a.value; chain = c })) a.between left b a.second in
        let C = chain_within a.value.u Y.u a.value.relations.graph Y.relations.graph a.between d.between d.value d.first in
        subst (IsBaseWithin r) {x = record { ext = a.value; chain = d.value }} (same_value (record { ext = a.value; chain = d.value }) b d.between left d.second) (record { ext = Y; chain = C })

    pub base_within : (i : ℕ) (fs : Ideal r) → IdealWithin fs → (units left : ℕ) (b : BaseOf r) → Ends (base_plan r side i fs units) b left → IsBaseWithin r b
    unfolding base_plan
    base_within i fs h units left b ends =
        let a = bound (resolution_plan r side i fs) (base_of r side i) units left b ends in
        base_of_within i a.value (resolution_within i fs h units a.between a.value a.first) a.between left b a.second
