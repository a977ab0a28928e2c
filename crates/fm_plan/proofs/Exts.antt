-- `cocycles`, `relations` and `morphism` present Ext.
use Rattle.std.proofs.Common.{ℕ, ◌≡◌, List, ◌∷◌, length, take, refl, sym, ap, ◌∙◌, subst, subst₂, arith}
use Rattle.fm_gfp.specs.declared.prime.Prime.{Prime}
use Rattle.fm_algebra.specs.PolynomialMatrices.{HasShape, InImage, GeneratesKernel, matrix_product, matrix_twist, matrix_unit}
use Rattle.fm_limit.specs.Resolution.{rank_before}
use Rattle.fm_limit.specs.ResolvedIdeal.{matrix_at, columns_of, rank, differential, IsResolutionOf, IsFrobeniusLiftOf, IsResolved}
use Rattle.fm_limit.specs.Facts.{ColumnsInImage, PresentsExt}
use Rattle.fm_limit.proofs.NextMatrices.{morphism_exists}
use Rattle.fm_limit.proofs.FactsRead.{below_fits}
use Rattle.fm_limit.proofs.MatrixWords.{product_fits, twist_fits, transpose_fits, shape_rows, shape_columns}
use Rattle.fm_poly.specs.declared.ring.Ring.{Ring}
use Rattle.fm_run.specs.Runs.{ready, ◌>>=◌}
use Rattle.fm_graphs.specs.Graphs.{MatrixOf, Graph, width, lifted, twisted_graph}
use Rattle.fm_graphs.specs.Bounds.{multiplied}
use Rattle.fm_graphs.specs.Trims.{Preimage, kernel_run, preimage_run}
use Rattle.fm_run.proofs.Ends.{Ends, same_value, bound, bounded_value}
use Rattle.fm_graphs.proofs.Columns.{AllLong, column_length, solutions_shaped, solutions_product}
use Rattle.fm_graphs.specs.Graphs.{IsCompletedGraph}
use Rattle.fm_graphs.proofs.Lifts.{lifted_solves, twisted_is}
use Rattle.fm_graphs.proofs.Preimages.{own_shape, IsKernel, kernel_is, IsPreimage, preimage_run_is}
use Rattle.fm_run.specs.declared.task.Side.{Side}
use Rattle.fm_run.specs.declared.task.Name.TheVariants.{Cocycles, Relations, Morphism}
use Rattle.fm_plan.specs.Tasks.{task}
use Rattle.fm_plan.specs.Results.{Resolution, Ext, Ideal, graphs_of, differentials_of, resolved}
use Rattle.fm_plan.specs.Base.{flip, morphism_work, lifting, ext_plan}
use Rattle.fm_plan.proofs.Tasks.{task_ends, in_columns}
use Rattle.fm_plan.proofs.Resolving.{Resolved}
use Rattle.fm_plan.proofs.Lifting.{lift_is}

module _ (r : Ring) (side : Side) (i : ℕ) (fs : Ideal r) (x : Resolution r) (X : Resolved r i fs x) where
  abbrev p : Prime
  p = r.prime

  abbrev n : ℕ
  n = r.vars

  abbrev ds : List (MatrixOf r)
  ds = differentials_of r x

  abbrev R : IsResolutionOf p n fs i ds
  R = X.resolution

  abbrev d : MatrixOf r
  d = matrix_at p n ds i

  abbrev mid : ℕ
  mid = rank p n ds i

  abbrev high : ℕ
  high = columns_of p n ds i

  d_shape : HasShape p n mid high d
  d_shape = R.fits i (let c = R.count in omega (arith, c))

  -- U
  module _ (ts : List (MatrixOf r)) (f : IsFrobeniusLiftOf p n i ds ts) (z : Graph r) (G : IsCompletedGraph r z) (g : ℕ) (z_shape : HasShape p n mid g z.matrix) (cocycles : GeneratesKernel p n z.matrix (flip r d)) where
    abbrev theta : MatrixOf r
    theta = matrix_at p n ts i

    theta_shape : HasShape p n mid mid theta
    theta_shape = f.fits i (let c = f.count in omega (arith, c))

    abbrev B : MatrixOf r
    B = matrix_product p n (flip r theta) z.matrix

    B_shape : HasShape p n mid g B
    B_shape = product_fits p n mid mid g (flip r theta) z.matrix (transpose_fits p n mid mid theta theta_shape) z_shape

    inside : ColumnsInImage p n (matrix_twist p n 1 z.matrix) B
    inside = morphism_exists p n R ts f g z.matrix z_shape cocycles

    morphism_is : (units left : ℕ) (U : MatrixOf r) → Ends (morphism_work r theta z units) U left → HasShape p n g g U × (B ≡ matrix_product p n (matrix_twist p n 1 z.matrix) U)
    unfolding morphism_work multiplied
    morphism_is units left U ends =
        let b = bound (multiplied p n (flip r theta) z.matrix) (λ B. twisted_graph r 1 z >>= λ h. lifted r h B.columns) units left U ends in
        let B_is : B ≡ b.value = bounded_value _ B b.value units b.between b.first in
        let c = bound (twisted_graph r 1 z) (λ h. lifted r h b.value.columns) b.between left U b.second in
        let h = c.value in
        let H = twisted_is r z G 1 b.between c.between h c.first in
        let T = matrix_twist p n 1 z.matrix in
        let t_shape = twist_fits p n 1 mid g z.matrix z_shape in
        let rows : mid ≡ h.matrix.rows = sym (ap (λ (A : MatrixOf r). A.rows) H.1 ∙ shape_rows p n mid g T t_shape) in
        let wide : width r h ≡ g = ap (λ (A : MatrixOf r). length A.columns) H.1 ∙ shape_columns p n mid g T t_shape in
        let long : AllLong p n h.matrix.rows B.columns = (λ v k. column_length p n mid g B B_shape v k ∙ rows) in
        let s = lifted_solves r h H.0 B.columns long (λ v k. subst (λ A. InImage p n A v) (sym H.1) (in_columns r T B inside v k)) c.between left U
        (subst (λ (A : MatrixOf r). Ends (lifted r h A.columns c.between) U left) (sym B_is) c.second) in
        let shape : HasShape p n (width r h) (length B.columns) U = subst (HasShape p n (width r h) (length B.columns)) (sym s.1) (solutions_shaped p n mid h.matrix B.columns U.columns s.0) in
        let product : matrix_product p n h.matrix U ≡ record { rows = h.matrix.rows; columns = B.columns } = ap (matrix_product p n h.matrix) s.1 ∙ solutions_product p n h.matrix.rows h.matrix B.columns U.columns ((H.0).shape) long s.0 in (
          subst₂ (λ a b. HasShape p n a b U) wide (shape_columns p n mid g B B_shape) shape,
          sym (ap (λ A. matrix_product p n A U) (sym H.1) ∙ product ∙ (λ k. record { rows = (sym rows ∙ sym (shape_rows p n mid g B B_shape)) k; columns = B.columns })),
        )

  -- ---- Ext
  -- what the tasks up to `morphism` establish
  pub record Presented (y : Ext r) : Type 0 where
    pub is_resolved : IsResolved p n i (resolved r fs y)
    pub same : y.resolution ≡ x
    pub presents : PresentsExt p n i (resolved r fs y) y.cocycles.found y.relations.found y.u
    pub cocycles : IsKernel r (flip r d) y.cocycles
    pub relations : IsPreimage r y.cocycles.found (flip r (differential p n ds i)) y.relations

  abbrev made : List (MatrixOf r) → Preimage r → Preimage r → MatrixOf r → Ext r
  made thetas z N u = record { resolution = x; lift = matrix_unit p n 1 ∷ thetas; cocycles = z; relations = N; u = u }

  pub ext_is : (units left : ℕ) (y : Ext r) → Ends (ext_plan r side i x units) y left → Presented y
  unfolding ext_plan
  ext_is units left y ends =
      let unit = matrix_unit p n 1 in
      let below = flip r (differential p n ds i) in
      let u_plan = λ (thetas : List (MatrixOf r)) (z N : Preimage r). task side Morphism 0 (morphism_work r (matrix_at p n (unit ∷ thetas) i) z.graph) >>= λ u. ready (made thetas z N u) in
      let n_plan = λ (thetas : List (MatrixOf r)) (z : Preimage r). task side Relations 0 (preimage_run r z.found below) >>= u_plan thetas z in
      let z_plan = λ (thetas : List (MatrixOf r)). task side Cocycles 0 (kernel_run r (flip r d)) >>= n_plan thetas in
      let a = bound (lifting r side 1 unit (take i (graphs_of r x))) z_plan units left y ends in
      let f = lift_is r fs i x X side units a.between a.value a.first in
      let b = bound (task side Cocycles 0 (kernel_run r (flip r d))) (n_plan a.value) a.between left y a.second in
      let z = b.value in
      let K = kernel_is r (flip r d) (own_shape r high mid (flip r d) (transpose_fits p n mid high d d_shape)) a.between b.between z (task_ends side Cocycles 0 (kernel_run r (flip r d)) a.between b.between z b.first) in
      let g = length z.found.columns in
      let z_shape : HasShape p n mid g z.found = subst (λ k. HasShape p n k g z.found) (shape_columns p n high mid (flip r d) (transpose_fits p n mid high d d_shape)) K.generating.found_shape in
      let c = bound (task side Relations 0 (preimage_run r z.found below)) (u_plan a.value z) b.between left y b.second in
      let N = c.value in
      let low = rank_before (columns_of p n ds) i in
      let J = preimage_run_is r mid g low z.found below z_shape (transpose_fits p n low mid (differential p n ds i) (below_fits p n R)) b.between c.between N (task_ends side Relations 0 (preimage_run r z.found below) b.between c.between N c.first) in
      let work = morphism_work r (matrix_at p n (unit ∷ a.value) i) z.graph in
      let e = bound (task side Morphism 0 work) (λ u. ready (made a.value z N u)) c.between left y c.second in
      let M = morphism_is (unit ∷ a.value) f z.graph K.generating.graph g (subst (HasShape p n mid g) (sym K.generating.graph_matrix) z_shape) (subst (λ Z. GeneratesKernel p n Z (flip r d)) (sym K.generating.graph_matrix) K.generates) c.between e.between e.value
      (task_ends side Morphism 0 work c.between e.between e.value e.first) in
      let is : Presented (made a.value z N e.value) = record {
        is_resolved = record { resolution = R; frobenius = f };
        same = refl;
        presents = record {
          cocycles_fit = z_shape;
          relations_fit = J.generating.found_shape;
          morphism_fits = M.0;
          cocycles = K.generates;
          relations = J.generates;
          morphism = ap (matrix_product p n (flip r (matrix_at p n (unit ∷ a.value) i))) (sym K.generating.graph_matrix) ∙ M.1 ∙ ap (λ Z. matrix_product p n (matrix_twist p n 1 Z) e.value) K.generating.graph_matrix;
        };
        cocycles = K;
        relations = J;
      } in
      subst Presented (same_value (made a.value z N e.value) y e.between left e.second) is
