-- A vector that passed the test has coordinates.
use Rattle.std.proofs.Common.{ℕ, zero, suc, ◌≡◌, ◌==◌, None, List, [], ◌∷◌, length, map, take, Ok, refl, sym, ap, ◌∙◌, subst, arith}
use Rattle.std.proofs.lemmas.Bool.{eqb-true}
use Rattle.fm_algebra.specs.PolynomialMatrices.{HasShape, InImage, InKernel, matrix_transpose, matrix_twist, vector_product}
use Rattle.fm_limit.specs.ResolvedIdeal.{matrix_at, columns_of, rank}
use Rattle.fm_limit.specs.Classes.{IsClass}
use Rattle.fm_limit.proofs.StageWords.{class_words}
use Rattle.fm_limit.proofs.Waist.{coordinates_fact}
use Rattle.fm_limit.proofs.MatrixWords.{twist_fits, shape_rows, shape_columns}
use Rattle.fm_poly.specs.declared.ring.Ring.{Ring}
use Rattle.fm_run.specs.declared.task.Side.TheVariants.{Alone}
use Rattle.fm_run.specs.declared.task.Name.TheVariants as names
use Rattle.fm_run.specs.Runs.{◌>>=◌}
use Rattle.fm_run.proofs.Ends.{Ends, bound}
use Rattle.fm_mat.specs.Matrices.{column_meaning, matrix_meaning}
use Rattle.fm_mat.proofs.Steps.{map_length}
use Rattle.fm_graphs.specs.Listing.{VectorOf}
use Rattle.fm_graphs.specs.Graphs.{MatrixOf}
use Rattle.fm_graphs.specs.Trims.{Preimage}
use Rattle.fm_plan.specs.Tasks.{wrong_length, not_a_cocycle, task}
use Rattle.fm_plan.specs.Results as plans
use Rattle.fm_plan.specs.Queries.{allowed, base_of, chain_graphs, cocycle_work, unless}
use Rattle.fm_plan.proofs.Bases.{Based, base_from}
use Rattle.fm_plan.proofs.Classes.{allowed_ends, cocycle_is}
use Rattle.fm_plan.proofs.Resolving.{Resolved}
use Rattle.fm_plan.proofs.Tasks.{task_ends, unless_ends}
use Rattle.fm_syz.specs.GraphValues.{GraphValue, graph_meaning}
use Rattle.fm_syz.specs.GeneratorValues.{PreimageValue, preimage_meaning}
use Rattle.fm_poly.specs.Polys.{PolyValue, meaning}
use Rattle.fm_resolve.specs.Resolutions.{ResolutionValue, IsResolution, generators_of, resolution_value}
use Rattle.fm_resolve.proofs.Resolved.{resolved}
use Rattle.fm_ext.specs.Exts.{cocycles_matrix, differentials, ring_of}
use Rattle.fm_chain.specs.Chains.{AreMembersOf, member_graphs, outside_value}
use Rattle.fm_chain.specs.Stages.{AreGraphsOf}
use Rattle.fm_queries.specs.Bases.{BaseValue, IsBase, base_meaning, relations_graph}
use Rattle.fm_queries.specs.Founds.{class_test}

module _ (r : Ring) where
  -- what passed the test is a cocycle
  passed : (mid high e : ℕ) (d : MatrixOf r) (z : VectorOf r) → HasShape r.prime r.vars mid high d → (units left : ℕ) (u : Unit {0}) → Ends (class_test r e d z units) u left
      → (length z ≡ mid) × InKernel r.prime r.vars (matrix_transpose r.prime r.vars (matrix_twist r.prime r.vars e d)) z
  passed mid high e d z s units left u ends =
      let work = cocycle_work r e d z in
      let tested = λ (u : Unit {0}). task Alone names.Test 0 work >>= unless r not_a_cocycle in
      let a = bound (allowed r (length z == d.rows) (wrong_length (length z) d.rows)) tested units left u ends in
      let long : length z ≡ mid = eqb-true (length z) d.rows (allowed_ends r (length z == d.rows) (wrong_length (length z) d.rows) units a.between a.value a.first) ∙ shape_rows r.prime r.vars mid high d s in
      let b = bound (task Alone names.Test 0 work) (unless r not_a_cocycle) a.between left u a.second in
      let none : b.value ≡ None = unless_ends r not_a_cocycle b.value b.between left u b.second in
      (long, cocycle_is r mid high e d z s long a.between b.between (subst (λ o. Ends (work a.between) o b.between) none (task_ends Alone names.Test 0 work a.between b.between b.value b.first)))

  -- ---- coordinates
  module _ (x : ResolutionValue) (h : IsResolution x) (ring : x.first.matrix.ring ≡ r) (i : ℕ) (degree : length x.next ≡ i) (e : ℕ) (z : List PolyValue) (one : ℕ)
      (passes : class_test r e (matrix_at r.prime r.vars (differentials r x) i) (column_meaning r z) one ≡ record { end = Ok tt; left = one }) (two : ℕ) (b : BaseValue)
      (based : base_of r Alone i (resolution_value r x) one ≡ record { end = Ok (base_meaning r b); left = two }) where
    X : Resolved r i (generators_of r x) (resolution_value r x)
    X = subst (λ i. Resolved r i (generators_of r x) (resolution_value r x)) degree (resolved r x h ring)

    B : Based r i (generators_of r x) (base_meaning r b) × ((base_meaning r b).ext.resolution ≡ resolution_value r x)
    B = base_from r i (generators_of r x) Alone (resolution_value r x) X one two (base_meaning r b) based

    abbrev Z : MatrixOf r
    Z = matrix_meaning r (cocycles_matrix b.ext)

    class : IsClass r.prime r.vars i (plans.resolved r (generators_of r x) (base_meaning r b).ext) e (column_meaning r z)
    class =
        let d = matrix_at r.prime r.vars (differentials r x) i in
        let fits = X.resolution.fits i (let k = X.resolution.count in omega (arith, k)) in
        let cocycle = passed (rank r.prime r.vars (differentials r x) i) (columns_of r.prime r.vars (differentials r x) i) e d (column_meaning r z) fits one one tt passes in
        (class_words r.prime r.vars (B.0).facts.resolved e (column_meaning r z)).1
        (subst (λ (u : plans.Resolution r). InKernel r.prime r.vars (matrix_transpose r.prime r.vars (matrix_twist r.prime r.vars e (matrix_at r.prime r.vars (plans.differentials_of r u) i))) (column_meaning r z)) (sym B.1) cocycle.1)

    pub class_long : length z ≡ (cocycles_matrix b.ext).rows
    class_long = sym (map_length (λ (f : PolyValue). meaning r f.terms) z) ∙ class.fits ∙ sym (shape_rows r.prime r.vars _ _ Z (B.0).facts.ext.cocycles_fit)

    pub class_inside : InImage r.prime r.vars (matrix_twist r.prime r.vars e Z) (column_meaning r z)
    unfolding InImage vector_product
    class_inside =
        let w = coordinates_fact r.prime r.vars (B.0).facts e (column_meaning r z) class in
        let T = matrix_twist r.prime r.vars e Z in
        (w.0, w.1.0 ∙ sym (shape_columns r.prime r.vars _ _ T (twist_fits r.prime r.vars e _ _ Z (B.0).facts.ext.cocycles_fit)), w.1.1)

-- ---- the graphs of the members
abbrev of_link : PreimageValue → GraphValue
of_link x = x.generators.graph

module _ (r : Ring) (m : ℕ) where
  links_fit : (k : ℕ) (links : List PreimageValue) → AreMembersOf r m links → AreGraphsOf r m (take k (map of_link links))
  links_fit zero links h = tt
  links_fit (suc k) [] h = tt
  links_fit (suc k) (x ∷ links) h = (h.0, h.1, links_fit k links h.2)

module _ (r : Ring) where
  links_mean : (k : ℕ) (links : List PreimageValue) → map (graph_meaning r) (take k (map of_link links)) ≡ take k (map (λ (x : Preimage r). x.graph) (map (preimage_meaning r) links))
  links_mean zero links = refl
  links_mean (suc k) [] = refl
  links_mean (suc k) (x ∷ links) = ap (λ gs. graph_meaning r x.generators.graph ∷ gs) (links_mean k links)

module _ (b : BaseValue) (r : Ring) (gs : List GraphValue) (are : gs ≡ take (suc (length b.chain.growth)) (member_graphs (relations_graph b) b.chain.links)) where
  pub graphs_fit : IsBase b → ring_of b.ext ≡ r → (w : List PolyValue) → length w ≡ length (cocycles_matrix b.ext).columns → AreGraphsOf r (length w) gs
  graphs_fit B ring w long =
      subst (λ m. AreGraphsOf r m gs) (sym long) (subst (λ gs. AreGraphsOf r (length (cocycles_matrix b.ext).columns) gs) (sym are)
      (B.ext.relations ∙ ring, B.ext.relations_rows, links_fit r (length (cocycles_matrix b.ext).columns) (length b.chain.growth) b.chain.links (subst (λ s. AreMembersOf s (length (cocycles_matrix b.ext).columns) b.chain.links) ring B.members)))

  pub graphs_mean : map (graph_meaning r) gs ≡ chain_graphs r (base_meaning r b)
  graphs_mean =
      ap (map (graph_meaning r)) are ∙ ap (λ hs. graph_meaning r (relations_graph b) ∷ hs) (links_mean r (length b.chain.growth) b.chain.links)
      ∙ ap (λ k. take (suc k) (graph_meaning r (relations_graph b) ∷ map (λ (x : Preimage r). x.graph) (map (preimage_meaning r) b.chain.links))) (sym (map_length outside_value b.chain.growth))
