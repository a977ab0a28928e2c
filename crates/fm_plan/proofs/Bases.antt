-- BASE that ends establishes the finite facts of its degree.
use Rattle.std.proofs.Common.{ℕ, suc, ◌≡◌, ◌↔◌, IsTrue, length, refl, sym, ap, ◌∙◌, subst}
use Rattle.std.proofs.lemmas.Bool.{false≢true}
use Rattle.fm_gfp.specs.declared.prime.Prime.{Prime}
use Rattle.fm_algebra.specs.PolynomialMatrices.{HasShape}
use Rattle.fm_limit.specs.ResolvedIdeal.{matrix_at}
use Rattle.fm_limit.proofs.MatrixWords.{shape_columns}
use Rattle.fm_limit.specs.Facts.{ColumnsInImage, DegreeFacts, IsFirstRepeat}
use Rattle.fm_groebner.proofs.Numbers.{in_of_number}
use Rattle.fm_poly.specs.declared.ring.Ring.{Ring}
use Rattle.fm_run.specs.Runs.{ready, ◌>>=◌}
use Rattle.fm_graphs.specs.Graphs.{MatrixOf, Graph, Inside, all_inside, first_outside}
use Rattle.fm_run.proofs.Ends.{Ends, same_value, bound}
use Rattle.fm_graphs.proofs.Columns.{solved_image}
use Rattle.fm_graphs.specs.Graphs.{IsCompletedGraph}
use Rattle.fm_graphs.proofs.Lifts.{Says}
use Rattle.fm_run.specs.declared.task.Side.{Side}
use Rattle.fm_plan.specs.Results.{Resolution, Ext, Ideal, resolved, kernels, stable_index}
use Rattle.fm_plan.specs.Base.{resolution_plan, ext_plan, chain_plan}
use Rattle.fm_plan.specs.Queries.{BaseOf, base_of, base_plan, is_yes}
use Rattle.fm_plan.proofs.Tasks.{columns_in, in_columns}
use Rattle.fm_plan.proofs.Resolving.{Resolved, resolution_is}
use Rattle.fm_plan.proofs.Exts.{ext_is}
use Rattle.fm_plan.proofs.Chains.{LinkGraphs, chain_from}

-- the answer of INSIDE tells whether the columns lie in the image
pub says_decides : (r : Ring) (g : Graph r) (G : IsCompletedGraph r g) (M : MatrixOf r) (y : Inside r) → Says r g G 1 M.columns y → IsTrue (is_yes r y) ↔ ColumnsInImage r.prime r.vars g.matrix M
says_decides r g G M (all_inside ws) says = ((λ e. columns_in r g.matrix M (λ v i. solved_image r.prime r.vars g.matrix M.columns ws says v i)), (λ h. refl))
says_decides r g G M (first_outside o) says = ((λ e. absurd (false≢true e)), (λ h. absurd (says.outside (in_columns r g.matrix M h says.v (in_of_number says.at)))))

module _ (r : Ring) (i : ℕ) (fs : Ideal r) where
  abbrev p : Prime
  p = r.prime

  abbrev n : ℕ
  n = r.vars

  -- what BASE establishes
  pub record Based (b : BaseOf r) : Type 0 where
    pub facts : DegreeFacts p n i (resolved r fs b.ext) b.ext.cocycles.found b.ext.u (kernels r b.ext b.chain) (stable_index r b.chain)
    pub first : IsFirstRepeat p n (kernels r b.ext b.chain) (stable_index r b.chain)
    pub stable : IsCompletedGraph r b.chain.stable
    pub resolution : Resolved r i fs b.ext.resolution
    pub relations : IsCompletedGraph r b.ext.relations.graph
    pub relations_matrix : b.ext.relations.graph.matrix ≡ b.ext.relations.found
    pub cocycles : IsCompletedGraph r b.ext.cocycles.graph
    pub cocycles_matrix : b.ext.cocycles.graph.matrix ≡ b.ext.cocycles.found
    pub links : LinkGraphs r b.chain.links
    pub count : length b.chain.links ≡ suc (stable_index r b.chain)
    pub stable_matrix : b.chain.stable.matrix ≡ matrix_at p n (kernels r b.ext b.chain) (stable_index r b.chain)

  pub base_from : (side : Side) (x : Resolution r) → Resolved r i fs x → (units left : ℕ) (b : BaseOf r) → Ends (base_of r side i x units) b left → Based b × (b.ext.resolution ≡ x)
  unfolding chain_plan matrix_at
  base_from side x X units left b ends =
      let after = λ (y : Ext r). chain_plan r side y >>= λ c. ready (record { ext = y; chain = c }) in
      let a = bound (ext_plan r side i x) after units left b ends in
      let y = a.value in
      let E = ext_is r side i fs x X units a.between y a.first in
      let d = bound (chain_plan r side y) (λ c. ready (record { ext = y; chain = c })) a.between left b a.second in
      let c = d.value in
      let g = length y.cocycles.found.columns in
      let wide : length y.u.columns ≡ g = shape_columns p n g g y.u E.presents.morphism_fits in
      let square : HasShape p n (length y.u.columns) (length y.u.columns) y.u = subst (λ k. HasShape p n k k y.u) (sym wide) E.presents.morphism_fits in
      let relations : HasShape p n (length y.u.columns) (length y.relations.found.columns) y.relations.found = subst (λ k. HasShape p n k (length y.relations.found.columns) y.relations.found) (sym wide) E.presents.relations_fit in
      let C = chain_from r side y.u y.relations.found square y.relations.graph E.relations.generating.graph E.relations.generating.graph_matrix relations a.between d.between c d.first in
      let made : BaseOf r = record { ext = y; chain = c } in
      let is : Based made = record {
        facts = record { resolved = E.is_resolved; ext = E.presents; chain = C.chain; repeats = C.repeats };
        first = C.first;
        stable = C.graph;
        resolution = subst (Resolved r i fs) (sym E.same) X;
        relations = E.relations.generating.graph;
        relations_matrix = E.relations.generating.graph_matrix;
        cocycles = E.cocycles.generating.graph;
        cocycles_matrix = E.cocycles.generating.graph_matrix;
        links = C.graphs;
        count = C.count;
        stable_matrix = C.matrix;
      } in
      let same = same_value made b d.between left d.second in
      (subst Based same is, ap (λ (b : BaseOf r). b.ext.resolution) (sym same) ∙ E.same)

  pub base_is : (side : Side) (units left : ℕ) (b : BaseOf r) → Ends (base_plan r side i fs units) b left → Based b
  unfolding base_plan
  base_is side units left b ends =
      let a = bound (resolution_plan r side i fs) (base_of r side i) units left b ends in
      (base_from side a.value (resolution_is r side i fs units a.between a.value a.first) a.between left b a.second).0
