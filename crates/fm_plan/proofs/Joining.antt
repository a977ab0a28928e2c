-- The `onto` tasks, and the plan of an induced map.
use Rattle.std.proofs.Common.{ℕ, zero, suc, ◌+◌, ◌≡◌, ◌↔◌, true, Some, None, List, [], ◌∷◌, ◌++◌, map, length, refl, sym, ap, ◌∙◌, subst, subst₂, arith}
use Rattle.std.proofs.lemmas.Bool.{false≢true}
use Rattle.std.proofs.lemmas.List.{length-append, length-map}
use Rattle.fm_gfp.specs.declared.prime.Prime.{Prime}
use Rattle.fm_algebra.specs.PolynomialMatrices.{HasShape, InImage, GeneratesPreimage, matrix_beside, matrix_unit, matrix_twist}
use Rattle.fm_limit.specs.ResolvedIdeal.{matrix_at}
use Rattle.fm_limit.specs.Facts.{ColumnsInImage, IsEverything, IsChain, JoinFacts}
use Rattle.fm_limit.proofs.MatrixWords.{twist_fits, shape_rows, shape_columns, beside_fits}
use Rattle.fm_poly.specs.declared.ring.Ring.{Ring}
use Rattle.fm_run.specs.Runs.{ready, ◌>>=◌}
use Rattle.fm_run.specs.Turns.{Turn, last}
use Rattle.fm_graphs.specs.Graphs.{MatrixOf, Graph, Outside, Inside, all_inside, first_outside, width, graph_run, inside_run, whole_run}
use Rattle.fm_graphs.specs.Bounds.{twisted_matrix}
use Rattle.fm_graphs.specs.Trims.{Preimage, preimage_run}
use Rattle.fm_run.proofs.Ends.{Ends, same_value, bound, bounded_value, Leads, turns_lead}
use Rattle.fm_graphs.specs.Graphs.{IsCompletedGraph}
use Rattle.fm_graphs.proofs.Graphs.{graph_is}
use Rattle.fm_graphs.proofs.Lifts.{Says, inside_is, whole_is}
use Rattle.fm_graphs.proofs.Preimages.{own_shape, IsPreimage, preimage_run_is}
use Rattle.fm_run.specs.declared.task.Side.TheVariants.{Alone}
use Rattle.fm_plan.specs.Tasks.{out_of_units, task}
use Rattle.fm_plan.specs.Queries.{is_yes, Joins, Onto, onto_at, never_onto, join_settled, join_next, join_turn, joined, join_work, onto_plan}
use Rattle.fm_plan.proofs.Tasks.{task_ends}
use Rattle.fm_plan.proofs.Chains.{old_at, new_at, map_append, longer}
use Rattle.fm_plan.proofs.Bases.{says_decides}
use Rattle.fm_run.specs.declared.task.Name.TheVariants as names

module _ (r : Ring) (N Phi U : MatrixOf r) (rows : ℕ) (square : HasShape r.prime r.vars rows rows U) (n_shape : HasShape r.prime r.vars rows (length N.columns) N) (phi_shape : HasShape r.prime r.vars rows (length Phi.columns) Phi) where
  abbrev p : Prime
  p = r.prime

  abbrev n : ℕ
  n = r.vars

  abbrev J : MatrixOf r
  J = matrix_beside p n N Phi

  abbrev Members : Graph r → List (Preimage r) → List (MatrixOf r)
  Members g xs = g.matrix ∷ map (λ (x : Preimage r). x.found) xs

  abbrev pub OntoSays : Onto r → Type 0
  OntoSays (onto_at first links w before) = (Ws : List (MatrixOf r)) × JoinFacts p n N Phi U Ws (length links) × IsEverything p n (matrix_at p n Ws (length links)) × ((k : ℕ) → suc k ≡ length links → ¬ (IsEverything p n (matrix_at p n Ws k)))
  OntoSays (never_onto first links w proper) = (Ws : List (MatrixOf r)) × (t : ℕ) × JoinFacts p n N Phi U Ws (suc t) × ColumnsInImage p n (matrix_at p n Ws t) (matrix_at p n Ws (suc t)) × ¬ (IsEverything p n (matrix_at p n Ws t))

  module _ (g : Graph r) (G : IsCompletedGraph r g) (is : g.matrix ≡ J) where
    -- the members so far, the last of which isn't everything
    record JoinsTo (c : Joins r) : Type 0 where
      graph : IsCompletedGraph r c.graph
      matrix : c.graph.matrix ≡ matrix_at p n (Members g c.links) (length c.links)
      chain : IsChain p n U (Members g c.links) (length c.links)
      proper : ¬ (IsEverything p n c.graph.matrix)

    lead : Turn (Joins r) (Onto r) → Type 0
    lead t = Leads (out_of_units Alone names.Onto) (join_turn r U g) JoinsTo OntoSays t

    facts_of : (links : List (Preimage r)) (t : ℕ) → IsChain p n U (Members g links) t → JoinFacts p n N Phi U (Members g links) t
    unfolding matrix_at
    facts_of links t C = record { begins = λ v. subst (λ A. InImage p n A v ↔ InImage p n J v) (sym is) ((λ x. x), (λ x. x)); chain = C }

    module _ (c : Joins r) (W : JoinsTo c) (x : Preimage r) (Q : IsPreimage r U (matrix_twist p n 1 c.graph.matrix) x) where
      abbrev s : ℕ
      s = length c.links

      abbrev Ws : List (MatrixOf r)
      Ws = Members g (c.links ++ x ∷ [])

      ws_are : Ws ≡ Members g c.links ++ x.found ∷ []
      ws_are = ap (λ Ms. g.matrix ∷ Ms) (map_append (λ (y : Preimage r). y.found) c.links (x ∷ []))

      long : length (Members g c.links) ≡ suc s
      long = ap suc (length-map c.links (λ (y : Preimage r). y.found))

      more : IsChain p n U Ws (suc s)
      more = subst (λ Ms. IsChain p n U Ms (suc s)) (sym ws_are) (longer p n (Members g c.links) x.found U s long W.chain Q.generating.found_shape (subst (λ K. GeneratesPreimage p n x.found U (matrix_twist p n 1 K)) W.matrix Q.generates))

      at_last : matrix_at p n Ws s ≡ c.graph.matrix
      at_last = ap (λ Ms. matrix_at p n Ms s) ws_are ∙ old_at p n (Members g c.links) x.found s (let l = long in omega (arith, l)) ∙ sym W.matrix

      at_new : matrix_at p n Ws (suc s) ≡ x.found
      at_new = ap (λ Ms. matrix_at p n Ms (suc s)) ws_are ∙ new_at p n (Members g c.links) x.found (suc s) (sym long)

      grown : length (c.links ++ x ∷ []) ≡ suc s
      grown = length-append c.links (x ∷ []) ∙ omega arith

      settled_leads : (o : Outside) → ¬ (IsEverything p n x.found) → (z : Inside r) → Says r c.graph W.graph 1 x.found.columns z → lead (join_settled r g c x o z)
      unfolding lead
      settled_leads o improper (all_inside ws) says = (
        Ws,
        s,
        facts_of (c.links ++ x ∷ []) (suc s) more,
        subst₂ (λ A B. ColumnsInImage p n A B) (sym at_last) (sym at_new) ((says_decides r c.graph W.graph x.found (all_inside ws) says).0 refl),
        λ e. W.proper (subst (IsEverything p n) at_last e),
      )
      settled_leads o improper (first_outside o') says = record {
        graph = Q.generating.graph;
        matrix = Q.generating.graph_matrix ∙ sym at_new ∙ ap (matrix_at p n Ws) (sym grown);
        chain = subst (IsChain p n U Ws) (sym grown) more;
        proper = λ e. improper (subst (IsEverything p n) Q.generating.graph_matrix e);
      }

      same_rows : x.found.rows ≡ c.graph.matrix.rows
      same_rows =
          shape_rows p n (length U.columns) (length x.found.columns) x.found Q.generating.found_shape
          ∙ sym (shape_rows p n (length U.columns) (length (matrix_at p n (Members g c.links) s).columns) (matrix_at p n (Members g c.links) s) (W.chain.fits s (omega arith))) ∙ sym (ap (λ (A : MatrixOf r). A.rows) W.matrix)

      next_leads : (y : Inside r) → (is_yes r y ≡ true) ↔ IsEverything p n x.found → (units left : ℕ) (t : Turn (Joins r) (Onto r)) → Ends (join_next r g c x y units) t left → lead t
      unfolding lead
      next_leads (all_inside ws) d units left t ends = subst lead (same_value (last (onto_at g (c.links ++ x ∷ []) (record { rows = width r x.graph; columns = ws }) (Some c.proper))) t units left ends) (
        Ws,
        subst (JoinFacts p n N Phi U Ws) (sym grown) (facts_of (c.links ++ x ∷ []) (suc s) more),
        subst (λ k. IsEverything p n (matrix_at p n Ws k)) (sym grown) (subst (IsEverything p n) (sym at_new) (d.0 refl)),
        λ k e l. W.proper (subst (IsEverything p n) (ap (matrix_at p n Ws) (let q = grown in let h : k ≡ s = omega (arith, e, q) in h) ∙ at_last) l),
      )
      next_leads (first_outside o) d units left t ends =
          let a = bound (inside_run r x.found c.graph) (λ z. ready (join_settled r g c x o z)) units left t ends in
          let says = inside_is r c.graph W.graph x.found (length x.found.columns) (subst (λ k. HasShape p n k (length x.found.columns) x.found)
          (sym (shape_rows p n (length U.columns) (length x.found.columns) x.found Q.generating.found_shape) ∙ same_rows) Q.generating.found_shape) units a.between a.value a.first in
          subst lead (same_value (join_settled r g c x o a.value) t a.between left a.second) (settled_leads o (λ e. false≢true (d.1 e)) a.value says)

    turn_leads : (c : Joins r) (units left : ℕ) (t : Turn (Joins r) (Onto r)) → JoinsTo c → Ends (join_turn r U g c units) t left → lead t
    unfolding twisted_matrix
    turn_leads c units left t W ends =
        let K = c.graph.matrix in
        let after = λ (x : Preimage r). whole_run r x.graph >>= join_next r g c x in
        let work = twisted_matrix p n 1 K >>= λ L. preimage_run r U L >>= after in
        let e = task_ends Alone names.Onto (suc (length c.links)) work units left t ends in
        let a = bound (twisted_matrix p n 1 K) (λ L. preimage_run r U L >>= after) units left t e in
        let L_is : matrix_twist p n 1 K ≡ a.value = bounded_value _ (matrix_twist p n 1 K) a.value units a.between a.first in
        let b = bound (preimage_run r U a.value) after a.between left t a.second in
        let x = b.value in
        let wide : length U.columns ≡ rows = shape_columns p n rows rows U square in
        let k_shape : HasShape p n rows (width r c.graph) K = subst₂ (λ k A. HasShape p n k (length A.columns) A) wide (sym W.matrix) (W.chain.fits (length c.links) (omega arith)) in
        let Q = preimage_run_is r rows rows (width r c.graph) U (matrix_twist p n 1 K) square (twist_fits p n 1 rows (width r c.graph) K k_shape) a.between b.between x
        (subst (λ L. Ends (preimage_run r U L a.between) x b.between) (sym L_is) b.first) in
        let d = bound (whole_run r x.graph) (join_next r g c x) b.between left t b.second in
        let D = Q.generating in
        let decides = says_decides r x.graph D.graph (matrix_unit p n x.graph.matrix.rows) d.value (whole_is r x.graph D.graph b.between d.between d.value d.first) in
        next_leads c W x Q d.value (subst (λ A. (is_yes r d.value ≡ true) ↔ IsEverything p n A) D.graph_matrix decides) d.between left t d.second

    first_shape : HasShape p n rows (width r g) g.matrix
    first_shape = subst₂ (λ k A. HasShape p n rows k A) (sym (ap (λ (A : MatrixOf r). length A.columns) is ∙ shape_columns p n rows (length N.columns + length Phi.columns) J (beside_fits p n rows (length N.columns) (length Phi.columns) N Phi n_shape phi_shape))) (sym is)
        (beside_fits p n rows (length N.columns) (length Phi.columns) N Phi n_shape phi_shape)

    start : IsChain p n U (g.matrix ∷ []) 0
    unfolding matrix_at
    start = record { fits = λ s h. fits s (omega (arith, h)); step = λ s h. absurd (omega (arith, h)) }
      where
        fits : (s : ℕ) → s ≡ 0 → HasShape p n (length U.columns) (length (matrix_at p n (g.matrix ∷ []) s).columns) (matrix_at p n (g.matrix ∷ []) s)
        fits zero h = subst (λ k. HasShape p n k (width r g) g.matrix) (sym (shape_columns p n rows rows U square)) first_shape
        fits (suc s) h = absurd (omega arith)

    joined_is : (y : Inside r) → (is_yes r y ≡ true) ↔ IsEverything p n g.matrix → (units left : ℕ) (s : Onto r) → Ends (joined r U (g, y) units) s left → OntoSays s
    unfolding matrix_at lead
    joined_is (all_inside ws) d units left s ends = subst OntoSays (same_value (onto_at g [] (record { rows = width r g; columns = ws }) None) s units left ends)
        (g.matrix ∷ [], facts_of [] 0 start, d.0 refl, λ k e. absurd (omega (arith, e)))
    joined_is (first_outside o) d units left s ends = turns_lead (out_of_units Alone names.Onto) (join_turn r U g) JoinsTo OntoSays turn_leads units (record { links = []; graph = g; proper = o }) units left s (record {
      graph = G;
      matrix = refl;
      chain = start;
      proper = λ e. false≢true (d.1 e);
    }) ends

  pub onto_is : (units left : ℕ) (s : Onto r) → Ends (onto_plan r N Phi U units) s left → OntoSays s
  unfolding onto_plan join_work
  onto_is units left s ends =
      let a = bound (task Alone names.Onto 0 (join_work r J)) (joined r U) units left s ends in
      let e = task_ends Alone names.Onto 0 (join_work r J) units a.between a.value a.first in
      let b = bound (graph_run r J) (λ g. whole_run r g >>= λ y. ready (g, y)) units a.between a.value e in
      let g = b.value in
      let H = graph_is r J (own_shape r rows (length N.columns + length Phi.columns) J (beside_fits p n rows (length N.columns) (length Phi.columns) N Phi n_shape phi_shape)) units b.between g b.first in
      let c = bound (whole_run r g) (λ y. ready (g, y)) b.between a.between a.value b.second in
      let decides = says_decides r g H.0 (matrix_unit p n g.matrix.rows) c.value (whole_is r g H.0 b.between c.between c.value c.first) in
      joined_is g H.0 H.1 c.value decides a.between left s (subst (λ q. Ends (joined r U q a.between) s left) (sym (same_value (g, c.value) a.value c.between a.between c.second)) a.second)
