-- The `chain` tasks give the chain of kernels through its first repeat.
use Rattle.std.proofs.Common.{ℕ, zero, suc, ◌+◌, ◌<◌, ◌≡◌, List, [], ◌∷◌, ◌++◌, map, length, get_or, refl, sym, ap, ◌∙◌, subst, subst₂, arith}
use Rattle.std.proofs.lemmas.List.{length-append, length-map, get_or_append_left, get_or-append-add}
use native.Mathlib.Decide.{dec_lt}
use Rattle.fm_gfp.specs.declared.prime.Prime.{Prime}
use Rattle.fm_algebra.specs.PolynomialMatrices.{PolynomialMatrix, HasShape, GeneratesPreimage, matrix_twist, matrix_zero}
use Rattle.fm_limit.specs.ResolvedIdeal.{matrix_at}
use Rattle.fm_limit.specs.Facts.{ColumnsInImage, IsChain, IsFirstRepeat}
use Rattle.fm_limit.proofs.MatrixWords.{twist_fits, shape_rows}
use Rattle.fm_groebner.proofs.Numbers.{in_of_number}
use Rattle.fm_poly.specs.declared.ring.Ring.{Ring}
use Rattle.fm_run.specs.Runs.{ready, ◌>>=◌}
use Rattle.fm_run.specs.Turns.{Turn, repeated}
use Rattle.fm_graphs.specs.Graphs.{MatrixOf, Graph, Inside, all_inside, first_outside, width, inside_run}
use Rattle.fm_graphs.specs.Bounds.{twisted_matrix}
use Rattle.fm_graphs.specs.Trims.{Preimage, preimage_run}
use Rattle.fm_run.proofs.Ends.{Ends, same_value, bound, bounded_value, Leads, turns_lead}
use Rattle.fm_graphs.proofs.Columns.{solved_image}
use Rattle.fm_graphs.specs.Graphs.{IsCompletedGraph}
use Rattle.fm_graphs.proofs.Lifts.{Says, inside_is}
use Rattle.fm_graphs.proofs.Preimages.{IsPreimage, preimage_run_is}
use Rattle.fm_run.specs.declared.task.Side.{Side}
use Rattle.fm_run.specs.declared.task.Name.TheVariants.{Chain as ChainTask}
use Rattle.fm_plan.specs.Tasks.{out_of_units}
use Rattle.fm_plan.specs.Results.{Chain}
use Rattle.fm_plan.specs.Base.{Links, linked, chain_work, chain_turn}
use Rattle.fm_plan.proofs.Tasks.{task_ends, columns_in, in_columns}

pub map_append : {A B : Type 0} (f : A → B) (xs ys : List A) → map f (xs ++ ys) ≡ map f xs ++ map f ys
map_append f [] ys = refl
map_append f (x ∷ xs) ys = ap (λ zs. f x ∷ zs) (map_append f xs ys)

module _ (p : Prime) (n : ℕ) (Ks : List (PolynomialMatrix p n)) (K : PolynomialMatrix p n) where
  pub old_at : (k : ℕ) → k < length Ks → matrix_at p n (Ks ++ K ∷ []) k ≡ matrix_at p n Ks k
  unfolding matrix_at
  old_at k h = get_or_append_left Ks (K ∷ []) (matrix_zero p n 0 0) k h

  pub new_at : (k : ℕ) → k ≡ length Ks → matrix_at p n (Ks ++ K ∷ []) k ≡ K
  unfolding matrix_at
  new_at k h = ap (λ x. get_or (Ks ++ K ∷ []) x (matrix_zero p n 0 0)) (let e : k ≡ length Ks + 0 = omega (arith, h) in e) ∙ get_or-append-add Ks (K ∷ []) 0 (matrix_zero p n 0 0)

  -- a chain with one member more
  pub longer : (U : PolynomialMatrix p n) (s : ℕ) → length Ks ≡ suc s → IsChain p n U Ks s → HasShape p n (length U.columns) (length K.columns) K → GeneratesPreimage p n K U (matrix_twist p n 1 (matrix_at p n Ks s)) → IsChain p n U (Ks ++ K ∷ []) (suc s)
  longer U s l C shape step = record {
    fits = λ k h. elim (dec_lt k (suc s)) [
      | yes w ↦ subst (λ A. HasShape p n (length U.columns) (length A.columns) A) (sym (old_at k (omega (arith, w, l)))) (C.fits k (omega (arith, w)))
      | no w ↦ subst (λ A. HasShape p n (length U.columns) (length A.columns) A) (sym (new_at k (omega (arith, w, h, l)))) shape
    ];
    step = λ k h. elim (dec_lt k s) [
      | yes w ↦ subst₂ (λ A B. GeneratesPreimage p n A U (matrix_twist p n 1 B)) (sym (old_at (suc k) (omega (arith, w, l)))) (sym (old_at k (omega (arith, w, l)))) (C.step k w)
      | no w ↦
          let e : s ≡ k = omega (arith, w, h) in
          subst₂ (λ A B. GeneratesPreimage p n A U (matrix_twist p n 1 B)) (sym (new_at (suc k) (omega (arith, e, l)))) (ap (matrix_at p n Ks) e ∙ sym (old_at k (omega (arith, e, l)))) step
    ];
  }

module _ (r : Ring) where
  -- each link has a completed graph
  abbrev pub LinkGraphs : List (Preimage r) → Type 0
  LinkGraphs [] = Unit {0}
  LinkGraphs (x ∷ xs) = IsCompletedGraph r x.graph × (x.graph.matrix ≡ x.found) × LinkGraphs xs

  graphs_more : (xs : List (Preimage r)) (x : Preimage r) → LinkGraphs xs → IsCompletedGraph r x.graph → x.graph.matrix ≡ x.found → LinkGraphs (xs ++ x ∷ [])
  graphs_more [] x a g e = (g, e, tt)
  graphs_more (y ∷ xs) x a g e = (a.0, a.1, graphs_more xs x a.2 g e)

module _ (r : Ring) (side : Side) (U N : MatrixOf r) (square : HasShape r.prime r.vars (length U.columns) (length U.columns) U) where
  abbrev p : Prime
  p = r.prime

  abbrev n : ℕ
  n = r.vars

  abbrev pub Members : List (Preimage r) → List (MatrixOf r)
  Members links = N ∷ map (λ (y : Preimage r). y.found) links

  members_more : (links : List (Preimage r)) (x : Preimage r) → Members (links ++ x ∷ []) ≡ Members links ++ x.found ∷ []
  members_more links x = ap (λ Ks. N ∷ Ks) (map_append (λ (y : Preimage r). y.found) links (x ∷ []))

  -- the chain through K_s, which has not repeated yet
  record ChainTo (c : Links r) : Type 0 where
    graph : IsCompletedGraph r c.graph
    matrix : c.graph.matrix ≡ matrix_at p n (Members c.links) (length c.links)
    count : length c.growth ≡ length c.links
    chain : IsChain p n U (Members c.links) (length c.links)
    grows : IsFirstRepeat p n (Members c.links) (length c.links)
    graphs : LinkGraphs r c.links

  -- the whole chain
  pub record Repeats (c : Chain r) : Type 0 where
    pub graph : IsCompletedGraph r c.stable
    pub matrix : c.stable.matrix ≡ matrix_at p n (Members c.links) (length c.growth)
    pub chain : IsChain p n U (Members c.links) (suc (length c.growth))
    pub repeats : ColumnsInImage p n (matrix_at p n (Members c.links) (length c.growth)) (matrix_at p n (Members c.links) (suc (length c.growth)))
    pub first : IsFirstRepeat p n (Members c.links) (length c.growth)
    pub graphs : LinkGraphs r c.links
    pub count : length c.links ≡ suc (length c.growth)

  members_long : (links : List (Preimage r)) → length (Members links) ≡ suc (length links)
  members_long links = ap suc (length-map links (λ (y : Preimage r). y.found))

  -- one task
  module _ (c : Links r) (C : ChainTo c) (x : Preimage r) (J : IsPreimage r U (matrix_twist p n 1 c.graph.matrix) x) where
    abbrev s : ℕ
    s = length c.links

    abbrev Ks : List (MatrixOf r)
    Ks = Members c.links

    more : IsChain p n U (Members (c.links ++ x ∷ [])) (suc s)
    more = subst (λ Ms. IsChain p n U Ms (suc s)) (sym (members_more c.links x))
        (longer p n Ks x.found U s (members_long c.links) C.chain J.generating.found_shape (subst (λ K. GeneratesPreimage p n x.found U (matrix_twist p n 1 K)) C.matrix J.generates))

    at_last : matrix_at p n (Members (c.links ++ x ∷ [])) s ≡ c.graph.matrix
    at_last = ap (λ Ms. matrix_at p n Ms s) (members_more c.links x) ∙ old_at p n Ks x.found s (let l = members_long c.links in omega (arith, l)) ∙ sym C.matrix

    at_new : matrix_at p n (Members (c.links ++ x ∷ [])) (suc s) ≡ x.found
    at_new = ap (λ Ms. matrix_at p n Ms (suc s)) (members_more c.links x) ∙ new_at p n Ks x.found (suc s) (sym (members_long c.links))

    -- what had not repeated has not
    still : (k : ℕ) → k < s → ColumnsInImage p n (matrix_at p n (Members (c.links ++ x ∷ [])) k) (matrix_at p n (Members (c.links ++ x ∷ [])) (suc k)) → ⊥
    still k h i =
        let l = members_long c.links in
        C.grows k h (subst₂ (λ A B. ColumnsInImage p n A B) (ap (λ Ms. matrix_at p n Ms k) (members_more c.links x) ∙ old_at p n Ks x.found k (omega (arith, h, l)))
        (ap (λ Ms. matrix_at p n Ms (suc k)) (members_more c.links x) ∙ old_at p n Ks x.found (suc k) (omega (arith, h, l))) i)

    grown : length (c.links ++ x ∷ []) ≡ suc s
    grown = length-append c.links (x ∷ []) ∙ omega arith

    linked_leads : (y : Inside r) → Says r c.graph C.graph 1 x.found.columns y → Leads (out_of_units side ChainTask) (chain_turn r side U) ChainTo Repeats (linked r c x y)
    linked_leads (all_inside ws) says = record {
      graph = C.graph;
      matrix = sym (ap (matrix_at p n (Members (c.links ++ x ∷ []))) C.count ∙ at_last);
      chain = subst (λ t. IsChain p n U (Members (c.links ++ x ∷ [])) (suc t)) (sym C.count) more;
      repeats = subst (λ t. ColumnsInImage p n (matrix_at p n (Members (c.links ++ x ∷ [])) t) (matrix_at p n (Members (c.links ++ x ∷ [])) (suc t))) (sym C.count)
          (subst₂ (λ A B. ColumnsInImage p n A B) (sym at_last) (sym at_new) (columns_in r c.graph.matrix x.found (λ v i. solved_image p n c.graph.matrix x.found.columns ws says v i)));
      first = subst (IsFirstRepeat p n (Members (c.links ++ x ∷ []))) (sym C.count) still;
      graphs = graphs_more r c.links x C.graphs J.generating.graph J.generating.graph_matrix;
      count = grown ∙ ap suc (sym C.count);
    }
    linked_leads (first_outside o) says = record {
      graph = J.generating.graph;
      matrix = J.generating.graph_matrix ∙ sym at_new ∙ ap (matrix_at p n (Members (c.links ++ x ∷ []))) (sym grown);
      count = length-append c.growth (o ∷ []) ∙ ap (λ k. k + 1) C.count ∙ sym (length-append c.links (x ∷ []));
      chain = subst (IsChain p n U (Members (c.links ++ x ∷ []))) (sym grown) more;
      graphs = graphs_more r c.links x C.graphs J.generating.graph J.generating.graph_matrix;
      grows = subst (IsFirstRepeat p n (Members (c.links ++ x ∷ []))) (sym grown) (λ k h i. elim (dec_lt k s) [
        | yes w ↦ still k w i
        | no w ↦
            let e : k ≡ s = omega (arith, w, h) in
            says.outside (in_columns r c.graph.matrix x.found (subst₂ (λ A B. ColumnsInImage p n A B) at_last at_new
            (subst (λ k. ColumnsInImage p n (matrix_at p n (Members (c.links ++ x ∷ [])) k) (matrix_at p n (Members (c.links ++ x ∷ [])) (suc k))) e i)) says.v (in_of_number says.at))
      ]);
    }

  turn_leads : (c : Links r) (units left : ℕ) (t : Turn (Links r) (Chain r)) → ChainTo c → Ends (chain_turn r side U c units) t left → Leads (out_of_units side ChainTask) (chain_turn r side U) ChainTo Repeats t
  unfolding chain_work twisted_matrix
  turn_leads c units left t C ends =
      let g = length U.columns in
      let e = task_ends side ChainTask (suc (length c.growth)) (chain_work r U c) units left t ends in
      let after_x = λ (x : Preimage r). inside_run r x.found c.graph >>= λ y. ready (linked r c x y) in
      let a = bound (twisted_matrix p n 1 c.graph.matrix) (λ K. preimage_run r U K >>= after_x) units left t e in
      let K_is : matrix_twist p n 1 c.graph.matrix ≡ a.value = bounded_value _ (matrix_twist p n 1 c.graph.matrix) a.value units a.between a.first in
      let b = bound (preimage_run r U a.value) after_x a.between left t a.second in
      let x = b.value in
      let member : HasShape p n g (width r c.graph) c.graph.matrix = subst (λ (K : MatrixOf r). HasShape p n g (length K.columns) K) (sym C.matrix) (C.chain.fits (length c.links) (omega arith)) in
      let J = preimage_run_is r g g (width r c.graph) U (matrix_twist p n 1 c.graph.matrix) square (twist_fits p n 1 g (width r c.graph) c.graph.matrix member) a.between b.between x
      (subst (λ K. Ends (preimage_run r U K a.between) x b.between) (sym K_is) b.first) in
      let d = bound (inside_run r x.found c.graph) (λ y. ready (linked r c x y)) b.between left t b.second in
      let says = inside_is r c.graph C.graph x.found (length x.found.columns) (subst (λ k. HasShape p n k (length x.found.columns) x.found) (sym (shape_rows p n g (width r c.graph) c.graph.matrix member)) J.generating.found_shape) b.between d.between d.value d.first in
      subst (Leads (out_of_units side ChainTask) (chain_turn r side U) ChainTo Repeats) (same_value (linked r c x d.value) t d.between left d.second) (linked_leads c C x J d.value says)

  pub chain_from : (g : Graph r) → IsCompletedGraph r g → g.matrix ≡ N → HasShape p n (length U.columns) (length N.columns) N → (units left : ℕ) (c : Chain r)
      → Ends (repeated (out_of_units side ChainTask) (chain_turn r side U) (record { links = []; growth = []; graph = g }) units) c left → Repeats c
  unfolding matrix_at
  chain_from g G e shape units left c ends = turns_lead (out_of_units side ChainTask) (chain_turn r side U) ChainTo Repeats turn_leads units (record { links = []; growth = []; graph = g }) units left c (record {
    graph = G;
    matrix = e;
    count = refl;
    chain = record { fits = λ s h. first_fits s (omega (arith, h)); step = λ s h. absurd (omega (arith, h)) };
    grows = λ s h. absurd (omega (arith, h));
    graphs = tt;
  }) ends
    where
      first_fits : (s : ℕ) → s ≡ 0 → HasShape p n (length U.columns) (length (matrix_at p n (N ∷ []) s).columns) (matrix_at p n (N ∷ []) s)
      first_fits zero h = shape
      first_fits (suc s) h = absurd (omega arith)
