-- The sizes of what a plan finds of a map are within its units and what is asked with; all queries.
use Rattle.std.proofs.Common.{ℕ, zero, suc, ◌+◌, ◌<◌, ◌≤◌, if◌then◌else◌, Bool, true, false, Some, None, List, [], ◌∷◌, ◌++◌, map, length, take, sym, subst, arith}
use Rattle.std.proofs.lemmas.List.{length-append}
use Rattle.fm_algebra.specs.PolynomialMatrices.{matrix_unit, matrix_transpose, matrix_beside}
use Rattle.fm_limit.specs.ResolvedIdeal.{matrix_at}
use Rattle.fm_poly.specs.declared.ring.Ring.{Ring}
use Rattle.fm_complete.specs.Completions.{completed}
use Rattle.fm_complete.specs.Reductions.{Reduced, divided}
use Rattle.fm_complete.proofs.Spending.{divided_run_spends}
use Rattle.fm_complete.proofs.CompletionSpending.{completed_spends}
use Rattle.fm_run.specs.Runs.{Spends, ready, ◌>>=◌}
use Rattle.fm_run.specs.Turns.{Turn, last}
use Rattle.fm_run.proofs.Ends.{Ends, same_value, bound}
use Rattle.fm_run.proofs.Counting.{same_left, same_end, left_of, LeadsLeft, turns_lead_left}
use Rattle.fm_run.proofs.Spending.{then_spends}
use Rattle.fm_term.specs.declared.vterm.VTerm.{VTerm}
use Rattle.fm_graphs.specs.Listing.{VectorOf, terms_of}
use Rattle.fm_graphs.specs.Graphs.{MatrixOf, Graph, Outside, Inside, all_inside, first_outside, width, graph_run, lifted, inside_run, whole_run}
use Rattle.fm_graphs.specs.Bounds.{multiplied, twisted_matrix}
use Rattle.fm_graphs.specs.Trims.{Preimage, is_zero, preimage_run}
use Rattle.fm_graphs.specs.Sizes.{IsMatrixAtMost, IsInsideAtMost, IsPreimageAtMost}
use Rattle.fm_graphs.proofs.Spending.{graph_spends, lifted_spends, preimage_spends, twist_spends}
use Rattle.fm_graphs.proofs.Sizes.{graph_size, whole_size, beside_rows, beside_columns, lifted_size, inside_size, inside_spends, whole_spends, inside_at_most, IsPaid, inside_paid, whole_paid, preimage_size, multiplied_columns, multiplied_spends}
use Rattle.fm_run.specs.declared.task.Side.TheVariants.{Alone, Source, Target}
use Rattle.fm_plan.specs.Tasks.{not_contained, task, out_of_units}
use Rattle.fm_plan.specs.Results.{Ideal, graphs_of, differentials_of}
use Rattle.fm_plan.specs.Queries.{BaseOf, base_plan, contained_from, contained_work, unless, over_identity, fibre_work, phi_work, Joins, join_settled, join_next, join_turn, joined, join_work, onto_plan, compared, mapped, Onto, onto_at, Found, found_map, Query, ask_zero, ask_class, ask_root, ask_invert, ask_support, ask_map, ask_member, ask_resolution, ask_ext, plan}
use Rattle.fm_plan.specs.Sizes.{AreMatricesAtMost, ArePreimagesAtMost, IsBaseAtMost, IsOntoAtMost, HasSizes, size_of}
use Rattle.fm_plan.proofs.Tasks.{task_ends}
use Rattle.fm_plan.proofs.SizesOfBases.{preimages_more, AreGraphsAtMost, graphs_taken, graphs_at_most, differentials_at_most, unit_at_most, base_sizes}
use Rattle.fm_plan.proofs.SizesOfAnswers.{zero_sizes, root_sizes, resolution_sizes_found, ext_sizes_found, member_sizes, support_sizes, class_sizes, invert_sizes, unless_left}
use Rattle.fm_run.specs.declared.task.Name.TheVariants as names

module _ (r : Ring) (most : ℕ) where
  -- ---- lambda and phi
  -- a product lifted through the graph has the graph's width as its rows, and the columns of the second factor
  product_sizes : (A B : MatrixOf r) (g : Graph r) → length B.columns ≤ most → width r g ≤ most → (units left : ℕ) (W : MatrixOf r) → Ends ((multiplied r.prime r.vars A B >>= λ C. lifted r g C.columns) units) W left
      → IsMatrixAtMost r most W × (left ≤ units)
  product_sizes A B g columns rows units left W ends =
      let b = bound (multiplied r.prime r.vars A B) (λ C. lifted r g C.columns) units left W ends in
      let s = lifted_size r g b.value.columns b.between left W b.second in
      let s_rows = s.0 in
      let s_columns = s.1 in
      let product = multiplied_columns r A B units b.between b.value b.first in
      let x = left_of (multiplied r.prime r.vars A B) units b.between b.value (multiplied_spends r A B) b.first in
      let y = left_of (lifted r g b.value.columns) b.between left W (lifted_spends r g b.value.columns) b.second in
      (record { rows = omega (arith, s_rows, rows); columns = omega (arith, s_columns, product, columns) }, omega (arith, x, y))

  identity_sizes : (j : ℕ) (lambda : MatrixOf r) (ds : List (MatrixOf r)) (gs : List (Graph r)) → AreMatricesAtMost r most ds → AreGraphsAtMost r most gs → (units left : ℕ) (lambdas : List (MatrixOf r)) → Ends (over_identity r j lambda ds gs units) lambdas left
      → AreMatricesAtMost r most lambdas × (left ≤ units)
  identity_sizes j lambda [] gs D G units left lambdas ends = same_end (λ (As : List (MatrixOf r)) left. AreMatricesAtMost r most As × (left ≤ units)) [] lambdas units left ends (tt, omega arith)
  identity_sizes j lambda (d ∷ ds) [] D G units left lambdas ends = same_end (λ (As : List (MatrixOf r)) left. AreMatricesAtMost r most As × (left ≤ units)) [] lambdas units left ends (tt, omega arith)
  identity_sizes j lambda (d ∷ ds) (g ∷ gs) D G units left lambdas ends =
      let work = multiplied r.prime r.vars lambda d >>= λ B. lifted r g B.columns in
      let b = bound (task Alone names.Lambda j work) (λ next. over_identity r (suc j) next ds gs >>= λ later. ready (next ∷ later)) units left lambdas ends in
      let c = bound (over_identity r (suc j) b.value ds gs) (λ later. ready (b.value ∷ later)) b.between left lambdas b.second in
      let own = product_sizes lambda d g D.0.columns G.0.matrix.columns units b.between b.value (task_ends Alone names.Lambda j work units b.between b.value b.first) in
      let later = identity_sizes (suc j) b.value ds gs D.1 G.1 b.between c.between c.value c.first in
      let x = own.1 in
      let y = later.1 in
      same_end (λ (As : List (MatrixOf r)) left. AreMatricesAtMost r most As × (left ≤ units)) (b.value ∷ c.value) lambdas c.between left c.second ((own.0, later.0), omega (arith, x, y))

  matrices_taken : (i : ℕ) (As : List (MatrixOf r)) → AreMatricesAtMost r most As → AreMatricesAtMost r most (take i As)
  matrices_taken zero As w = tt
  matrices_taken (suc i) [] w = tt
  matrices_taken (suc i) (A ∷ As) w = (w.0, matrices_taken i As w.1)

  phi_sizes : (lambda z : MatrixOf r) (g : Graph r) → length z.columns ≤ most → width r g ≤ most → (units left : ℕ) (phi : MatrixOf r) → Ends (phi_work r lambda z g units) phi left → IsMatrixAtMost r most phi × (left ≤ units)
  unfolding phi_work
  phi_sizes lambda z g columns rows units left phi ends = product_sizes (matrix_transpose r.prime r.vars lambda) z g columns rows units left phi ends

  -- ---- the fibre
  fibre_sizes : (phi K : MatrixOf r) (g : Graph r) → IsMatrixAtMost r most phi → (units left : ℕ) (y : Preimage r × Inside r) → units < most → Ends (fibre_work r phi K g units) y left
      → IsPreimageAtMost r most y.0 × IsInsideAtMost r most y.1 × (left < most)
  unfolding fibre_work
  fibre_sizes phi K g h units left y enough ends =
      let a = bound (preimage_run r phi K) (λ x. inside_run r x.found g >>= λ y. ready (x, y)) units left y ends in
      let Q = preimage_size r most phi K h.columns units a.between a.value (omega (arith, enough)) a.first in
      let d = bound (inside_run r a.value.found g) (λ y. ready (a.value, y)) a.between left y a.second in
      let x = left_of (preimage_run r phi K) units a.between a.value (preimage_spends r phi K) a.first in
      let z = left_of (inside_run r a.value.found g) a.between d.between d.value (inside_spends r a.value.found g) d.first in
      same_end (λ (y : Preimage r × Inside r) left. IsPreimageAtMost r most y.0 × IsInsideAtMost r most y.1 × (left < most)) (a.value, d.value) y d.between left d.second
      (Q, inside_at_most r most (length a.value.found.columns) d.value Q.found.columns (inside_size r a.value.found g a.between d.between d.value d.first), omega (arith, x, z, enough))

  -- ---- onto
  -- the members so far: each has cost a unit
  record JoinsAtMost (c : Joins r) (left : ℕ) : Type 0 where
    links : ArePreimagesAtMost r most c.links
    paid : length c.links + left < most
    graph : IsMatrixAtMost r (most + most) c.graph.matrix

  twice : (A : MatrixOf r) → IsMatrixAtMost r most A → IsMatrixAtMost r (most + most) A
  twice A w = let h = w.rows in let k = w.columns in record { rows = omega (arith, h); columns = omega (arith, k) }

  -- solutions through a graph
  solved : (g : Graph r) (n : ℕ) (ws : List (VectorOf r)) → IsMatrixAtMost r (most + most) g.matrix → n ≤ most → IsInsideAtMost r n (all_inside ws) → IsMatrixAtMost r (most + most) (record { rows = width r g; columns = ws })
  solved g n ws w h k = record { rows = w.columns; columns = omega (arith, h, k) }

  module _ (U : MatrixOf r) (u_sizes : IsMatrixAtMost r most U) (g : Graph r) (g_sizes : IsMatrixAtMost r (most + most) g.matrix) where
    abbrev Done : Onto r → ℕ → Type 0
    Done s left = IsOntoAtMost r most s

    lead : Turn (Joins r) (Onto r) → ℕ → Type 0
    lead t left = LeadsLeft (out_of_units Alone names.Onto) (join_turn r U g) JoinsAtMost Done t left

    settled_sizes : (c : Joins r) (x : Preimage r) (o : Outside) (y : Inside r) (units between left : ℕ) → JoinsAtMost c units → IsPreimageAtMost r most x → between < units → IsPaid r between left y → IsInsideAtMost r (length x.found.columns) y → lead (join_settled r g c x o y) left
    unfolding lead
    settled_sizes c x o (all_inside ws) units between left w h spent paid some =
        let longer = length-append c.links (x ∷ []) in
        let before = w.paid in
        (preimages_more r most c.links x w.links h, omega (arith, longer, before), g_sizes, solved c.graph (length x.found.columns) ws w.graph h.found.columns some)
    settled_sizes c x o (first_outside o') units between left w h spent paid some =
        let longer = length-append c.links (x ∷ []) in
        let before = w.paid in
        record { links = preimages_more r most c.links x w.links h; paid = omega (arith, longer, before, spent, paid); graph = twice x.graph.matrix h.graph.matrix }

    next_sizes : (c : Joins r) (x : Preimage r) (units : ℕ) → JoinsAtMost c units → IsPreimageAtMost r most x → (before between : ℕ) → before ≤ units → (y : Inside r) → IsPaid r before between y → IsInsideAtMost r x.graph.matrix.rows y → (left : ℕ) (t : Turn (Joins r) (Onto r)) → Ends (join_next r g c x y between) t left → lead t left
    unfolding lead
    next_sizes c x units w h before between spent (all_inside ws) paid some left t ends =
        let longer = length-append c.links (x ∷ []) in
        let held = w.paid in
        same_end lead (last (onto_at g (c.links ++ x ∷ []) (record { rows = width r x.graph; columns = ws }) (Some c.proper))) t between left ends (preimages_more r most c.links x w.links h, omega (arith, longer, held), g_sizes, solved x.graph x.graph.matrix.rows ws (twice x.graph.matrix h.graph.matrix) h.graph.matrix.rows some)
    next_sizes c x units w h before between spent (first_outside o) paid some left t ends =
        let a = bound (inside_run r x.found c.graph) (λ z. ready (join_settled r g c x o z)) between left t ends in
        same_end lead (join_settled r g c x o a.value) t a.between left a.second
        (settled_sizes c x o a.value units between a.between w h (omega (arith, spent, paid)) (inside_paid r x.found c.graph between a.between a.value a.first) (inside_size r x.found c.graph between a.between a.value a.first))

    turn_sizes : (c : Joins r) (units left : ℕ) (t : Turn (Joins r) (Onto r)) → JoinsAtMost c units → Ends (join_turn r U g c units) t left → lead t left
    turn_sizes c units left t w ends =
        let K = c.graph.matrix in
        let after = λ (x : Preimage r). whole_run r x.graph >>= join_next r g c x in
        let work = twisted_matrix r.prime r.vars 1 K >>= λ L. preimage_run r U L >>= after in
        let e = task_ends Alone names.Onto (suc (length c.links)) work units left t ends in
        let a = bound (twisted_matrix r.prime r.vars 1 K) (λ L. preimage_run r U L >>= after) units left t e in
        let b = bound (preimage_run r U a.value) after a.between left t a.second in
        let k = left_of (twisted_matrix r.prime r.vars 1 K) units a.between a.value (twist_spends r 1 K) a.first in
        let l = left_of (preimage_run r U a.value) a.between b.between b.value (preimage_spends r U a.value) b.first in
        let held = w.paid in
        let Q = preimage_size r most U a.value u_sizes.columns a.between b.between b.value (omega (arith, held, k)) b.first in
        let d = bound (whole_run r b.value.graph) (join_next r g c b.value) b.between left t b.second in
        next_sizes c b.value units w Q b.between d.between (omega (arith, k, l)) d.value (whole_paid r b.value.graph b.between d.between d.value d.first) (whole_size r b.value.graph b.between d.between d.value d.first) left t d.second

    joined_sizes : g.matrix.rows ≤ most → (y : Inside r) → IsInsideAtMost r g.matrix.rows y → (units left : ℕ) (s : Onto r) → units < most → Ends (joined r U (g, y) units) s left → IsOntoAtMost r most s
    unfolding lead
    joined_sizes rows (all_inside ws) some units left s enough ends = subst (IsOntoAtMost r most) (same_value (onto_at g [] (record { rows = width r g; columns = ws }) None) s units left ends) (tt, omega arith, g_sizes, solved g g.matrix.rows ws g_sizes rows some)
    joined_sizes rows (first_outside o) some units left s enough ends =
        turns_lead_left (out_of_units Alone names.Onto) (join_turn r U g) JoinsAtMost Done turn_sizes units (record { links = []; graph = g; proper = o }) units left s (record { links = tt; paid = omega (arith, enough); graph = g_sizes }) ends

  beside_size : (N phi : MatrixOf r) → IsMatrixAtMost r most N → IsMatrixAtMost r most phi → IsMatrixAtMost r (most + most) (matrix_beside r.prime r.vars N phi) × ((matrix_beside r.prime r.vars N phi).rows ≤ most)
  beside_size N phi h k =
      let rows = beside_rows r N phi in
      let columns = beside_columns r N phi in
      let n_rows = h.rows in
      let n_columns = h.columns in
      let phi_columns = k.columns in
      (record { rows = omega (arith, rows, n_rows); columns = omega (arith, columns, n_columns, phi_columns) }, omega (arith, rows, n_rows))

  onto_sizes : (N phi U : MatrixOf r) → IsMatrixAtMost r most N → IsMatrixAtMost r most phi → IsMatrixAtMost r most U → (units left : ℕ) (s : Onto r) → units < most → Ends (onto_plan r N phi U units) s left → IsOntoAtMost r most s
  unfolding onto_plan join_work
  onto_sizes N phi U n_sizes phi_most w units left s enough ends =
      let J = matrix_beside r.prime r.vars N phi in
      let a = bound (task Alone names.Onto 0 (join_work r J)) (joined r U) units left s ends in
      let e = task_ends Alone names.Onto 0 (join_work r J) units a.between a.value a.first in
      let b = bound (graph_run r J) (λ g. whole_run r g >>= λ y. ready (g, y)) units a.between a.value e in
      let c = bound (whole_run r b.value) (λ y. ready (b.value, y)) b.between a.between a.value b.second in
      let x = left_of (graph_run r J) units b.between b.value (graph_spends r J) b.first in
      let y = left_of (whole_run r b.value) b.between c.between c.value (whole_spends r b.value) c.first in
      let z = same_left (b.value, c.value) a.value c.between a.between c.second in
      let beside = beside_size N phi n_sizes phi_most in
      let same = (graph_size r J units b.between b.value b.first).0 in
      joined_sizes U w b.value (subst (IsMatrixAtMost r (most + most)) same beside.0) (subst (λ (A : MatrixOf r). A.rows ≤ most) same beside.1) c.value (whole_size r b.value b.between c.between c.value c.first) a.between left s (omega (arith, x, y, z, enough))
      (subst (λ q. Ends (joined r U q a.between) s left) {y = (b.value, c.value)} (sym (same_value (b.value, c.value) a.value c.between a.between c.second)) a.second)

  -- ---- the map
  module _ (i : ℕ) (fs gs : Ideal r) (b c : BaseOf r) (B : IsBaseAtMost r most b) (C : IsBaseAtMost r most c) (one : 1 ≤ most) where
    compared_sizes : (ls : List (MatrixOf r)) (phi : MatrixOf r) → AreMatricesAtMost r most ls → IsMatrixAtMost r most phi → (units left : ℕ) (x : Found r) → units < most
        → Ends (compared r b c phi (λ null one s. found_map i fs gs b c ls phi null one.0 one.1 s) units) x left → HasSizes r most x
    unfolding compared
    compared_sizes ls phi w h units left x enough ends =
        let ending = λ (null : Inside r) (one : Preimage r × Inside r). onto_plan r c.ext.relations.found phi c.ext.u >>= λ s. ready (found_map i fs gs b c ls phi null one.0 one.1 s) in
        let null_work = inside_run r phi c.chain.stable in
        let one_work = fibre_work r phi c.chain.stable.matrix b.chain.stable in
        let nb = bound (task Alone names.Null 0 null_work) (λ null. task Alone names.One 0 one_work >>= ending null) units left x ends in
        let null_ends = task_ends Alone names.Null 0 null_work units nb.between nb.value nb.first in
        let null_left = left_of null_work units nb.between nb.value (inside_spends r phi c.chain.stable) null_ends in
        let ob = bound (task Alone names.One 0 one_work) (ending nb.value) nb.between left x nb.second in
        let F = fibre_sizes phi c.chain.stable.matrix b.chain.stable h nb.between ob.between ob.value (omega (arith, null_left, enough)) (task_ends Alone names.One 0 one_work nb.between ob.between ob.value ob.first) in
        let s = bound (onto_plan r c.ext.relations.found phi c.ext.u) (λ s. ready (found_map i fs gs b c ls phi nb.value (ob.value).0 (ob.value).1 s)) ob.between left x ob.second in
        subst (HasSizes r most) {x = found_map i fs gs b c ls phi nb.value (ob.value).0 (ob.value).1 s.value} (same_value (found_map i fs gs b c ls phi nb.value (ob.value).0 (ob.value).1 s.value) x s.between left s.second) (
          B,
          C,
          w,
          h,
          inside_at_most r most (length phi.columns) nb.value h.columns (inside_size r phi c.chain.stable units nb.between nb.value null_ends),
          F.0,
          F.1,
          onto_sizes c.ext.relations.found phi c.ext.u C.ext.relations.found h C.ext.u ob.between s.between s.value F.2 s.first,
        )

    mapped_sizes : (units left : ℕ) (x : Found r) → units < most → Ends (mapped r i fs gs b c units) x left → HasSizes r most x
    unfolding mapped
    mapped_sizes units left x enough ends =
        let unit = matrix_unit r.prime r.vars 1 in
        let ds = take i (differentials_of r c.ext.resolution) in
        let graphs = take i (graphs_of r b.ext.resolution) in
        let work = λ (lambdas : List (MatrixOf r)). phi_work r (matrix_at r.prime r.vars (unit ∷ lambdas) i) b.ext.cocycles.found c.ext.cocycles.graph in
        let ending = λ (lambdas : List (MatrixOf r)) (phi : MatrixOf r). compared r b c phi (λ null one s. found_map i fs gs b c (unit ∷ lambdas) phi null one.0 one.1 s) in
        let lb = bound (over_identity r 1 unit ds graphs) (λ lambdas. task Alone names.Phi 0 (work lambdas) >>= ending lambdas) units left x ends in
        let L = identity_sizes 1 unit ds graphs (matrices_taken i (differentials_of r c.ext.resolution) (differentials_at_most r most c.ext.resolution C.ext.resolution))
        (graphs_taken r most i (graphs_of r b.ext.resolution) (graphs_at_most r most b.ext.resolution B.ext.resolution)) units lb.between lb.value lb.first in
        let pb = bound (task Alone names.Phi 0 (work lb.value)) (ending lb.value) lb.between left x lb.second in
        let theta = matrix_at r.prime r.vars (unit ∷ lb.value) i in
        let P = phi_sizes theta b.ext.cocycles.found c.ext.cocycles.graph B.ext.cocycles.found.columns C.ext.cocycles.graph.matrix.columns lb.between pb.between pb.value
        (task_ends Alone names.Phi 0 (work lb.value) lb.between pb.between pb.value pb.first) in
        let k = L.1 in
        let l = P.1 in
        compared_sizes (unit ∷ lb.value) pb.value (unit_at_most r most one, L.0) P.0 pb.between left x (omega (arith, k, l, enough)) pb.second

  -- whether the ideals are contained
  contained_from_spends : (members : List (List VTerm)) (k : ℕ) (fs : Ideal r) → Spends (contained_from r members k fs)
  contained_from_spends members k [] = λ units. omega arith
  contained_from_spends members k (f ∷ fs) =
      then_spends (λ units. divided r members units (terms_of r (f ∷ []))) (λ (x : Reduced). if is_zero x.rest then contained_from r members (suc k) fs else ready (Some k)) (divided_run_spends r members (terms_of r (f ∷ [])))
      (λ x. go (is_zero x.rest) (contained_from_spends members (suc k) fs))
    where
      go : (b : Bool) → Spends (contained_from r members (suc k) fs) → Spends (if b then contained_from r members (suc k) fs else ready (Some k))
      go true later = later
      go false later = λ units. omega arith

  contained_spends : (fs gs : Ideal r) → Spends (contained_work r fs gs)
  unfolding contained_work
  contained_spends fs gs = then_spends (completed r (map (λ f. terms_of r (f ∷ [])) fs)) (λ c. contained_from r c.members 1 gs) (completed_spends r (map (λ f. terms_of r (f ∷ [])) fs)) (λ c. contained_from_spends c.members 1 gs)

  map_sizes : (i : ℕ) (fs gs : Ideal r) → i + 2 ≤ most → length fs ≤ most → length gs ≤ most → (units left : ℕ) (x : Found r) → units < most → Ends (plan r (ask_map i fs gs) units) x left → HasSizes r most x
  unfolding plan
  map_sizes i fs gs degree sources targets_count units left x enough ends =
      let work = contained_work r fs gs in
      let targets = λ (b : BaseOf r). base_plan r Target i gs >>= mapped r i fs gs b in
      let a = bound (task Alone names.Contained 0 work >>= unless r not_contained) (λ u. base_plan r Source i fs >>= targets) units left x ends in
      let w = bound (task Alone names.Contained 0 work) (unless r not_contained) units a.between a.value a.first in
      let k = left_of work units w.between w.value (contained_spends fs gs) (task_ends Alone names.Contained 0 work units w.between w.value w.first) in
      let l = unless_left r most not_contained w.value w.between a.between a.value w.second in
      let sb = bound (base_plan r Source i fs) targets a.between left x a.second in
      let S = base_sizes r most Source i fs degree sources a.between sb.between sb.value (omega (arith, k, l, enough)) sb.first in
      let tb = bound (base_plan r Target i gs) (mapped r i fs gs sb.value) sb.between left x sb.second in
      let T = base_sizes r most Target i gs degree targets_count sb.between tb.between tb.value S.1 tb.first in
      mapped_sizes i fs gs sb.value tb.value S.0 T.0 (omega (arith, degree)) tb.between left x T.1 tb.second

-- ---- all queries
pub plan_sizes : (r : Ring) (q : Query r) (units left : ℕ) (x : Found r) → Ends (plan r q units) x left → HasSizes r (units + size_of r q) x
plan_sizes r (ask_zero i fs) units left x ends = zero_sizes r (units + (i + 2 + length fs)) i fs (omega arith) (omega arith) units left x (omega arith) ends
plan_sizes r (ask_class i fs e z) units left x ends = class_sizes r (units + (i + 2 + length fs)) i fs e z (omega arith) (omega arith) units left x (omega arith) ends
plan_sizes r (ask_root i fs) units left x ends = root_sizes r (units + (i + 2 + length fs)) i fs (omega arith) (omega arith) units left x (omega arith) ends
plan_sizes r (ask_invert i fs f) units left x ends = invert_sizes r (units + (i + 2 + length fs)) i fs f (omega arith) (omega arith) units left x (omega arith) ends
plan_sizes r (ask_support i fs) units left x ends = support_sizes r (units + (i + 2 + length fs)) i fs (omega arith) (omega arith) units left x (omega arith) ends
plan_sizes r (ask_map i fs gs) units left x ends = map_sizes r (units + (i + 2 + (length fs + length gs))) i fs gs (omega arith) (omega arith) (omega arith) units left x (omega arith) ends
plan_sizes r (ask_member fs f) units left x ends = member_sizes r (units + (2 + length fs)) fs f (omega arith) (omega arith) units left x (omega arith) ends
plan_sizes r (ask_resolution i fs) units left x ends = resolution_sizes_found r (units + (i + 2 + length fs)) i fs (omega arith) (omega arith) units left x (omega arith) ends
plan_sizes r (ask_ext i fs) units left x ends = ext_sizes_found r (units + (i + 2 + length fs)) i fs (omega arith) (omega arith) units left x (omega arith) ends
