-- Every plan that ends with an answer stays within the bound on exponents: induced maps, and then all queries.
use Rattle.std.proofs.Common.{ℕ, suc, ◌≡◌, true, Some, None, List, [], ◌∷◌, ◌++◌, length, take, sym, subst}
use Rattle.fm_algebra.specs.PolynomialMatrices.{matrix_unit, matrix_transpose, matrix_beside}
use Rattle.fm_limit.specs.ResolvedIdeal.{matrix_at}
use Rattle.fm_poly.specs.declared.ring.Ring.{Ring}
use Rattle.fm_run.specs.Runs.{ready, ◌>>=◌}
use Rattle.fm_run.specs.Turns.{Turn, last}
use Rattle.fm_run.proofs.Ends.{Ends, same_value, bound, Leads, turns_lead}
use Rattle.fm_graphs.specs.Graphs.{MatrixOf, Graph, Outside, Inside, all_inside, first_outside, width, graph_run, lifted, inside_run, whole_run}
use Rattle.fm_graphs.specs.Bounds.{multiplied, twisted_matrix}
use Rattle.fm_graphs.specs.Trims.{Preimage, preimage_run}
use Rattle.fm_graphs.specs.Within.{are_within, IsMatrixWithin, IsGraphWithin, IsInsideWithin, IsPreimageWithin}
use Rattle.fm_graphs.proofs.WithinMatrices.{units_within, beside_within}
use Rattle.fm_graphs.proofs.WithinGraphs.{multiplied_ends, twist_ends, graph_ends, lifted_ends, inside_ends, whole_ends, preimage_ends}
use Rattle.fm_run.specs.declared.task.Side.TheVariants.{Alone, Source, Target}
use Rattle.fm_plan.specs.Tasks.{not_contained, task, out_of_units}
use Rattle.fm_plan.specs.Results.{Ideal, graphs_of, differentials_of}
use Rattle.fm_plan.specs.Queries.{BaseOf, base_plan, contained_work, unless, over_identity, fibre_work, phi_work, Joins, join_settled, join_next, join_turn, joined, join_work, onto_plan, compared, mapped, Onto, onto_at, Found, found_map, Query, ask_zero, ask_class, ask_root, ask_invert, ask_support, ask_map, ask_member, ask_resolution, ask_ext, plan}
use Rattle.fm_plan.specs.Within.{AreMatricesWithin, ArePreimagesWithin, IsBaseWithin, IsOntoWithin, IsFoundWithin, IsQueryWithin}
use Rattle.fm_plan.proofs.Tasks.{task_ends}
use Rattle.fm_plan.proofs.WithinBases.{preimages_more, base_within}
use Rattle.fm_plan.proofs.WithinAnswers.{zero_within_bound, class_within_bound, root_within_bound, invert_within_bound, support_within_bound, member_within_bound, resolution_within_bound, ext_within_bound}
use Rattle.fm_run.specs.declared.task.Name.TheVariants as names

module _ (r : Ring) where
  -- ---- lambda, phi and the fibre
  product_lifted : (A B : MatrixOf r) (g : Graph r) (units left : ℕ) (W : MatrixOf r) → Ends ((multiplied r.prime r.vars A B >>= λ C. lifted r g C.columns) units) W left → IsMatrixWithin r W
  product_lifted A B g units left W ends =
      let b = bound (multiplied r.prime r.vars A B) (λ C. lifted r g C.columns) units left W ends in
      lifted_ends r g b.value.columns (multiplied_ends r A B units b.between b.value b.first) b.between left W b.second

  identity_within : (j : ℕ) (lambda : MatrixOf r) (ds : List (MatrixOf r)) (gs : List (Graph r)) (units left : ℕ) (lambdas : List (MatrixOf r)) → Ends (over_identity r j lambda ds gs units) lambdas left → AreMatricesWithin r lambdas
  identity_within j lambda [] gs units left lambdas ends = subst (AreMatricesWithin r) (same_value [] lambdas units left ends) tt
  identity_within j lambda (d ∷ ds) [] units left lambdas ends = subst (AreMatricesWithin r) (same_value [] lambdas units left ends) tt
  identity_within j lambda (d ∷ ds) (g ∷ gs) units left lambdas ends =
      let work = multiplied r.prime r.vars lambda d >>= λ B. lifted r g B.columns in
      let b = bound (task Alone names.Lambda j work) (λ next. over_identity r (suc j) next ds gs >>= λ later. ready (next ∷ later)) units left lambdas ends in
      let c = bound (over_identity r (suc j) b.value ds gs) (λ later. ready (b.value ∷ later)) b.between left lambdas b.second in
      subst (AreMatricesWithin r) {x = b.value ∷ c.value} (same_value (b.value ∷ c.value) lambdas c.between left c.second)
      (product_lifted lambda d g units b.between b.value (task_ends Alone names.Lambda j work units b.between b.value b.first), identity_within (suc j) b.value ds gs b.between c.between c.value c.first)

  phi_within : (lambda z : MatrixOf r) (g : Graph r) (units left : ℕ) (phi : MatrixOf r) → Ends (phi_work r lambda z g units) phi left → IsMatrixWithin r phi
  unfolding phi_work
  phi_within lambda z g units left phi ends = product_lifted (matrix_transpose r.prime r.vars lambda) z g units left phi ends

  fibre_within : (phi K : MatrixOf r) (g : Graph r) → IsMatrixWithin r phi → IsMatrixWithin r K → (units left : ℕ) (y : Preimage r × Inside r) → Ends (fibre_work r phi K g units) y left → IsPreimageWithin r y.0 × IsInsideWithin r y.1
  unfolding fibre_work
  fibre_within phi K g h k units left y ends =
      let a = bound (preimage_run r phi K) (λ x. inside_run r x.found g >>= λ y. ready (x, y)) units left y ends in
      let Q = preimage_ends r phi K h k units a.between a.value a.first in
      let d = bound (inside_run r a.value.found g) (λ y. ready (a.value, y)) a.between left y a.second in
      subst (λ (y : Preimage r × Inside r). IsPreimageWithin r y.0 × IsInsideWithin r y.1) {x = (a.value, d.value)} (same_value (a.value, d.value) y d.between left d.second)
      (Q, inside_ends r a.value.found g Q.found a.between d.between d.value d.first)

  -- ---- onto
  -- the members so far
  record JoinsWithin (c : Joins r) : Type 0 where
    links : ArePreimagesWithin r c.links
    graph : IsGraphWithin r c.graph

  module _ (U : MatrixOf r) (u_within : IsMatrixWithin r U) (g : Graph r) (first : IsGraphWithin r g) where
    lead : Turn (Joins r) (Onto r) → Type 0
    lead t = Leads (out_of_units Alone names.Onto) (join_turn r U g) JoinsWithin (IsOntoWithin r) t

    settled_within : (c : Joins r) (x : Preimage r) (o : Outside) (y : Inside r) → JoinsWithin c → IsPreimageWithin r x → IsInsideWithin r y → lead (join_settled r g c x o y)
    unfolding lead
    settled_within c x o (all_inside ws) w h k = (first, preimages_more r c.links x w.links h, k)
    settled_within c x o (first_outside o') w h k = record { links = preimages_more r c.links x w.links h; graph = h.graph }

    next_within : (c : Joins r) (x : Preimage r) → JoinsWithin c → IsPreimageWithin r x → (y : Inside r) → IsInsideWithin r y → (units left : ℕ) (t : Turn (Joins r) (Onto r)) → Ends (join_next r g c x y units) t left → lead t
    unfolding lead
    next_within c x w h (all_inside ws) k units left t ends =
        subst lead (same_value (last (onto_at g (c.links ++ x ∷ []) (record { rows = width r x.graph; columns = ws }) (Some c.proper))) t units left ends) (first, preimages_more r c.links x w.links h, k)
    next_within c x w h (first_outside o) k units left t ends =
        let a = bound (inside_run r x.found c.graph) (λ z. ready (join_settled r g c x o z)) units left t ends in
        subst lead {x = join_settled r g c x o a.value} (same_value (join_settled r g c x o a.value) t a.between left a.second)
        (settled_within c x o a.value w h (inside_ends r x.found c.graph h.found units a.between a.value a.first))

    turn_within : (c : Joins r) (units left : ℕ) (t : Turn (Joins r) (Onto r)) → JoinsWithin c → Ends (join_turn r U g c units) t left → lead t
    turn_within c units left t w ends =
        let K = c.graph.matrix in
        let after = λ (x : Preimage r). whole_run r x.graph >>= join_next r g c x in
        let work = twisted_matrix r.prime r.vars 1 K >>= λ L. preimage_run r U L >>= after in
        let e = task_ends Alone names.Onto (suc (length c.links)) work units left t ends in
        let a = bound (twisted_matrix r.prime r.vars 1 K) (λ L. preimage_run r U L >>= after) units left t e in
        let b = bound (preimage_run r U a.value) after a.between left t a.second in
        let Q = preimage_ends r U a.value u_within (twist_ends r 1 K units a.between a.value a.first) a.between b.between b.value b.first in
        let d = bound (whole_run r b.value.graph) (join_next r g c b.value) b.between left t b.second in
        next_within c b.value w Q d.value (whole_ends r b.value.graph b.between d.between d.value d.first) d.between left t d.second

    joined_within : (y : Inside r) → IsInsideWithin r y → (units left : ℕ) (s : Onto r) → Ends (joined r U (g, y) units) s left → IsOntoWithin r s
    unfolding lead
    joined_within (all_inside ws) h units left s ends = subst (IsOntoWithin r) (same_value (onto_at g [] (record { rows = width r g; columns = ws }) None) s units left ends) (first, tt, h)
    joined_within (first_outside o) h units left s ends =
        turns_lead (out_of_units Alone names.Onto) (join_turn r U g) JoinsWithin (IsOntoWithin r) turn_within units (record { links = []; graph = g; proper = o }) units left s (record { links = tt; graph = first }) ends

  onto_within : (N phi U : MatrixOf r) → IsMatrixWithin r N → IsMatrixWithin r phi → IsMatrixWithin r U → (units left : ℕ) (s : Onto r) → Ends (onto_plan r N phi U units) s left → IsOntoWithin r s
  unfolding onto_plan join_work
  onto_within N phi U h k w units left s ends =
      let J = matrix_beside r.prime r.vars N phi in
      let a = bound (task Alone names.Onto 0 (join_work r J)) (joined r U) units left s ends in
      let e = task_ends Alone names.Onto 0 (join_work r J) units a.between a.value a.first in
      let b = bound (graph_run r J) (λ g. whole_run r g >>= λ y. ready (g, y)) units a.between a.value e in
      let first = graph_ends r J (beside_within r.prime r.vars N phi h k) units b.between b.value b.first in
      let c = bound (whole_run r b.value) (λ y. ready (b.value, y)) b.between a.between a.value b.second in
      joined_within U w b.value first c.value (whole_ends r b.value b.between c.between c.value c.first) a.between left s
      (subst (λ q. Ends (joined r U q a.between) s left) {y = (b.value, c.value)} (sym (same_value (b.value, c.value) a.value c.between a.between c.second)) a.second)

  -- ---- the map
  module _ (i : ℕ) (fs gs : Ideal r) (b c : BaseOf r) (B : IsBaseWithin r b) (C : IsBaseWithin r c) where
    compared_within : (ls : List (MatrixOf r)) (phi : MatrixOf r) → AreMatricesWithin r ls → IsMatrixWithin r phi → (units left : ℕ) (x : Found r)
        → Ends (compared r b c phi (λ null one s. found_map i fs gs b c ls phi null one.0 one.1 s) units) x left → IsFoundWithin r x
    unfolding compared
    compared_within ls phi w h units left x ends =
        let ending = λ (null : Inside r) (one : Preimage r × Inside r). onto_plan r c.ext.relations.found phi c.ext.u >>= λ s. ready (found_map i fs gs b c ls phi null one.0 one.1 s) in
        let null_work = inside_run r phi c.chain.stable in
        let one_work = fibre_work r phi c.chain.stable.matrix b.chain.stable in
        let nb = bound (task Alone names.Null 0 null_work) (λ null. task Alone names.One 0 one_work >>= ending null) units left x ends in
        let ob = bound (task Alone names.One 0 one_work) (ending nb.value) nb.between left x nb.second in
        let s = bound (onto_plan r c.ext.relations.found phi c.ext.u) (λ s. ready (found_map i fs gs b c ls phi nb.value (ob.value).0 (ob.value).1 s)) ob.between left x ob.second in
        let one = fibre_within phi c.chain.stable.matrix b.chain.stable h C.chain.stable.matrix nb.between ob.between ob.value (task_ends Alone names.One 0 one_work nb.between ob.between ob.value ob.first) in
        subst (IsFoundWithin r) {x = found_map i fs gs b c ls phi nb.value (ob.value).0 (ob.value).1 s.value} (same_value (found_map i fs gs b c ls phi nb.value (ob.value).0 (ob.value).1 s.value) x s.between left s.second) (
          B,
          C,
          w,
          h,
          inside_ends r phi c.chain.stable h units nb.between nb.value (task_ends Alone names.Null 0 null_work units nb.between nb.value nb.first),
          one.0,
          one.1,
          onto_within c.ext.relations.found phi c.ext.u C.ext.relations.found h C.ext.u ob.between s.between s.value s.first,
        )

    mapped_within : (units left : ℕ) (x : Found r) → Ends (mapped r i fs gs b c units) x left → IsFoundWithin r x
    unfolding mapped
    mapped_within units left x ends =
        let unit = matrix_unit r.prime r.vars 1 in
        let ds = take i (differentials_of r c.ext.resolution) in
        let graphs = take i (graphs_of r b.ext.resolution) in
        let work = λ (lambdas : List (MatrixOf r)). phi_work r (matrix_at r.prime r.vars (unit ∷ lambdas) i) b.ext.cocycles.found c.ext.cocycles.graph in
        let ending = λ (lambdas : List (MatrixOf r)) (phi : MatrixOf r). compared r b c phi (λ null one s. found_map i fs gs b c (unit ∷ lambdas) phi null one.0 one.1 s) in
        let lb = bound (over_identity r 1 unit ds graphs) (λ lambdas. task Alone names.Phi 0 (work lambdas) >>= ending lambdas) units left x ends in
        let pb = bound (task Alone names.Phi 0 (work lb.value)) (ending lb.value) lb.between left x lb.second in
        let theta = matrix_at r.prime r.vars (unit ∷ lb.value) i in
        compared_within (unit ∷ lb.value) pb.value (units_within r.prime r.vars 1, identity_within 1 unit ds graphs units lb.between lb.value lb.first)
        (phi_within theta b.ext.cocycles.found c.ext.cocycles.graph lb.between pb.between pb.value (task_ends Alone names.Phi 0 (work lb.value) lb.between pb.between pb.value pb.first))
        pb.between left x pb.second

  map_within_bound : (i : ℕ) (fs gs : Ideal r) → are_within r.prime r.vars fs ≡ true → are_within r.prime r.vars gs ≡ true → (units left : ℕ) (x : Found r) → Ends (plan r (ask_map i fs gs) units) x left → IsFoundWithin r x
  unfolding plan
  map_within_bound i fs gs h k units left x ends =
      let work = contained_work r fs gs in
      let targets = λ (b : BaseOf r). base_plan r Target i gs >>= mapped r i fs gs b in
      let a = bound (task Alone names.Contained 0 work >>= unless r not_contained) (λ u. base_plan r Source i fs >>= targets) units left x ends in
      let sb = bound (base_plan r Source i fs) targets a.between left x a.second in
      let tb = bound (base_plan r Target i gs) (mapped r i fs gs sb.value) sb.between left x sb.second in
      mapped_within i fs gs sb.value tb.value (base_within r Source i fs h a.between sb.between sb.value sb.first) (base_within r Target i gs k sb.between tb.between tb.value tb.first) tb.between left x tb.second

  -- ---- all queries
  pub plan_within_bound : (q : Query r) (units left : ℕ) (x : Found r) → IsQueryWithin r q → Ends (plan r q units) x left → IsFoundWithin r x
  plan_within_bound (ask_zero i fs) units left x h ends = zero_within_bound r i fs h units left x ends
  plan_within_bound (ask_class i fs e z) units left x h ends = class_within_bound r i fs e z h.0 h.1 units left x ends
  plan_within_bound (ask_root i fs) units left x h ends = root_within_bound r i fs h units left x ends
  plan_within_bound (ask_invert i fs f) units left x h ends = invert_within_bound r i fs f h.0 h.1 units left x ends
  plan_within_bound (ask_support i fs) units left x h ends = support_within_bound r i fs h units left x ends
  plan_within_bound (ask_map i fs gs) units left x h ends = map_within_bound i fs gs h.0 h.1 units left x ends
  plan_within_bound (ask_member fs f) units left x h ends = member_within_bound r fs f h.0 h.1 units left x ends
  plan_within_bound (ask_resolution i fs) units left x h ends = resolution_within_bound r i fs h units left x ends
  plan_within_bound (ask_ext i fs) units left x h ends = ext_within_bound r i fs h units left x ends
