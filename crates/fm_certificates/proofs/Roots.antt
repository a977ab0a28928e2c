-- The root of each base of an answer holds.
use Rattle.std.proofs.Common.{ℕ, ◌==◌, None, List, ◌∷◌, length, take, sym, subst}
use Rattle.fm_limit.specs.ResolvedIdeal.{matrix_at}
use Rattle.fm_limit.specs.Verdicts.{Holds, root}
use Rattle.fm_limit.proofs.VerdictLaws.{root_verdict}
use Rattle.fm_algebra.specs.PolynomialMatrices.{matrix_unit}
use Rattle.fm_poly.specs.declared.ring.Ring.{Ring}
use Rattle.fm_algebra.specs.Polynomials.{Polynomial}
use Rattle.fm_limit.specs.Facts.{unit_column, diagonal_blocks}
use Rattle.fm_run.specs.Runs.{ready, ◌>>=◌}
use Rattle.fm_run.specs.declared.task.Side.TheVariants.{Alone, Source, Target}
use Rattle.fm_run.specs.declared.task.Name.TheVariants as names
use Rattle.fm_run.proofs.Ends.{Ends, same_value, bound}
use Rattle.fm_graphs.specs.Listing.{VectorOf}
use Rattle.fm_graphs.specs.Graphs.{MatrixOf, Inside, whole_run, inside_run}
use Rattle.fm_graphs.specs.Trims.{Preimage, preimage_run}
use Rattle.fm_plan.specs.Tasks.{task, wrong_length, not_a_cocycle, not_contained}
use Rattle.fm_plan.specs.Results.{Resolution, Ideal, resolved, differentials_of, graphs_of}
use Rattle.fm_plan.specs.Base.{resolution_plan}
use Rattle.fm_plan.specs.Queries.{BaseOf, base_of, base_plan, stable_graph, stable_of, allowed, unless, cocycle_work, lift_at, solution_of, stages, chain_graphs, coloned, Coloned, inverted_of, contained_work, over_identity, phi_work, fibre_work, onto_plan, compared, mapped, Found, found_zero, found_class, found_root, found_invert, found_support, found_map, found_member, found_resolution, found_ext, Query, ask_zero, ask_class, ask_root, ask_invert, ask_support, ask_map, ask_member, ask_resolution, ask_ext, plan, verdict}
use Rattle.fm_plan.proofs.Resolving.{resolution_is}
use Rattle.fm_plan.proofs.Bases.{Based, base_from, base_is}
use Rattle.fm_plan.proofs.Answers.{Right}
use Rattle.fm_answers.proofs.Shapes.{answers}

module _ (r : Ring) where
  -- the root of a base is right
  pub base_root : (i : ℕ) (fs : Ideal r) (b : BaseOf r) → Based r i fs b → Right r (found_root i fs b)
  unfolding verdict
  base_root i fs b B =
      (B.facts.resolved, subst (λ K. Holds r.prime r.vars (root i (resolved r fs b.ext) b.ext.cocycles.found K b.ext.u (length b.ext.cocycles.found.columns) (stable_of r b))) (sym B.stable_matrix) (root_verdict r.prime r.vars B.facts B.first))

  -- the bases of an answer are what BASE establishes
  abbrev pub HasBases : Found r → Type 0
  HasBases (found_zero i fs b whole) = Based r i fs b
  HasBases (found_class i fs b e z w killed) = Based r i fs b
  HasBases (found_root i fs b) = Based r i fs b
  HasBases (found_invert i fs b f inverted) = Based r i fs b
  HasBases (found_support i fs b a) = Based r i fs b
  HasBases (found_map i fs gs b c lambda phi null fibre one onto) = Based r i fs b × Based r i gs c
  HasBases (found_member fs f first inside) = Unit {0}
  HasBases (found_resolution i fs x) = Unit {0}
  HasBases (found_ext i fs x) = Unit {0}

  zero_bases : (i : ℕ) (fs : Ideal r) (units left : ℕ) (x : Found r) → Ends (plan r (ask_zero i fs) units) x left → HasBases x
  unfolding plan
  zero_bases i fs units left x ends =
      let work = λ (b : BaseOf r). whole_run r (stable_graph r b) in
      let a = bound (base_plan r Alone i fs) (λ b. task Alone names.Whole 0 (work b) >>= λ y. ready (found_zero i fs b y)) units left x ends in
      let d = bound (task Alone names.Whole 0 (work a.value)) (λ y. ready (found_zero i fs a.value y)) a.between left x a.second in
      subst HasBases {x = found_zero i fs a.value d.value} (same_value (found_zero i fs a.value d.value) x d.between left d.second) (base_is r i fs Alone units a.between a.value a.first)

  root_bases : (i : ℕ) (fs : Ideal r) (units left : ℕ) (x : Found r) → Ends (plan r (ask_root i fs) units) x left → HasBases x
  unfolding plan
  root_bases i fs units left x ends =
      let a = bound (base_plan r Alone i fs) (λ b. ready (found_root i fs b)) units left x ends in
      subst HasBases {x = found_root i fs a.value} (same_value (found_root i fs a.value) x a.between left a.second) (base_is r i fs Alone units a.between a.value a.first)

  invert_bases : (i : ℕ) (fs : Ideal r) (f : Polynomial r.prime r.vars) (units left : ℕ) (x : Found r) → Ends (plan r (ask_invert i fs f) units) x left → HasBases x
  unfolding plan
  invert_bases i fs f units left x ends =
      let ending = λ (b : BaseOf r) (c : Coloned r). inverted_of r f (stable_graph r b) c >>= λ s. ready (found_invert i fs b f s) in
      let colons = λ (b : BaseOf r) (y : Inside r). coloned r f (stable_graph r b) y >>= ending b in
      let a = bound (base_plan r Alone i fs) (λ b. task Alone names.Colon 0 (whole_run r (stable_graph r b)) >>= colons b) units left x ends in
      let b = a.value in
      let g = stable_graph r b in
      let c = bound (task Alone names.Colon 0 (whole_run r g)) (colons b) a.between left x a.second in
      let d = bound (coloned r f g c.value) (ending b) c.between left x c.second in
      let e = bound (inverted_of r f g d.value) (λ s. ready (found_invert i fs b f s)) d.between left x d.second in
      subst HasBases {x = found_invert i fs b f e.value} (same_value (found_invert i fs b f e.value) x e.between left e.second) (base_is r i fs Alone units a.between b a.first)

  support_bases : (i : ℕ) (fs : Ideal r) (units left : ℕ) (x : Found r) → Ends (plan r (ask_support i fs) units) x left → HasBases x
  unfolding plan
  support_bases i fs units left x ends =
      let work = λ (b : BaseOf r). preimage_run r (unit_column r.prime r.vars b.chain.stable.matrix.rows) (diagonal_blocks r.prime r.vars b.chain.stable.matrix) in
      let a = bound (base_plan r Alone i fs) (λ b. task Alone names.Annihilator 0 (work b) >>= λ y. ready (found_support i fs b y)) units left x ends in
      let d = bound (task Alone names.Annihilator 0 (work a.value)) (λ y. ready (found_support i fs a.value y)) a.between left x a.second in
      subst HasBases {x = found_support i fs a.value d.value} (same_value (found_support i fs a.value d.value) x d.between left d.second) (base_is r i fs Alone units a.between a.value a.first)

  class_bases : (i : ℕ) (fs : Ideal r) (e : ℕ) (z : VectorOf r) (units left : ℕ) (x : Found r) → Ends (plan r (ask_class i fs e z) units) x left → HasBases x
  unfolding plan
  class_bases i fs e z units left x ends =
      let dat = λ (y : Resolution r). matrix_at r.prime r.vars (differentials_of r y) i in
      let after_stages = λ (b : BaseOf r) (w : VectorOf r). stages r e w 0 None (chain_graphs r b) >>= λ s. ready (found_class i fs b e z w s) in
      let after_base = λ (b : BaseOf r). task Alone names.Coordinates 0 (lift_at r e b.ext.cocycles.graph z) >>= λ y. after_stages b (solution_of r y) in
      let after_length = λ (y : Resolution r). task Alone names.Test 0 (cocycle_work r e (dat y) z) >>= unless r not_a_cocycle >>= λ u'. base_of r Alone i y >>= after_base in
      let long = λ (y : Resolution r). allowed r (length z == (dat y).rows) (wrong_length (length z) (dat y).rows) in
      let a = bound (resolution_plan r Alone i fs) (λ y. long y >>= λ u. after_length y) units left x ends in
      let y = a.value in
      let c = bound (long y) (λ u. after_length y) a.between left x a.second in
      let g = bound (task Alone names.Test 0 (cocycle_work r e (dat y) z) >>= unless r not_a_cocycle) (λ u'. base_of r Alone i y >>= after_base) c.between left x c.second in
      let k = bound (base_of r Alone i y) after_base g.between left x g.second in
      let b = k.value in
      let j = bound (task Alone names.Coordinates 0 (lift_at r e b.ext.cocycles.graph z)) (λ y. after_stages b (solution_of r y)) k.between left x k.second in
      let w = solution_of r j.value in
      let l = bound (stages r e w 0 None (chain_graphs r b)) (λ s. ready (found_class i fs b e z w s)) j.between left x j.second in
      subst HasBases {x = found_class i fs b e z w l.value} (same_value (found_class i fs b e z w l.value) x l.between left l.second)
      (base_from r i fs Alone y (resolution_is r Alone i fs units a.between y a.first) g.between k.between b k.first).0

  -- ---- maps
  module _ (i : ℕ) (fs gs : Ideal r) (b c : BaseOf r) (B : Based r i fs b) (C : Based r i gs c) where
    compared_bases : (ls : List (MatrixOf r)) (phi : MatrixOf r) (units left : ℕ) (x : Found r)
        → Ends (compared r b c phi (λ null one s. found_map i fs gs b c ls phi null one.0 one.1 s) units) x left → HasBases x
    unfolding compared
    compared_bases ls phi units left x ends =
        let ending = λ (null : Inside r) (one : Preimage r × Inside r). onto_plan r c.ext.relations.found phi c.ext.u >>= λ s. ready (found_map i fs gs b c ls phi null one.0 one.1 s) in
        let one_work = fibre_work r phi c.chain.stable.matrix b.chain.stable in
        let nb = bound (task Alone names.Null 0 (inside_run r phi c.chain.stable)) (λ null. task Alone names.One 0 one_work >>= ending null) units left x ends in
        let ob = bound (task Alone names.One 0 one_work) (ending nb.value) nb.between left x nb.second in
        let s = bound (onto_plan r c.ext.relations.found phi c.ext.u) (λ s. ready (found_map i fs gs b c ls phi nb.value (ob.value).0 (ob.value).1 s)) ob.between left x ob.second in
        subst HasBases {x = found_map i fs gs b c ls phi nb.value (ob.value).0 (ob.value).1 s.value} (same_value (found_map i fs gs b c ls phi nb.value (ob.value).0 (ob.value).1 s.value) x s.between left s.second) (B, C)

    mapped_bases : (units left : ℕ) (x : Found r) → Ends (mapped r i fs gs b c units) x left → HasBases x
    unfolding mapped
    mapped_bases units left x ends =
        let unit = matrix_unit r.prime r.vars 1 in
        let ds = take i (differentials_of r c.ext.resolution) in
        let graphs = take i (graphs_of r b.ext.resolution) in
        let work = λ (lambdas : List (MatrixOf r)). phi_work r (matrix_at r.prime r.vars (unit ∷ lambdas) i) b.ext.cocycles.found c.ext.cocycles.graph in
        let ending = λ (lambdas : List (MatrixOf r)) (phi : MatrixOf r). compared r b c phi (λ null one s. found_map i fs gs b c (unit ∷ lambdas) phi null one.0 one.1 s) in
        let lb = bound (over_identity r 1 unit ds graphs) (λ lambdas. task Alone names.Phi 0 (work lambdas) >>= ending lambdas) units left x ends in
        let pb = bound (task Alone names.Phi 0 (work lb.value)) (ending lb.value) lb.between left x lb.second in
        compared_bases (unit ∷ lb.value) pb.value pb.between left x pb.second

  map_bases : (i : ℕ) (fs gs : Ideal r) (units left : ℕ) (x : Found r) → Ends (plan r (ask_map i fs gs) units) x left → HasBases x
  unfolding plan
  map_bases i fs gs units left x ends =
      let targets = λ (b : BaseOf r). base_plan r Target i gs >>= mapped r i fs gs b in
      let a = bound (task Alone names.Contained 0 (contained_work r fs gs) >>= unless r not_contained) (λ u. base_plan r Source i fs >>= targets) units left x ends in
      let sb = bound (base_plan r Source i fs) targets a.between left x a.second in
      let tb = bound (base_plan r Target i gs) (mapped r i fs gs sb.value) sb.between left x sb.second in
      mapped_bases i fs gs sb.value tb.value (base_is r i fs Source a.between sb.between sb.value sb.first) (base_is r i gs Target sb.between tb.between tb.value tb.first) tb.between left x tb.second

  -- ---- membership, resolutions and Ext have none
  pub plan_bases : (a : Query r) (units left : ℕ) (x : Found r) → Ends (plan r a units) x left → HasBases x
  plan_bases (ask_zero i fs) units left x ends = zero_bases i fs units left x ends
  plan_bases (ask_class i fs e z) units left x ends = class_bases i fs e z units left x ends
  plan_bases (ask_root i fs) units left x ends = root_bases i fs units left x ends
  plan_bases (ask_invert i fs f) units left x ends = invert_bases i fs f units left x ends
  plan_bases (ask_support i fs) units left x ends = support_bases i fs units left x ends
  plan_bases (ask_map i fs gs) units left x ends = map_bases i fs gs units left x ends
  plan_bases (ask_member fs f) units left x ends =
      let y = answers r (ask_member fs f) units left x ends in subst HasBases {x = found_member fs f y.0 y.1} y.2 tt
  plan_bases (ask_resolution i fs) units left x ends = let y = answers r (ask_resolution i fs) units left x ends in subst HasBases {x = found_resolution i fs y.0} y.1 tt
  plan_bases (ask_ext i fs) units left x ends = let y = answers r (ask_ext i fs) units left x ends in subst HasBases {x = found_ext i fs y.0} y.1 tt
