-- The plan of inverting a polynomial answers rightly.
use Rattle.std.proofs.Common.{ℕ, zero, suc, ◌+◌, ◌<◌, ◌≤◌, ◌≡◌, ◌↔◌, true, Option, List, [], ◌∷◌, ◌++◌, map, length, refl, sym, ap, ◌∙◌, subst, subst₂, arith}
use Rattle.std.proofs.lemmas.Bool.{false≢true}
use Rattle.std.proofs.lemmas.List.{length-append}
use native.Mathlib.Decide.{dec_lt}
use Rattle.fm_gfp.specs.declared.prime.Prime.{Prime}
use Rattle.fm_algebra.specs.Matrix.{unit_matrix}
use Rattle.fm_algebra.specs.Power.{power}
use Rattle.fm_algebra.specs.Polynomials.{Polynomial, polynomial_power}
use Rattle.fm_algebra.specs.PolynomialMatrices.{HasShape, InImage, GeneratesPreimage, matrix_scalar, matrix_unit}
use Rattle.fm_limit.specs.ResolvedIdeal.{matrix_at}
use Rattle.fm_limit.specs.Facts.{ColumnsInImage, IsEverything, IsColons}
use Rattle.fm_limit.specs.Verdicts.{RestsOn, Holds, inverting}
use Rattle.fm_limit.proofs.ColonFacts.{colon_fact}
use Rattle.fm_limit.proofs.VerdictLaws.{inverting_no_verdict, inverting_yes_verdict}
use Rattle.fm_limit.proofs.MatrixWords.{scalar_fits, shape_rows, shape_columns}
use Rattle.fm_poly.specs.declared.ring.Ring.{Ring}
use Rattle.fm_run.specs.Runs.{ready, ◌>>=◌}
use Rattle.fm_run.specs.Turns.{Turn, last}
use Rattle.fm_graphs.specs.Graphs.{MatrixOf, Graph, Outside, Inside, all_inside, first_outside, width, lifted, inside_run, whole_run}
use Rattle.fm_graphs.specs.Trims.{Preimage, preimage_run}
use Rattle.fm_run.proofs.Ends.{Ends, same_value, bound, Leads, turns_lead}
use Rattle.fm_graphs.specs.Graphs.{IsCompletedGraph}
use Rattle.fm_graphs.proofs.Lifts.{Says, inside_is, whole_is}
use Rattle.fm_graphs.proofs.Preimages.{IsPreimage, preimage_run_is}
use Rattle.fm_run.specs.declared.task.Side.TheVariants.{Alone}
use Rattle.fm_plan.specs.Tasks.{out_of_units, task}
use Rattle.fm_plan.specs.Results.{Ideal, resolved}
use Rattle.fm_plan.specs.Queries.{BaseOf, base_plan, stable_graph, is_yes, Colons, Coloned, whole_at, stable_at, colon_settled, colon_next, colon_turn, coloned, Inverted, by_power, never_inverted, inverted_of, power_run, before_power, power_of, Found, found_invert, ask_invert, plan, verdict}
use Rattle.fm_plan.proofs.Tasks.{task_ends}
use Rattle.fm_plan.proofs.Chains.{old_at, new_at, map_append}
use Rattle.fm_plan.proofs.Bases.{Based, base_is, says_decides}
use Rattle.fm_run.specs.declared.task.Name.TheVariants as names

module _ (r : Ring) (K : MatrixOf r) (shape : HasShape r.prime r.vars K.rows (length K.columns) K) (f : Polynomial r.prime r.vars) where
  abbrev p : Prime
  p = r.prime

  abbrev n : ℕ
  n = r.vars

  abbrev Members : List (Preimage r) → List (MatrixOf r)
  Members xs = K ∷ map (λ (x : Preimage r). x.found) xs

  -- C_0 .. C_s
  record Partial (Cs : List (MatrixOf r)) (s : ℕ) : Type 0 where
    count : length Cs ≡ suc s
    fits : (j : ℕ) → j ≤ s → HasShape p n K.rows (length (matrix_at p n Cs j).columns) (matrix_at p n Cs j)
    first : matrix_at p n Cs 0 ≡ K
    step : (j : ℕ) → j < s → GeneratesPreimage p n (matrix_at p n Cs (suc j)) (matrix_scalar p n f K.rows) (matrix_at p n Cs j)

  longer : (Cs : List (MatrixOf r)) (s : ℕ) (C : MatrixOf r) → Partial Cs s → HasShape p n K.rows (length C.columns) C → GeneratesPreimage p n C (matrix_scalar p n f K.rows) (matrix_at p n Cs s) → Partial (Cs ++ C ∷ []) (suc s)
  longer Cs s C W c_shape step = record {
    count = length-append Cs (C ∷ []) ∙ ap (λ k. k + 1) W.count ∙ omega arith;
    fits = λ k h. elim (dec_lt k (suc s)) [
      | yes w ↦ let l = W.count in subst (λ A. HasShape p n K.rows (length A.columns) A) (sym (old_at p n Cs C k (omega (arith, w, l)))) (W.fits k (omega (arith, w)))
      | no w ↦ let l = W.count in subst (λ A. HasShape p n K.rows (length A.columns) A) (sym (new_at p n Cs C k (omega (arith, w, h, l)))) c_shape
    ];
    first = old_at p n Cs C 0 (let l = W.count in omega (arith, l)) ∙ W.first;
    step = λ k h. elim (dec_lt k s) [
      | yes w ↦ let l = W.count in subst₂ (λ A B. GeneratesPreimage p n A (matrix_scalar p n f K.rows) B) (sym (old_at p n Cs C (suc k) (omega (arith, w, l)))) (sym (old_at p n Cs C k (omega (arith, w, l)))) (W.step k w)
      | no w ↦
          let l = W.count in
          let e : s ≡ k = omega (arith, w, h) in
          subst₂ (λ A B. GeneratesPreimage p n A (matrix_scalar p n f K.rows) B) (sym (new_at p n Cs C (suc k) (omega (arith, e, l)))) (ap (matrix_at p n Cs) e ∙ sym (old_at p n Cs C k (omega (arith, e, l)))) step
    ];
  }

  colons_of : (Cs : List (MatrixOf r)) (k : ℕ) → Partial Cs (suc k) → IsColons p n K f Cs k
  colons_of Cs k W = record {
    fits = λ j h. W.fits j (omega (arith, h));
    first = λ v. subst (λ A. InImage p n A v ↔ InImage p n K v) (sym W.first) ((λ x. x), (λ x. x));
    step = λ j h. W.step j (omega (arith, h));
  }

  -- the colons so far, the last of which isn't everything
  record ColonsTo (c : Colons r) : Type 0 where
    graph : IsCompletedGraph r c.graph
    matrix : c.graph.matrix ≡ matrix_at p n (Members c.colons) (length c.colons)
    colons : Partial (Members c.colons) (length c.colons)
    proper : IsEverything p n c.graph.matrix → ⊥

  abbrev pub Lands : ℕ → Type 0
  Lands k = ColumnsInImage p n K (matrix_scalar p n (polynomial_power p n k f) K.rows)

  abbrev pub ColonsSay : Coloned r → Type 0
  ColonsSay (whole_at k) = Lands k × ((j : ℕ) → suc j ≡ k → ¬ (Lands j))
  ColonsSay (stable_at colons w o) = (Cs : List (MatrixOf r)) × (k : ℕ) × IsColons p n K f Cs k × ColumnsInImage p n (matrix_at p n Cs k) (matrix_at p n Cs (suc k)) × ¬ (IsEverything p n (matrix_at p n Cs k))

  lead : Turn (Colons r) (Coloned r) → Type 0
  lead t = Leads (out_of_units Alone names.Colon) (colon_turn r f) ColonsTo ColonsSay t

  module _ (c : Colons r) (W : ColonsTo c) (x : Preimage r) (J : IsPreimage r (matrix_scalar p n f c.graph.matrix.rows) c.graph.matrix x) where
    abbrev s : ℕ
    s = length c.colons

    abbrev Cs : List (MatrixOf r)
    Cs = Members (c.colons ++ x ∷ [])

    rows : c.graph.matrix.rows ≡ K.rows
    rows = ap (λ (A : MatrixOf r). A.rows) W.matrix ∙ shape_rows p n K.rows (length (matrix_at p n (Members c.colons) s).columns) (matrix_at p n (Members c.colons) s) (W.colons.fits s (omega arith))

    cs_are : Cs ≡ Members c.colons ++ x.found ∷ []
    cs_are = ap (λ Ms. K ∷ Ms) (map_append (λ (y : Preimage r). y.found) c.colons (x ∷ []))

    found_shape : HasShape p n K.rows (length x.found.columns) x.found
    found_shape = subst (λ k. HasShape p n k (length x.found.columns) x.found)
        (shape_columns p n c.graph.matrix.rows c.graph.matrix.rows (matrix_scalar p n f c.graph.matrix.rows) (scalar_fits p n f c.graph.matrix.rows) ∙ rows) J.generating.found_shape

    more : Partial Cs (suc s)
    more = subst (λ Ms. Partial Ms (suc s)) (sym cs_are) (longer (Members c.colons) s x.found W.colons found_shape
        (subst₂ (λ k B. GeneratesPreimage p n x.found (matrix_scalar p n f k) B) rows W.matrix J.generates))

    at_last : matrix_at p n Cs s ≡ c.graph.matrix
    at_last = ap (λ Ms. matrix_at p n Ms s) cs_are ∙ old_at p n (Members c.colons) x.found s (let l = W.colons.count in omega (arith, l)) ∙ sym W.matrix

    at_new : matrix_at p n Cs (suc s) ≡ x.found
    at_new = ap (λ Ms. matrix_at p n Ms (suc s)) cs_are ∙ new_at p n (Members c.colons) x.found (suc s) (sym W.colons.count)

    facts : (j : ℕ) → j ≤ s + 1 → IsEverything p n (matrix_at p n Cs j) ↔ Lands j
    facts j h = colon_fact p n shape (colons_of Cs s more) j h

    grown : length (c.colons ++ x ∷ []) ≡ suc s
    grown = length-append c.colons (x ∷ []) ∙ omega arith

    settled_leads : (o : Outside) → ¬ (IsEverything p n x.found) → (z : Inside r) → Says r c.graph W.graph 1 x.found.columns z → lead (colon_settled r c x o z)
    unfolding lead
    settled_leads o improper (all_inside ws) says = (
      Cs,
      s,
      colons_of Cs s more,
      subst₂ (λ A B. ColumnsInImage p n A B) (sym at_last) (sym at_new) ((says_decides r c.graph W.graph x.found (all_inside ws) says).0 refl),
      λ e. W.proper (subst (IsEverything p n) at_last e),
    )
    settled_leads o improper (first_outside o') says = record {
      graph = J.generating.graph;
      matrix = J.generating.graph_matrix ∙ sym at_new ∙ ap (matrix_at p n Cs) (sym grown);
      colons = subst (Partial Cs) (sym grown) more;
      proper = λ e. improper (subst (IsEverything p n) J.generating.graph_matrix e);
    }

    next_leads : (y : Inside r) → IsEverything p n x.found ↔ (is_yes r y ≡ true) → (units left : ℕ) (t : Turn (Colons r) (Coloned r)) → Ends (colon_next r c x y units) t left → lead t
    unfolding lead
    next_leads (all_inside ws) d units left t ends = subst lead (same_value (last (whole_at (suc s))) t units left ends) (
      (facts (suc s) (omega arith)).0 (subst (IsEverything p n) (sym at_new) (d.1 refl)),
      λ j e l. W.proper (subst (IsEverything p n) at_last ((facts s (omega arith)).1 (subst Lands (let q : j ≡ s = omega (arith, e) in q) l))),
    )
    next_leads (first_outside o) d units left t ends =
        let a = bound (inside_run r x.found c.graph) (λ z. ready (colon_settled r c x o z)) units left t ends in
        let says = inside_is r c.graph W.graph x.found (length x.found.columns) (subst (λ k. HasShape p n k (length x.found.columns) x.found) (sym rows) found_shape) units a.between a.value a.first in
        subst lead (same_value (colon_settled r c x o a.value) t a.between left a.second) (settled_leads o (λ e. false≢true (d.0 e)) a.value says)

  turn_leads : (c : Colons r) (units left : ℕ) (t : Turn (Colons r) (Coloned r)) → ColonsTo c → Ends (colon_turn r f c units) t left → lead t
  turn_leads c units left t W ends =
      let g = c.graph.matrix.rows in
      let after = λ (x : Preimage r). whole_run r x.graph >>= colon_next r c x in
      let e = task_ends Alone names.Colon (suc (length c.colons)) (preimage_run r (matrix_scalar p n f g) c.graph.matrix >>= after) units left t ends in
      let a = bound (preimage_run r (matrix_scalar p n f g) c.graph.matrix) after units left t e in
      let x = a.value in
      let J = preimage_run_is r g g (width r c.graph) (matrix_scalar p n f g) c.graph.matrix (scalar_fits p n f g) W.graph.shape units a.between x a.first in
      let b = bound (whole_run r x.graph) (colon_next r c x) a.between left t a.second in
      let D = J.generating in
      let d = says_decides r x.graph D.graph (matrix_unit p n x.graph.matrix.rows) b.value (whole_is r x.graph D.graph a.between b.between b.value b.first) in
      next_leads c W x J b.value (subst (λ A. IsEverything p n A ↔ (is_yes r b.value ≡ true)) D.graph_matrix (d.1, d.0)) b.between left t b.second

  unit_power : matrix_scalar p n (polynomial_power p n 0 f) K.rows ≡ matrix_unit p n K.rows
  unfolding matrix_scalar matrix_unit unit_matrix polynomial_power power
  unit_power = refl

  pub coloned_is : (k : Graph r) → IsCompletedGraph r k → k.matrix ≡ K → (y : Inside r) → (is_yes r y ≡ true) ↔ IsEverything p n K → (units left : ℕ) (c : Coloned r) → Ends (coloned r f k y units) c left → ColonsSay c
  unfolding matrix_at lead
  coloned_is k G e (all_inside ws) d units left c ends = subst ColonsSay (same_value (whole_at 0) c units left ends) (
    subst (ColumnsInImage p n K) (sym unit_power) (d.0 refl),
    λ j q. absurd (omega (arith, q)),
  )
  coloned_is k G e (first_outside o) d units left c ends = turns_lead (out_of_units Alone names.Colon) (colon_turn r f) ColonsTo ColonsSay turn_leads units (record { colons = []; graph = k; proper = o }) units left c (record {
    graph = G;
    matrix = e;
    colons = record { count = refl; fits = λ j h. fits j (omega (arith, h)); first = refl; step = λ j h. absurd (omega (arith, h)) };
    proper = λ q. false≢true (d.1 (subst (IsEverything p n) e q));
  }) ends
    where
      fits : (j : ℕ) → j ≡ 0 → HasShape p n K.rows (length (matrix_at p n (K ∷ []) j).columns) (matrix_at p n (K ∷ []) j)
      fits zero h = shape
      fits (suc j) h = absurd (omega arith)

module _ (r : Ring) where
  -- the answer that a value of the colons leads to
  module _ (i : ℕ) (fs : Ideal r) (b : BaseOf r) (B : Based r i fs b) (f : Polynomial r.prime r.vars) where
    abbrev K : MatrixOf r
    K = b.chain.stable.matrix

    abbrev Holding : Option ℕ → Type 0
    Holding k = Holds r.prime r.vars (inverting i (resolved r fs b.ext) f k)

    inverted_right : (c : Coloned r) → ColonsSay r K B.stable.shape f c → (units left : ℕ) (y : Inverted r) → Ends (inverted_of r f b.chain.stable c units) y left → Holding (power_of r y)
    inverted_right (stable_at colons w o) says units left y ends = subst (λ y. Holding (power_of r y)) (same_value (never_inverted colons w o) y units left ends)
        (inverting_no_verdict r.prime r.vars B.facts f says.0 says.1 (subst (λ A. IsColons r.prime r.vars A f says.0 says.1) B.stable_matrix says.2) says.3 says.4)
    inverted_right (whole_at k) says units left y ends =
        let ending = λ (w : MatrixOf r). before_power r k f b.chain.stable >>= λ o. ready (by_power k w o) in
        let lifting = λ (h : Polynomial r.prime r.vars). lifted r b.chain.stable (matrix_scalar r.prime r.vars h K.rows).columns >>= ending in
        let e = task_ends Alone names.Power 0 (power_run r k f >>= lifting) units left y ends in
        let a = bound (power_run r k f) lifting units left y e in
        let c = bound (lifted r b.chain.stable (matrix_scalar r.prime r.vars a.value K.rows).columns) ending a.between left y a.second in
        let d = bound (before_power r k f b.chain.stable) (λ o. ready (by_power k c.value o)) c.between left y c.second in
        subst (λ y. Holding (power_of r y)) (same_value (by_power k c.value d.value) y d.between left d.second)
        (inverting_yes_verdict r.prime r.vars B.facts f k (subst (λ A. ColumnsInImage r.prime r.vars A (matrix_scalar r.prime r.vars (polynomial_power r.prime r.vars k f) A.rows)) B.stable_matrix says.0)
        (λ j q l. says.1 j q (subst (λ A. ColumnsInImage r.prime r.vars A (matrix_scalar r.prime r.vars (polynomial_power r.prime r.vars j f) A.rows)) (sym B.stable_matrix) l)))

  pub invert_right : (i : ℕ) (fs : Ideal r) (f : Polynomial r.prime r.vars) (units left : ℕ) (x : Found r) → Ends (plan r (ask_invert i fs f) units) x left
      → RestsOn r.prime r.vars (verdict r x) × Holds r.prime r.vars (verdict r x)
  unfolding plan verdict
  invert_right i fs f units left x ends =
      let ending = λ (b : BaseOf r) (c : Coloned r). inverted_of r f (stable_graph r b) c >>= λ s. ready (found_invert i fs b f s) in
      let colons = λ (b : BaseOf r) (y : Inside r). coloned r f (stable_graph r b) y >>= ending b in
      let after = λ (b : BaseOf r). task Alone names.Colon 0 (whole_run r (stable_graph r b)) >>= colons b in
      let a = bound (base_plan r Alone i fs) after units left x ends in
      let b = a.value in
      let B = base_is r i fs Alone units a.between b a.first in
      let K = b.chain.stable.matrix in
      let c = bound (task Alone names.Colon 0 (whole_run r (stable_graph r b))) (colons b) a.between left x a.second in
      let says = whole_is r b.chain.stable B.stable a.between c.between c.value (task_ends Alone names.Colon 0 (whole_run r (stable_graph r b)) a.between c.between c.value c.first) in
      let decides = says_decides r b.chain.stable B.stable (matrix_unit r.prime r.vars K.rows) c.value says in
      let d = bound (coloned r f (stable_graph r b) c.value) (ending b) c.between left x c.second in
      let C = coloned_is r K B.stable.shape f b.chain.stable B.stable refl c.value decides c.between d.between d.value d.first in
      let e = bound (inverted_of r f (stable_graph r b) d.value) (λ s. ready (found_invert i fs b f s)) d.between left x d.second in
      subst (λ x. RestsOn r.prime r.vars (verdict r x) × Holds r.prime r.vars (verdict r x)) (same_value (found_invert i fs b f e.value) x e.between left e.second)
      (B.facts.resolved, inverted_right i fs b B f d.value C d.between e.between e.value e.first)
