-- The plan of a class answers rightly.
use Rattle.std.proofs.Common.{ℕ, zero, suc, ◌+◌, ◌<◌, ◌≤◌, ◌≡◌, ◌==◌, if◌then◌else◌, Bool, true, false, Option, Some, None, List, [], ◌∷◌, map, take, length, get_or, inl, inr, refl, sym, ap, ap₂, ◌∙◌, subst, arith}
use Rattle.std.proofs.lemmas.Bool.{eqb-true}
use native.Mathlib.Decide.{dec_lt}
use Rattle.fm_gfp.specs.declared.prime.Prime.{Prime}
use Rattle.fm_algebra.specs.Matrix.{column_matrix}
use Rattle.fm_algebra.specs.Polynomials.{polynomials, polynomial_zero}
use Rattle.fm_algebra.specs.PolynomialMatrices.{HasShape, InImage, InKernel, matrix_product, matrix_transpose, matrix_twist, matrix_column, vector_product}
use Rattle.fm_algebra.proofs.PolynomialMatrices.{act_column}
use Rattle.fm_algebra.proofs.Tables.{length-apply, column_shaped}
use Rattle.fm_limit.specs.ResolvedIdeal.{ResolvedIdeal, matrix_at, columns_of, rank}
use Rattle.fm_limit.specs.Facts.{AreCoordinates, DegreeFacts}
use Rattle.fm_limit.specs.Classes.{IsClass}
use Rattle.fm_limit.specs.Verdicts.{RestsOn, Holds, zero_class}
use Rattle.fm_groebner.specs.Graphs.{zero_vector}
use Rattle.fm_groebner.proofs.Setting.{In}
use Rattle.fm_groebner.proofs.Numbers.{in_of_number}
use Rattle.fm_complete.proofs.PendingPairs.{in_cases}
use Rattle.fm_limit.proofs.StageWords.{class_words}
use Rattle.fm_limit.proofs.Waist.{coordinates_fact}
use Rattle.fm_limit.proofs.VerdictLaws.{class_no_verdict, class_yes_verdict}
use Rattle.fm_limit.proofs.MatrixWords.{twist_fits, transpose_fits, shape_rows, shape_columns}
use Rattle.fm_poly.specs.declared.ring.Ring.{Ring}
use Rattle.fm_run.specs.Runs.{ready, ◌>>=◌}
use Rattle.fm_graphs.specs.Listing.{VectorOf, terms_of}
use Rattle.fm_graphs.specs.Graphs.{MatrixOf, Graph, Outside, Inside, all_inside, first_outside, width, inside_run, twisted_graph}
use Rattle.fm_graphs.specs.Bounds.{multiplied, twisted_matrix}
use Rattle.fm_graphs.specs.Trims.{Preimage, is_zero}
use Rattle.fm_run.proofs.Ends.{Ends, same_value, no_value, bound, bounded_value}
use Rattle.fm_graphs.specs.Graphs.{IsCompletedGraph}
use Rattle.fm_graphs.proofs.Lifts.{Says, inside_is, twisted_is}
use Rattle.fm_graphs.proofs.Preimages.{zero_terms}
use Rattle.fm_run.specs.declared.task.Side.TheVariants.{Alone}
use Rattle.fm_plan.specs.Tasks.{Refusal, wrong_length, not_a_cocycle, refused, task}
use Rattle.fm_plan.specs.Results.{Resolution, Ideal, Killed, killed_at, never_killed, differentials_of, resolved, kernels, stable_index}
use Rattle.fm_plan.specs.Base.{resolution_plan}
use Rattle.fm_plan.specs.Queries.{BaseOf, base_of, allowed, cocycle_work, unless, first_nonzero, lift_at, solution_of, killed_or, stages, chain_graphs, stage_of, Found, found_class, ask_class, plan, verdict}
use Rattle.fm_plan.proofs.Tasks.{task_ends, unless_ends}
use Rattle.fm_plan.proofs.Resolving.{resolution_is}
use Rattle.fm_plan.proofs.Chains.{LinkGraphs}
use Rattle.fm_plan.proofs.Bases.{Based, base_from}
use Rattle.fm_run.specs.declared.task.Name.TheVariants as names

pub allowed_ends : (r : Ring) (test : Bool) (refusal : Refusal) (units left : ℕ) (u : Unit {0}) → Ends (allowed r test refusal units) u left → test ≡ true
allowed_ends r true refusal units left u e = refl
allowed_ends r false refusal units left u e = absurd (no_value (refused refusal) u units left e)

module _ (r : Ring) where
  abbrev p : Prime
  p = r.prime

  abbrev n : ℕ
  n = r.vars

  -- ---- the test
  -- a vector without an entry that isn't zero is zero
  all_zero : (k : ℕ) (v : VectorOf r) → first_nonzero r k v ≡ None → v ≡ zero_vector p n (length v)
  all_zero k [] none = refl
  all_zero k (f ∷ fs) none = go (is_zero (terms_of r (f ∷ []))) refl none (λ later. all_zero (suc k) fs later)
    where
      some_is_none : (k : ℕ) → ◌≡◌ {A = Option ℕ} (Some k) None → ⊥
      some_is_none k e = cc

      go : (b : Bool) → is_zero (terms_of r (f ∷ [])) ≡ b → (if b then first_nonzero r (suc k) fs else Some k) ≡ None → (first_nonzero r (suc k) fs ≡ None → fs ≡ zero_vector p n (length fs)) → f ∷ fs ≡ zero_vector p n (suc (length fs))
      go true z none later = let one : f ∷ [] ≡ zero_vector p n 1 = zero_terms r 1 (f ∷ []) refl z in ap₂ (λ g gs. g ∷ gs) (ap (λ (v : VectorOf r). get_or v 0 f) one) (later none)
      go false z none later = absurd (some_is_none k none)

  pub cocycle_is : (mid high e : ℕ) (d : MatrixOf r) (z : VectorOf r) → HasShape p n mid high d → length z ≡ mid → (units left : ℕ) → Ends (cocycle_work r e d z units) None left → InKernel p n (matrix_transpose p n (matrix_twist p n e d)) z
  unfolding cocycle_work twisted_matrix multiplied matrix_column column_matrix InKernel vector_product polynomial_zero
  cocycle_is mid high e d z s l units left ends =
      let test = λ (B : MatrixOf r). first_nonzero r 1 (get_or B.columns 0 []) in
      let a = bound (twisted_matrix p n e d) (λ D. multiplied p n (matrix_transpose p n D) (matrix_column p n z) >>= λ B. ready (test B)) units left None ends in
      let D = matrix_twist p n e d in
      let M = matrix_transpose p n D in
      let D_is : D ≡ a.value = bounded_value _ D a.value units a.between a.first in
      let b = bound (multiplied p n (matrix_transpose p n a.value) (matrix_column p n z)) (λ B. ready (test B)) a.between left None a.second in
      let B_is : matrix_product p n (matrix_transpose p n a.value) (matrix_column p n z) ≡ b.value = bounded_value _ (matrix_product p n (matrix_transpose p n a.value) (matrix_column p n z)) b.value a.between b.between b.first in
      let shape = transpose_fits p n mid high D (twist_fits p n e mid high d s) in
      let column : matrix_product p n M (matrix_column p n z) ≡ matrix_column p n (vector_product p n M z) = act_column p n high mid M z shape l in
      let passes : test (matrix_column p n (vector_product p n M z)) ≡ None =
      ap test (sym column ∙ ap (λ X. matrix_product p n (matrix_transpose p n X) (matrix_column p n z)) D_is ∙ B_is) ∙ same_value (test b.value) None b.between left b.second in
      let v = vector_product p n M z in
      (l ∙ sym (shape_columns p n high mid M shape), all_zero 1 v passes ∙ ap (zero_vector p n) (length-apply (polynomials p n) M z))

  -- ---- one column
  -- a solution of z, or z isn't in the image
  abbrev ColumnSays : Graph r → VectorOf r → Inside r → Type 0
  ColumnSays h z (all_inside ws) = (length (get_or ws 0 []) ≡ width r h) × (vector_product p n h.matrix (get_or ws 0 []) ≡ z)
  ColumnSays h z (first_outside o) = ¬ (InImage p n h.matrix z)

  column_says : (h : Graph r) (H : IsCompletedGraph r h) (z : VectorOf r) (y : Inside r) → Says r h H 1 (z ∷ []) y → ColumnSays h z y
  column_says h H z (all_inside []) says = absurd says
  column_says h H z (all_inside (w ∷ ws)) says = (says.0, says.1)
  column_says h H z (first_outside o) says = λ i. says.outside (subst (InImage p n h.matrix) (only says.v (in_of_number says.at)) i)
    where
      only : (v : VectorOf r) → In (z ∷ []) v → z ≡ v
      only v i = elim (in_cases z [] v i) [ inl e ↦ sym e | inr j ↦ elim j [ ] ]

  -- z through the graph, twisted
  column_lifted : (g : Graph r) → IsCompletedGraph r g → (e : ℕ) (z : VectorOf r) → length z ≡ g.matrix.rows → (units left : ℕ) (y : Inside r) → Ends (lift_at r e g z units) y left
      → (h : Graph r) × (h.matrix ≡ matrix_twist p n e g.matrix) × ColumnSays h z y
  unfolding lift_at HasShape matrix_column column_matrix
  column_lifted g G e z l units left y ends =
      let a = bound (twisted_graph r e g) (inside_run r (matrix_column p n z)) units left y ends in
      let h = a.value in
      let H = twisted_is r g G e units a.between h a.first in
      let rows : length z ≡ h.matrix.rows = l ∙ sym (ap (λ (A : MatrixOf r). A.rows) H.1 ∙ shape_rows p n g.matrix.rows (width r g) (matrix_twist p n e g.matrix) (twist_fits p n e g.matrix.rows (width r g) g.matrix G.shape)) in
      (h, H.1, column_says h H.0 z y (inside_is r h H.0 (matrix_column p n z) 1 (column_shaped (polynomials p n) h.matrix.rows z rows) a.between left y a.second))

  -- ---- coordinates
  module _ (i : ℕ) (I : ResolvedIdeal p n) (Z U : MatrixOf r) (Ks : List (MatrixOf r)) (t : ℕ) (X : DegreeFacts p n i I Z U Ks t) where
    coordinates_are : (g : Graph r) → IsCompletedGraph r g → g.matrix ≡ Z → (e : ℕ) (z : VectorOf r) → IsClass p n i I e z → (units left : ℕ) (y : Inside r) → Ends (lift_at r e g z units) y left → AreCoordinates p n Z e z (solution_of r y)
    unfolding InImage vector_product
    coordinates_are g G is e z class units left y ends =
        let T = matrix_twist p n e Z in
        let z_shape = X.ext.cocycles_fit in
        let t_shape = twist_fits p n e (rank p n I.differentials i) (length Z.columns) Z z_shape in
        let long : length z ≡ g.matrix.rows = class.fits ∙ sym (ap (λ (A : MatrixOf r). A.rows) is ∙ shape_rows p n (rank p n I.differentials i) (length Z.columns) Z z_shape) in
        let x = column_lifted g G e z long units left y ends in
        let h = x.0 in
        let same : h.matrix ≡ T = x.1 ∙ ap (matrix_twist p n e) is in
        let w = coordinates_fact p n X e z class in
        let inside : InImage p n h.matrix z = subst (λ A. InImage p n A z) (sym same) (w.0, w.1.0 ∙ sym (shape_columns p n (rank p n I.differentials i) (length Z.columns) T t_shape), w.1.1) in
        let s = solved y h inside x.2 in
        (s.0 ∙ ap (λ (A : MatrixOf r). length A.columns) same ∙ shape_columns p n (rank p n I.differentials i) (length Z.columns) T t_shape, ap (λ A. vector_product p n A (solution_of r y)) (sym same) ∙ s.1)
      where
        solved : (y : Inside r) (h : Graph r) → InImage p n h.matrix z → ColumnSays h z y → (length (solution_of r y) ≡ width r h) × (vector_product p n h.matrix (solution_of r y) ≡ z)
        solved (all_inside ws) h inside says = says
        solved (first_outside o) h inside says = absurd (says inside)

  -- ---- stages
  module _ (Ks : List (MatrixOf r)) (e : ℕ) (w : VectorOf r) where
    abbrev pub Dies : ℕ → Type 0
    Dies s = InImage p n (matrix_twist p n e (matrix_at p n Ks s)) w

    -- the graphs of K_s, K_(s+1), .., each with as many rows as w has entries
    abbrev pub StageGraphs : ℕ → List (Graph r) → Type 0
    StageGraphs s [] = Unit {0}
    StageGraphs s (g ∷ gs) = IsCompletedGraph r g × (g.matrix ≡ matrix_at p n Ks s) × (length w ≡ g.matrix.rows) × StageGraphs (suc s) gs

    abbrev pub KilledSays : ℕ → Killed r → Type 0
    KilledSays end (killed_at s v before) = (s < end) × Dies s × ((k : ℕ) → k < s → ¬ (Dies k))
    KilledSays end (never_killed before) = (k : ℕ) → k < end → ¬ (Dies k)

    abbrev StageSays : ℕ → Inside r → Type 0
    StageSays s (all_inside ws) = Dies s
    StageSays s (first_outside o) = ¬ (Dies s)

    lifts_say : (g : Graph r) → IsCompletedGraph r g → (s : ℕ) → g.matrix ≡ matrix_at p n Ks s → length w ≡ g.matrix.rows → (y : Inside r) (units left : ℕ) → Ends (lift_at r e g w units) y left → StageSays s y
    unfolding InImage vector_product
    lifts_say g G s is l y units left ends =
        let x = column_lifted g G e w l units left y ends in
        go y x.0 (x.1 ∙ ap (matrix_twist p n e) is) x.2
      where
        go : (y : Inside r) (h : Graph r) → h.matrix ≡ matrix_twist p n e (matrix_at p n Ks s) → ColumnSays h w y → StageSays s y
        go (all_inside ws) h same says = subst (λ A. InImage p n A w) same (get_or ws 0 [], says.0, says.1)
        go (first_outside o) h same says = λ i. says (subst (λ A. InImage p n A w) (sym same) i)

    pub stages_say : (s : ℕ) (before : Option Outside) (gs : List (Graph r)) → StageGraphs s gs → ((k : ℕ) → k < s → ¬ (Dies k)) → (units left : ℕ) (y : Killed r) → Ends (stages r e w s before gs units) y left → KilledSays (s + length gs) y
    stages_say s before [] G none units left y ends = subst (KilledSays (s + 0)) (same_value (never_killed before) y units left ends) (λ k h. none k (omega arith))
    stages_say s before (g ∷ gs) G none units left y ends =
        let a = bound (task Alone names.Stage s (lift_at r e g w)) (killed_or r s before (λ o. stages r e w (suc s) (Some o) gs)) units left y ends in
        go a.value a.between (lifts_say g G.0 s G.1 G.2 a.value units a.between (task_ends Alone names.Stage s (lift_at r e g w) units a.between a.value a.first)) a.second
        (λ before units left y none. stages_say (suc s) before gs G.3 none units left y)
      where
        moved : (s l : ℕ) → suc s + l ≡ s + suc l
        moved s l = omega arith

        later : (none' : (k : ℕ) → k < s → ¬ (Dies k)) → ¬ (Dies s) → (k : ℕ) → k < suc s → ¬ (Dies k)
        later none' w k h = elim (dec_lt k s) [ yes l ↦ none' k l | no v ↦ (let q : s ≡ k = omega (arith, v, h) in subst (λ k. ¬ (Dies k)) q w) ]

        go : (x : Inside r) (u : ℕ) → StageSays s x → Ends (killed_or r s before (λ o. stages r e w (suc s) (Some o) gs) x u) y left
            → ((before : Option Outside) (units left : ℕ) (y : Killed r) → ((k : ℕ) → k < suc s → ¬ (Dies k)) → Ends (stages r e w (suc s) before gs units) y left → KilledSays (suc s + length gs) y) → KilledSays (s + length (g ∷ gs)) y
        go (all_inside ws) u dies ends rest = subst (KilledSays (s + suc (length gs))) (same_value (killed_at s (get_or ws 0 []) before) y u left ends) (omega arith, dies, none)
        go (first_outside o) u lives ends rest = subst (λ k. KilledSays k y) (moved s (length gs)) (rest (Some o) u left y (later none lives) ends)

    -- the graphs of the links
    link_stages : (k s : ℕ) (xs : List (Preimage r)) → LinkGraphs r xs → ((l : ℕ) → matrix_at p n (map (λ (x : Preimage r). x.found) xs) l ≡ matrix_at p n Ks (s + l)) → ((l : ℕ) → l < k → length w ≡ (matrix_at p n Ks (s + l)).rows) → k ≤ length xs
        → StageGraphs s (take k (map (λ (x : Preimage r). x.graph) xs)) × (length (take k (map (λ (x : Preimage r). x.graph) xs)) ≡ k)
    unfolding matrix_at
    link_stages zero s xs L at rows h = (tt, refl)
    link_stages (suc k) s [] L at rows h = absurd (omega arith)
    link_stages (suc k) s (x ∷ xs) L at rows h =
        let later = link_stages k (suc s) xs L.2 (λ l. at (suc l) ∙ ap (matrix_at p n Ks) (moved s l)) (λ l b. rows (suc l) (omega (arith, b)) ∙ ap (λ q. (matrix_at p n Ks q).rows) (moved s l)) (omega arith) in
        let here_is : x.graph.matrix ≡ matrix_at p n Ks s = L.1 ∙ at 0 ∙ ap (matrix_at p n Ks) (plain s) in
        ((L.0, here_is, rows 0 (omega arith) ∙ ap (λ q. (matrix_at p n Ks q).rows) (plain s) ∙ sym (ap (λ (A : MatrixOf r). A.rows) here_is), later.0), ap suc later.1)
      where
        moved : (s l : ℕ) → s + suc l ≡ suc s + l
        moved s l = omega arith

        plain : (s : ℕ) → s + 0 ≡ s
        plain s = omega arith

  -- ---- the answer
  module _ (i : ℕ) (fs : Ideal r) (b : BaseOf r) (B : Based r i fs b) where
    abbrev I : ResolvedIdeal p n
    I = resolved r fs b.ext

    abbrev Ks : List (MatrixOf r)
    Ks = kernels r b.ext b.chain

    abbrev t : ℕ
    t = stable_index r b.chain

    abbrev Z : MatrixOf r
    Z = b.ext.cocycles.found

    killed_right : (e : ℕ) (z w : VectorOf r) → IsClass p n i I e z → AreCoordinates p n Z e z w → (y : Killed r) → KilledSays Ks e w (suc t) y → Holds p n (zero_class i I e z (stage_of r e y))
    killed_right e z w class coords (killed_at s v before) says =
        class_yes_verdict p n B.facts e z w s class coords (let h = says.0 in omega (arith, h)) says.1 (λ k q. says.2 k (omega (arith, q)))
    killed_right e z w class coords (never_killed before) says = class_no_verdict p n B.facts e z w class coords (says t (omega arith))

    all_stages : (e : ℕ) (w : VectorOf r) → length w ≡ length Z.columns → StageGraphs Ks e w 0 (chain_graphs r b) × (length (chain_graphs r b) ≡ suc t)
    unfolding matrix_at
    all_stages e w l =
        let rows : (k : ℕ) → k ≤ suc t → length w ≡ (matrix_at p n Ks k).rows = (λ k h. l ∙ sym (shape_columns p n (length Z.columns) (length Z.columns) b.ext.u B.facts.ext.morphism_fits)
        ∙ sym (shape_rows p n (length b.ext.u.columns) (length (matrix_at p n Ks k).columns) (matrix_at p n Ks k) (B.facts.chain.fits k h))) in
        let later = link_stages Ks e w t 1 b.chain.links B.links (λ l. ap (matrix_at p n Ks) (one l)) (λ l h. rows (1 + l) (omega (arith, h))) (let c = B.count in omega (arith, c)) in
        ((B.relations, B.relations_matrix, rows 0 (omega arith) ∙ sym (ap (λ (A : MatrixOf r). A.rows) B.relations_matrix), later.0), ap suc later.1)
      where
        one : (l : ℕ) → suc l ≡ 1 + l
        one l = omega arith

  pub class_right : (i : ℕ) (fs : Ideal r) (e : ℕ) (z : VectorOf r) (units left : ℕ) (x : Found r) → Ends (plan r (ask_class i fs e z) units) x left → RestsOn p n (verdict r x) × Holds p n (verdict r x)
  unfolding plan verdict
  class_right i fs e z units left x ends =
      let dat = λ (y : Resolution r). matrix_at p n (differentials_of r y) i in
      let after_stages = λ (b : BaseOf r) (w : VectorOf r). stages r e w 0 None (chain_graphs r b) >>= λ s. ready (found_class i fs b e z w s) in
      let after_base = λ (b : BaseOf r). task Alone names.Coordinates 0 (lift_at r e b.ext.cocycles.graph z) >>= λ y. after_stages b (solution_of r y) in
      let after_length = λ (y : Resolution r). task Alone names.Test 0 (cocycle_work r e (dat y) z) >>= unless r not_a_cocycle >>= λ u'. base_of r Alone i y >>= after_base in
      let fits = λ (y : Resolution r). allowed r (length z == (dat y).rows) (wrong_length (length z) (dat y).rows) in
      let after = λ (y : Resolution r). fits y >>= λ u. after_length y in
      let a = bound (resolution_plan r Alone i fs) after units left x ends in
      let y = a.value in
      let X = resolution_is r Alone i fs units a.between y a.first in
      let c = bound (fits y) (λ u. after_length y) a.between left x a.second in
      let d_shape = X.resolution.fits i (let k = X.resolution.count in omega (arith, k)) in
      let mid = rank p n (differentials_of r y) i in
      let high = columns_of p n (differentials_of r y) i in
      let long : length z ≡ mid = eqb-true (length z) (dat y).rows (allowed_ends r (length z == (dat y).rows) (wrong_length (length z) (dat y).rows) a.between c.between c.value c.first) ∙ shape_rows p n mid high (dat y) d_shape in
      let work = cocycle_work r e (dat y) z in
      let g = bound (task Alone names.Test 0 work >>= unless r not_a_cocycle) (λ u'. base_of r Alone i y >>= after_base) c.between left x c.second in
      let f = bound (task Alone names.Test 0 work) (unless r not_a_cocycle) c.between g.between g.value g.first in
      let none : f.value ≡ None = unless_ends r not_a_cocycle f.value f.between g.between g.value f.second in
      let cocycle = cocycle_is mid high e (dat y) z d_shape long c.between f.between
      (subst (λ o. Ends (work c.between) o f.between) none (task_ends Alone names.Test 0 work c.between f.between f.value f.first)) in
      let h = bound (base_of r Alone i y) after_base g.between left x g.second in
      let b = h.value in
      let B = base_from r i fs Alone y X g.between h.between b h.first in
      let class : IsClass p n i (resolved r fs b.ext) e z = (class_words p n (B.0).facts.resolved e z).1
      (subst (λ (u : Resolution r). InKernel p n (matrix_transpose p n (matrix_twist p n e (dat u))) z) (sym B.1) cocycle) in
      let j = bound (task Alone names.Coordinates 0 (lift_at r e b.ext.cocycles.graph z)) (λ y. after_stages b (solution_of r y)) h.between left x h.second in
      let w = solution_of r j.value in
      let coords = coordinates_are i (resolved r fs b.ext) b.ext.cocycles.found b.ext.u (kernels r b.ext b.chain) (stable_index r b.chain) (B.0).facts b.ext.cocycles.graph (B.0).cocycles (B.0).cocycles_matrix e z class h.between j.between j.value
      (task_ends Alone names.Coordinates 0 (lift_at r e b.ext.cocycles.graph z) h.between j.between j.value j.first) in
      let k = bound (stages r e w 0 None (chain_graphs r b)) (λ s. ready (found_class i fs b e z w s)) j.between left x j.second in
      let S = all_stages i fs b B.0 e w coords.0 in
      let says = stages_say (kernels r b.ext b.chain) e w 0 None (chain_graphs r b) S.0 (λ k h. absurd (omega (arith, h))) j.between k.between k.value k.first in
      subst (λ x. RestsOn p n (verdict r x) × Holds p n (verdict r x)) (same_value (found_class i fs b e z w k.value) x k.between left k.second)
      ((B.0).facts.resolved, killed_right i fs b B.0 e z w class coords k.value (subst (λ q. KilledSays (kernels r b.ext b.chain) e w q k.value) (zero_plus (length (chain_graphs r b)) ∙ S.1) says))
    where
      zero_plus : (q : ℕ) → 0 + q ≡ q
      zero_plus q = omega arith
