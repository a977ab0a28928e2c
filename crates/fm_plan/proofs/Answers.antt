-- Plans that end with an answer answer rightly: the verdict holds.
use Rattle.std.proofs.Common.{ℕ, ◌≡◌, ◌↔◌, IsTrue, inl, inr, ◌*◌, ◌/◌, ◌%◌, cond, eqb, [], ◌∷◌, length, refl, sym, ap, ◌∙◌, subst}
use Rattle.fm_gfp.specs.declared.prime.Prime.{Prime}
use Rattle.fm_algebra.specs.Polynomials.{Polynomial, polynomials}
use Rattle.fm_algebra.specs.PolynomialMatrices.{HasShape, InImage, matrix_unit, matrix_column}
use Rattle.fm_limit.specs.ResolvedIdeal.{row, InIdeal}
use Rattle.fm_limit.specs.Facts.{IsEverything, unit_column, diagonal_blocks, IsAnnihilatorRow}
use Rattle.fm_limit.proofs.VerdictLaws.{entries_verdict}
use Rattle.fm_limit.specs.Verdicts.{RestsOn, Holds, root}
use Rattle.fm_limit.proofs.MatrixWords.{row_fits, shape_rows, shape_columns}
use Rattle.fm_limit.proofs.VerdictLaws.{zero_verdict, root_verdict, ext_verdict, member_verdict, resolution_verdict}
use Rattle.fm_algebra.specs.Matrix.{column_matrix, entry}
use Rattle.fm_algebra.proofs.Tables.{column_shaped, table_shaped}
use Rattle.fm_groebner.proofs.Setting.{In, here}
use Rattle.fm_poly.specs.declared.ring.Ring.{Ring}
use Rattle.fm_run.specs.Runs.{ready, ◌>>=◌}
use Rattle.fm_graphs.specs.Listing.{VectorOf}
use Rattle.fm_graphs.specs.Trims.{preimage_run}
use Rattle.fm_graphs.specs.Graphs.{MatrixOf, Graph, graph_run, inside_run, whole_run}
use Rattle.fm_run.proofs.Ends.{Ends, same_value, bound}
use Rattle.fm_complete.proofs.PendingPairs.{in_cases}
use Rattle.fm_graphs.proofs.Graphs.{graph_is}
use Rattle.fm_graphs.proofs.Lifts.{inside_is, whole_is}
use Rattle.fm_graphs.proofs.Preimages.{own_shape, preimage_run_is}
use Rattle.fm_run.specs.declared.task.Side.TheVariants.{Alone}
use Rattle.fm_plan.specs.Tasks.{task}
use Rattle.fm_plan.specs.Results.{Resolution, Ideal, differentials_of, resolved}
use Rattle.fm_plan.specs.Base.{resolution_plan, ext_plan}
use Rattle.fm_plan.specs.Queries.{BaseOf, base_plan, stable_graph, stable_of, is_yes, Found, found_zero, found_root, found_resolution, found_ext, found_member, found_support, ask_zero, ask_root, ask_resolution, ask_ext, ask_member, ask_support, plan, verdict}
use Rattle.fm_plan.proofs.Tasks.{task_ends, columns_in, in_columns}
use Rattle.fm_plan.proofs.Resolving.{resolution_is}
use Rattle.fm_plan.proofs.Exts.{ext_is}
use Rattle.fm_plan.proofs.Bases.{base_is, says_decides}
use Rattle.fm_run.specs.declared.task.Name.TheVariants as names

module _ (r : Ring) where
  abbrev p : Prime
  p = r.prime

  abbrev n : ℕ
  n = r.vars

  abbrev pub Right : Found r → Type 0
  Right x = RestsOn p n (verdict r x) × Holds p n (verdict r x)

  pub zero_right : (i : ℕ) (fs : Ideal r) (units left : ℕ) (x : Found r) → Ends (plan r (ask_zero i fs) units) x left → Right x
  unfolding plan verdict
  zero_right i fs units left x ends =
      let after = λ (b : BaseOf r). task Alone names.Whole 0 (whole_run r (stable_graph r b)) >>= λ y. ready (found_zero i fs b y) in
      let a = bound (base_plan r Alone i fs) after units left x ends in
      let b = a.value in
      let B = base_is r i fs Alone units a.between b a.first in
      let d = bound (task Alone names.Whole 0 (whole_run r (stable_graph r b))) (λ y. ready (found_zero i fs b y)) a.between left x a.second in
      let says = whole_is r b.chain.stable B.stable a.between d.between d.value (task_ends Alone names.Whole 0 (whole_run r (stable_graph r b)) a.between d.between d.value d.first) in
      let decides = says_decides r b.chain.stable B.stable (matrix_unit p n b.chain.stable.matrix.rows) d.value says in
      subst Right (same_value (found_zero i fs b d.value) x d.between left d.second)
      (B.facts.resolved, zero_verdict p n B.facts B.first (is_yes r d.value) (subst (λ K. IsTrue (is_yes r d.value) ↔ IsEverything p n K) B.stable_matrix decides))

  pub root_right : (i : ℕ) (fs : Ideal r) (units left : ℕ) (x : Found r) → Ends (plan r (ask_root i fs) units) x left → Right x
  unfolding plan verdict
  root_right i fs units left x ends =
      let a = bound (base_plan r Alone i fs) (λ b. ready (found_root i fs b)) units left x ends in
      let b = a.value in
      let B = base_is r i fs Alone units a.between b a.first in
      subst Right (same_value (found_root i fs b) x a.between left a.second)
      (B.facts.resolved, subst (λ K. Holds p n (root i (resolved r fs b.ext) b.ext.cocycles.found K b.ext.u (length b.ext.cocycles.found.columns) (stable_of r b))) (sym B.stable_matrix) (root_verdict p n B.facts B.first))

  pub resolution_right : (i : ℕ) (fs : Ideal r) (units left : ℕ) (x : Found r) → Ends (plan r (ask_resolution i fs) units) x left → Right x
  unfolding plan verdict
  resolution_right i fs units left x ends =
      let a = bound (resolution_plan r Alone i fs) (λ y. ready (found_resolution i fs y)) units left x ends in
      let X = resolution_is r Alone i fs units a.between a.value a.first in
      subst Right (same_value (found_resolution i fs a.value) x a.between left a.second) (X.resolution, resolution_verdict p n fs i (differentials_of r a.value) X.resolution)

  pub ext_right : (i : ℕ) (fs : Ideal r) (units left : ℕ) (x : Found r) → Ends (plan r (ask_ext i fs) units) x left → Right x
  unfolding plan verdict
  ext_right i fs units left x ends =
      let after = λ (y : Resolution r). ext_plan r Alone i y >>= λ z. ready (found_ext i fs z) in
      let a = bound (resolution_plan r Alone i fs) after units left x ends in
      let X = resolution_is r Alone i fs units a.between a.value a.first in
      let d = bound (ext_plan r Alone i a.value) (λ z. ready (found_ext i fs z)) a.between left x a.second in
      let E = ext_is r Alone i fs a.value X a.between d.between d.value d.first in
      subst Right (same_value (found_ext i fs d.value) x d.between left d.second)
      (E.is_resolved, ext_verdict p n i (resolved r fs d.value) d.value.cocycles.found d.value.relations.found d.value.u E.presents)

  pub member_right : (fs : Ideal r) (f : Polynomial p n) (units left : ℕ) (x : Found r) → Ends (plan r (ask_member fs f) units) x left → Right x
  unfolding plan verdict InIdeal HasShape matrix_column column_matrix
  member_right fs f units left x ends =
      let work = graph_run r (row p n fs) in
      let column = matrix_column p n (f ∷ []) in
      let after = λ (g : Graph r). task Alone names.Member 0 (inside_run r column g) >>= λ y. ready (found_member fs f g y) in
      let a = bound (task Alone names.Resolve 1 work) after units left x ends in
      let g = a.value in
      let G = graph_is r (row p n fs) (own_shape r 1 (length fs) (row p n fs) (row_fits p n fs)) units a.between g (task_ends Alone names.Resolve 1 work units a.between g a.first) in
      let d = bound (task Alone names.Member 0 (inside_run r column g)) (λ y. ready (found_member fs f g y)) a.between left x a.second in
      let one : 1 ≡ g.matrix.rows = sym (ap (λ (A : MatrixOf r). A.rows) G.1 ∙ shape_rows p n 1 (length fs) (row p n fs) (row_fits p n fs)) in
      let says = inside_is r g G.0 column 1 (subst (λ k. HasShape p n k 1 column) one (column_shaped (polynomials p n) 1 (f ∷ []) refl)) a.between d.between d.value
      (task_ends Alone names.Member 0 (inside_run r column g) a.between d.between d.value d.first) in
      let decides = says_decides r g G.0 column d.value says in
      subst Right (same_value (found_member fs f g d.value) x d.between left d.second) (
        tt,
        member_verdict p n fs f (is_yes r d.value) (
          (λ t. subst (λ A. InImage p n A (f ∷ [])) G.1 (in_columns r g.matrix column (decides.0 t) (f ∷ []) here)),
          (λ h. decides.1 (columns_in r g.matrix column (λ v k. subst (InImage p n g.matrix) (only v k) (subst (λ A. InImage p n A (f ∷ [])) (sym G.1) h)))),
        ),
      )
    where
      only : (v : VectorOf r) → In ((f ∷ []) ∷ []) v → f ∷ [] ≡ v
      only v i = elim (in_cases (f ∷ []) [] v i) [ inl e ↦ sym e | inr j ↦ elim j [ ] ]

  -- ---- support
  pub unit_shape : (g : ℕ) → HasShape p n (g * g) 1 (unit_column p n g)
  unfolding HasShape unit_column
  unit_shape g = table_shaped (polynomials p n) (g * g) 1 (g * g) 1 (λ i j. cond (eqb (i / g) (i % g)) (polynomials p n).one (polynomials p n).zero) refl refl

  pub blocks_shape : (K : MatrixOf r) → HasShape p n (K.rows * K.rows) (K.rows * length K.columns) (diagonal_blocks p n K)
  unfolding HasShape diagonal_blocks
  blocks_shape K = table_shaped (polynomials p n) (K.rows * K.rows) (K.rows * length K.columns) (K.rows * K.rows) (K.rows * length K.columns)
      (λ i j. cond (eqb (i / K.rows) (j / length K.columns)) (entry (polynomials p n) K (i % K.rows) (j % length K.columns)) (polynomials p n).zero) refl refl

  pub support_right : (i : ℕ) (fs : Ideal r) (units left : ℕ) (x : Found r) → Ends (plan r (ask_support i fs) units) x left → Right x
  unfolding plan verdict
  support_right i fs units left x ends =
      let work = λ (b : BaseOf r). preimage_run r (unit_column p n b.chain.stable.matrix.rows) (diagonal_blocks p n b.chain.stable.matrix) in
      let a = bound (base_plan r Alone i fs) (λ b. task Alone names.Annihilator 0 (work b) >>= λ y. ready (found_support i fs b y)) units left x ends in
      let b = a.value in
      let K = b.chain.stable.matrix in
      let g = K.rows in
      let B = base_is r i fs Alone units a.between b a.first in
      let d = bound (task Alone names.Annihilator 0 (work b)) (λ y. ready (found_support i fs b y)) a.between left x a.second in
      let J = preimage_run_is r (g * g) 1 (g * length K.columns) (unit_column p n g) (diagonal_blocks p n K) (unit_shape g) (blocks_shape K) a.between d.between d.value (task_ends Alone names.Annihilator 0 (work b) a.between d.between d.value d.first) in
      let row_is : IsAnnihilatorRow p n K d.value.found = record {
        fits = subst (λ k. HasShape p n k (length d.value.found.columns) d.value.found) (shape_columns p n (g * g) 1 (unit_column p n g) (unit_shape g)) J.generating.found_shape;
        generates = J.generates;
      } in
      subst Right (same_value (found_support i fs b d.value) x d.between left d.second)
      (B.facts.resolved, entries_verdict p n B.facts d.value.found (subst (λ M. IsAnnihilatorRow p n M d.value.found) B.stable_matrix row_is))
