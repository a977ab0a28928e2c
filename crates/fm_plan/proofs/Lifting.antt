-- The `lift` tasks give a Frobenius lift: by exactness each column has one.
use Rattle.std.proofs.Common.{ℕ, zero, suc, ◌+◌, ◌<◌, ◌≤◌, ◌≡◌, List, [], ◌∷◌, ◌++◌, map, length, take, get_or, refl, sym, ap, ◌∙◌, subst, subst₂, append_assoc, arith}
use Rattle.std.proofs.lemmas.List.{length-append, get_or_append_left, get_or-append-add}
use native.Mathlib.Decide.{dec_lt}
use Rattle.fm_gfp.specs.declared.prime.Prime.{Prime}
use Rattle.fm_algebra.specs.Polynomials.{Polynomial}
use Rattle.fm_algebra.specs.PolynomialMatrices.{PolynomialMatrix, HasShape, InImage, matrix_product, matrix_twist, matrix_unit, matrix_zero}
use Rattle.fm_limit.specs.ResolvedIdeal.{matrix_at, columns_of, rank, IsResolutionOf, IsFrobeniusLiftOf}
use Rattle.fm_limit.proofs.NextMatrices.{inside, liftable}
use Rattle.fm_limit.proofs.MatrixWords.{unit_fits, shape_rows, shape_columns}
use Rattle.fm_poly.specs.declared.ring.Ring.{Ring}
use Rattle.fm_run.specs.Runs.{ready, ◌>>=◌}
use Rattle.fm_graphs.specs.Graphs.{MatrixOf, Graph, width, lifted}
use Rattle.fm_graphs.specs.Bounds.{multiplied, twisted_matrix}
use Rattle.fm_graphs.specs.Trims.{Preimage}
use Rattle.fm_run.proofs.Ends.{Ends, same_value, bound, bounded_value}
use Rattle.fm_graphs.proofs.Columns.{AllLong, column_length, solutions_shaped, solutions_product}
use Rattle.fm_graphs.specs.Graphs.{IsCompletedGraph}
use Rattle.fm_graphs.proofs.Lifts.{lifted_solves}
use Rattle.fm_run.specs.declared.task.Side.{Side}
use Rattle.fm_run.specs.declared.task.Name.TheVariants.{Lift}
use Rattle.fm_plan.specs.Tasks.{task}
use Rattle.fm_plan.specs.Results.{Resolution, Ideal, graphs_of, differentials_of}
use Rattle.fm_plan.specs.Base.{lift_work, lifting}
use Rattle.fm_plan.proofs.Tasks.{task_ends, in_columns}
use Rattle.fm_plan.proofs.Resolving.{Resolves, Resolved, matrices_from}

module _ (p : Prime) (n : ℕ) {fs : List (Polynomial p n)} {i : ℕ} {ds : List (PolynomialMatrix p n)} (R : IsResolutionOf p n fs i ds) where
  -- a lift with one matrix more
  old_at : (ts : List (PolynomialMatrix p n)) (t : PolynomialMatrix p n) (k : ℕ) → k < length ts → matrix_at p n (ts ++ t ∷ []) k ≡ matrix_at p n ts k
  unfolding matrix_at
  old_at ts t k h = get_or_append_left ts (t ∷ []) (matrix_zero p n 0 0) k h

  new_at : (ts : List (PolynomialMatrix p n)) (t : PolynomialMatrix p n) (k : ℕ) → k ≡ length ts → matrix_at p n (ts ++ t ∷ []) k ≡ t
  unfolding matrix_at
  new_at ts t k h = ap (λ x. get_or (ts ++ t ∷ []) x (matrix_zero p n 0 0)) (let e : k ≡ length ts + 0 = omega (arith, h) in e) ∙ get_or-append-add ts (t ∷ []) 0 (matrix_zero p n 0 0)

  pub longer : (j : ℕ) (ts : List (PolynomialMatrix p n)) (t : PolynomialMatrix p n) → IsFrobeniusLiftOf p n j ds ts → HasShape p n (columns_of p n ds j) (columns_of p n ds j) t
      → matrix_product p n (matrix_at p n ds j) t ≡ matrix_product p n (matrix_at p n ts j) (matrix_twist p n 1 (matrix_at p n ds j)) → IsFrobeniusLiftOf p n (suc j) ds (ts ++ t ∷ [])
  longer j ts t f s e = record {
    count = length-append ts (t ∷ []) ∙ ap (λ k. k + 1) f.count ∙ omega arith;
    fits = λ k h. elim (dec_lt k (suc j)) [
      | yes l ↦ let b : k < length ts = (let c = f.count in omega (arith, c, l)) in subst (HasShape p n (rank p n ds k) (rank p n ds k)) (sym (old_at ts t k b)) (f.fits k b)
      | no w ↦ let b : suc j ≡ k = (let c = f.count in let g = length-append ts (t ∷ []) in omega (arith, c, w, g, h)) in
          subst (λ x. HasShape p n (rank p n ds x) (rank p n ds x) (matrix_at p n (ts ++ t ∷ []) x)) b (subst (HasShape p n (columns_of p n ds j) (columns_of p n ds j)) (sym (new_at ts t (suc j) (let c = f.count in omega (arith, c)))) s)
    ];
    first = old_at ts t zero (let c = f.count in omega (arith, c)) ∙ f.first;
    square = λ k h. elim (dec_lt k j) [
      | yes l ↦
          let c = f.count in
          ap (matrix_product p n (matrix_at p n ds k)) (old_at ts t (suc k) (omega (arith, c, l))) ∙ f.square k l ∙ ap (λ X. matrix_product p n X (matrix_twist p n 1 (matrix_at p n ds k))) (sym (old_at ts t k (omega (arith, c, l))))
      | no w ↦
          let c = f.count in
          let b : j ≡ k = omega (arith, w, h) in
          subst (λ x. matrix_product p n (matrix_at p n ds x) (matrix_at p n (ts ++ t ∷ []) (suc x)) ≡ matrix_product p n (matrix_at p n (ts ++ t ∷ []) x) (matrix_twist p n 1 (matrix_at p n ds x))) b
          (ap (matrix_product p n (matrix_at p n ds j)) (new_at ts t (suc j) (omega (arith, c))) ∙ e ∙ ap (λ X. matrix_product p n X (matrix_twist p n 1 (matrix_at p n ds j))) (sym (old_at ts t j (omega (arith, c)))))
    ];
  }

  pub no_lift : IsFrobeniusLiftOf p n 0 ds (matrix_unit p n 1 ∷ [])
  unfolding matrix_at
  no_lift = record { count = refl; fits = fits; first = refl; square = λ k h. absurd (omega (arith, h)) }
    where
      fits : (k : ℕ) → k < 1 → HasShape p n (rank p n ds k) (rank p n ds k) (matrix_at p n (matrix_unit p n 1 ∷ []) k)
      fits zero h = unit_fits p n 1
      fits (suc k) h = absurd (omega arith)

module _ (r : Ring) (fs : Ideal r) (i : ℕ) (ds : List (MatrixOf r)) (R : IsResolutionOf r.prime r.vars fs i ds) where
  abbrev p : Prime
  p = r.prime

  abbrev n : ℕ
  n = r.vars

  -- one task
  work_is : (g : Graph r) → IsCompletedGraph r g → (j : ℕ) (ts : List (MatrixOf r)) → j < i → g.matrix ≡ matrix_at p n ds j → IsFrobeniusLiftOf p n j ds ts → (units left : ℕ) (t : MatrixOf r)
      → Ends (lift_work r (matrix_at p n ts j) g units) t left → IsFrobeniusLiftOf p n (suc j) ds (ts ++ t ∷ [])
  unfolding lift_work twisted_matrix multiplied
  work_is g G j ts h e f units left t ends =
      let theta = matrix_at p n ts j in
      let d = bound (twisted_matrix p n 1 g.matrix) (λ D. multiplied p n theta D >>= λ B. lifted r g B.columns) units left t ends in
      let D_is : matrix_twist p n 1 g.matrix ≡ d.value = bounded_value _ (matrix_twist p n 1 g.matrix) d.value units d.between d.first in
      let b = bound (multiplied p n theta d.value) (λ B. lifted r g B.columns) d.between left t d.second in
      let B_is : matrix_product p n theta d.value ≡ b.value = bounded_value _ (matrix_product p n theta d.value) b.value d.between b.between b.first in
      let B : MatrixOf r = matrix_product p n theta (matrix_twist p n 1 (matrix_at p n ds j)) in
      let same : B ≡ b.value = ap (λ M. matrix_product p n theta (matrix_twist p n 1 M)) (sym e) ∙ ap (matrix_product p n theta) D_is ∙ B_is in
      let L = liftable p n R j ts (let x = h in omega (arith, x)) f in
      let a = rank p n ds j in
      let c = columns_of p n ds j in
      let df = R.fits j (inside p n R j (omega (arith, h))) in
      let rows : a ≡ g.matrix.rows = sym (shape_rows p n a c (matrix_at p n ds j) df) ∙ ap (λ (M : MatrixOf r). M.rows) (sym e) in
      let wide : width r g ≡ c = ap (λ (M : MatrixOf r). length M.columns) e in
      let long : AllLong p n g.matrix.rows B.columns = (λ v k. column_length p n a c B L.0 v k ∙ rows) in
      let s = lifted_solves r g G B.columns long (λ v k. subst (λ M. InImage p n M v) (sym e) (in_columns r (matrix_at p n ds j) B L.1 v k)) b.between left t
      (subst (λ (M : MatrixOf r). Ends (lifted r g M.columns b.between) t left) (sym same) b.second) in
      let shape : HasShape p n (width r g) (length B.columns) t = subst (HasShape p n (width r g) (length B.columns)) (sym s.1) (solutions_shaped p n a g.matrix B.columns t.columns s.0) in
      let product : matrix_product p n g.matrix t ≡ record { rows = g.matrix.rows; columns = B.columns } = ap (matrix_product p n g.matrix) s.1 ∙ solutions_product p n g.matrix.rows g.matrix B.columns t.columns G.shape long s.0 in
      longer p n R j ts t f (subst₂ (λ x y. HasShape p n x y t) wide (shape_columns p n a c B L.0) shape)
      (ap (λ M. matrix_product p n M t) (sym e) ∙ product ∙ (λ k. record { rows = (sym rows ∙ sym (shape_rows p n a c B L.0)) k; columns = B.columns }))

  -- the graphs of d_(j+1), d_(j+2), ..
  abbrev pub GraphsFrom : ℕ → List (Graph r) → Type 0
  GraphsFrom j [] = Unit {0}
  GraphsFrom j (g ∷ gs) = IsCompletedGraph r g × (g.matrix ≡ matrix_at p n ds j) × (j < i) × GraphsFrom (suc j) gs

  pub lifting_is : (side : Side) (j k : ℕ) (ts : List (MatrixOf r)) (gs : List (Graph r)) → GraphsFrom j gs → IsFrobeniusLiftOf p n j ds ts → (theta : MatrixOf r) → matrix_at p n ts j ≡ theta
      → (units left : ℕ) (later : List (MatrixOf r)) → Ends (lifting r side k theta gs units) later left → IsFrobeniusLiftOf p n (j + length gs) ds (ts ++ later)
  lifting_is side j k ts [] G f theta e units left later ends =
      subst₂ (λ x y. IsFrobeniusLiftOf p n x ds y) (plain j) (sym (append_nil ts) ∙ ap (λ y. ts ++ y) (same_value [] later units left ends)) f
    where
      plain : (j : ℕ) → j ≡ j + 0
      plain j = omega arith

      append_nil : (xs : List (MatrixOf r)) → xs ++ [] ≡ xs
      append_nil [] = refl
      append_nil (x ∷ xs) = ap (λ ys. x ∷ ys) (append_nil xs)
  lifting_is side j k ts (g ∷ gs) G f theta e units left later ends =
      let work = lift_work r theta g in
      let b = bound (task side Lift k work) (λ next. lifting r side (suc k) next gs >>= λ later. ready (next ∷ later)) units left later ends in
      let t = b.value in
      let F = work_is g G.0 j ts G.2 G.1 f units b.between t (subst (λ M. Ends (lift_work r M g units) t b.between) (sym e) (task_ends side Lift k work units b.between t b.first)) in
      let d = bound (lifting r side (suc k) t gs) (λ later. ready (t ∷ later)) b.between left later b.second in
      let rest = lifting_is side (suc j) (suc k) (ts ++ t ∷ []) gs G.3 F t (new_at p n R ts t (suc j) (let c = f.count in omega (arith, c))) b.between d.between d.value d.first in
      subst₂ (λ x y. IsFrobeniusLiftOf p n x ds y) (moved j (length gs)) (append_assoc ts (t ∷ []) d.value ∙ ap (λ y. ts ++ y) (same_value (t ∷ d.value) later d.between left d.second)) rest
    where
      moved : (j l : ℕ) → suc j + l ≡ j + suc l
      moved j l = omega arith

-- ---- the graphs of a resolution
module _ (r : Ring) (fs : Ideal r) (i : ℕ) (x : Resolution r) (X : Resolved r i fs x) where
  abbrev ds : List (MatrixOf r)
  ds = differentials_of r x

  pub graphs_at : (k j : ℕ) (g : Graph r) (xs : List (Preimage r)) → IsCompletedGraph r g → Resolves r g xs → ((l : ℕ) → matrix_at r.prime r.vars (matrices_from r g xs) l ≡ matrix_at r.prime r.vars ds (j + l)) → j + k ≤ i → k ≤ suc (length xs)
      → GraphsFrom r fs i ds X.resolution j (take k (g ∷ map (λ (y : Preimage r). y.graph) xs)) × (length (take k (g ∷ map (λ (y : Preimage r). y.graph) xs)) ≡ k)
  unfolding matrix_at
  graphs_at zero j g xs G S at h l = (tt, refl)
  graphs_at (suc k) j g [] G S at h l = go k l
    where
      go : (k : ℕ) → suc k ≤ 1 → GraphsFrom r fs i ds X.resolution j (take (suc k) (g ∷ [])) × (length (take (suc k) (g ∷ [])) ≡ suc k)
      go zero l = ((G, at 0 ∙ ap (matrix_at r.prime r.vars ds) (omega arith), omega (arith, h), tt), refl)
      go (suc k) l = absurd (omega (arith, l))
  graphs_at (suc k) j g (y ∷ xs) G S at h l =
      let later = graphs_at k (suc j) y.graph xs S.0.graph S.1 (λ l. at (suc l) ∙ ap (matrix_at r.prime r.vars ds) (moved j l)) (omega (arith, h)) (omega (arith, l)) in
      ((G, at 0 ∙ ap (matrix_at r.prime r.vars ds) (plain j), omega (arith, h), later.0), ap suc later.1)
    where
      plain : (j : ℕ) → j + 0 ≡ j
      plain j = omega arith

      moved : (j l : ℕ) → j + suc l ≡ suc j + l
      moved j l = omega arith

  pub lift_is : (side : Side) (units left : ℕ) (thetas : List (MatrixOf r)) → Ends (lifting r side 1 (matrix_unit r.prime r.vars 1) (take i (graphs_of r x)) units) thetas left
      → IsFrobeniusLiftOf r.prime r.vars i ds (matrix_unit r.prime r.vars 1 ∷ thetas)
  unfolding matrix_at
  lift_is side units left thetas e =
      let unit = matrix_unit r.prime r.vars 1 in
      let gs = graphs_at i 0 x.first x.next X.first X.next (λ l. ap (matrix_at r.prime r.vars ds) (plain l)) (omega arith) (let l = X.long in omega (arith, l)) in
      subst (λ k. IsFrobeniusLiftOf r.prime r.vars k ds (unit ∷ thetas)) (zero_plus (length (take i (graphs_of r x))) ∙ gs.1)
      (lifting_is r fs i ds X.resolution side 0 1 (unit ∷ []) (take i (graphs_of r x)) gs.0 (no_lift r.prime r.vars X.resolution) unit refl units left thetas e)
    where
      plain : (l : ℕ) → l ≡ 0 + l
      plain l = omega arith

      zero_plus : (k : ℕ) → 0 + k ≡ k
      zero_plus k = omega arith
