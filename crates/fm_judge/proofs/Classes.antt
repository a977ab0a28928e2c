-- The coordinates of a class, and what they show of it.
use Rattle.std.proofs.Common.{◌≡◌, ℕ, suc, ◌+◌, ◌≤◌, true, List, [], ◌∷◌, length, get_or, Some, None, refl, sym, ap, ◌∙◌, subst, arith}
use Rattle.std.proofs.lemmas.List.{length-map}
use Rattle.fm_algebra.specs.Matrix.{column_matrix}
use Rattle.fm_algebra.specs.Polynomials.{Polynomial}
use Rattle.fm_algebra.specs.PolynomialMatrices.{HasShape, InImage, InKernel, matrix_product, matrix_transpose, matrix_twist, matrix_column, vector_product}
use Rattle.fm_algebra.proofs.PolynomialMatrices.{act_column, kernel_of_twist, twist_law_transpose}
use Rattle.fm_limit.specs.ResolvedIdeal.{matrix_at, rank}
use Rattle.fm_limit.specs.Classes.{IsClass}
use Rattle.fm_limit.specs.Facts.{AreCoordinates}
use Rattle.fm_limit.specs.Verdicts.{zero_class}
use Rattle.fm_limit.proofs.MatrixWords.{product_fits, shape_columns, twist_fits}
use Rattle.fm_limit.proofs.StageWords.{class_words}
use Rattle.fm_limit.proofs.VerdictLaws.{class_yes_verdict, class_no_verdict}
use Rattle.fm_poly.specs.Polys.{PolyValue, meaning}
use Rattle.fm_poly.specs.declared.ring.Ring.{Ring}
use Rattle.fm_graphs.specs.Graphs.{MatrixOf}
use Rattle.fm_report.specs.Parts.{Part, twist, times, meant, part_value}
use Rattle.fm_report.specs.Sheets.{Block, numbered}
use Rattle.fm_parts.specs.Shapes.{rows_of, columns_of, fits}
use Rattle.fm_parts.specs.Conditions.{Log, equal, outside}
use Rattle.fm_parts.specs.Meanings.{Says}
use Rattle.fm_parts.proofs.Shapes.{factors, part_shape}
use Rattle.fm_judge.specs.Goals.{Goal}
use Rattle.fm_judge.specs.Claims.{column_part}
use Rattle.fm_judge.proofs.Options.{last_number}
use Rattle.fm_judge.proofs.Goods.{good_at, value_at, renamed, columns_are}
use Rattle.fm_judge.proofs.Resolving.{Ds}
use Rattle.fm_judge.proofs.Lifting.{ideal_of}
use Rattle.fm_judge.proofs.Chains.{Chained, Kernels, Repeating}
use Rattle.fm_judge.proofs.Verdicts.{IsRight}

-- ---- matrices with one column
single : {A : Type 0} (d : A) (xs : List A) → length xs ≡ 1 → xs ≡ get_or xs 0 d ∷ []
single d [] e = absurd (omega (arith, e))
single d (x ∷ []) e = refl
single d (x ∷ y ∷ xs) e = absurd (omega (arith, e))

module _ (r : Ring) where
  column_length : (A : MatrixOf r) (m : ℕ) → HasShape r.prime r.vars m 1 A → length (get_or A.columns 0 []) ≡ m
  unfolding HasShape
  column_length A m s = s.2 0 (omega arith)

  one_column : (A : MatrixOf r) (m : ℕ) → HasShape r.prime r.vars m 1 A → A ≡ matrix_column r.prime r.vars (get_or A.columns 0 [])
  unfolding HasShape matrix_column column_matrix
  one_column A m s t = record { rows = (s.0 ∙ sym (s.2 0 (omega arith))) t; columns = single [] A.columns s.1 t }

  same_column : (u v : List (Polynomial r.prime r.vars)) → matrix_column r.prime r.vars u ≡ matrix_column r.prime r.vars v → u ≡ v
  unfolding matrix_column column_matrix
  same_column u v e = ap (λ (x : MatrixOf r). get_or x.columns 0 []) e

  image_by : (A : MatrixOf r) (w v : List (Polynomial r.prime r.vars)) → length w ≡ length A.columns → vector_product r.prime r.vars A w ≡ v → InImage r.prime r.vars A v
  unfolding InImage vector_product
  image_by A w v l e = (w, l, e)

  -- the only column of a product is in the image of its first factor
  product_image : (A B C : MatrixOf r) (m k c : ℕ) → HasShape r.prime r.vars m k A → HasShape r.prime r.vars k c B → C ≡ matrix_product r.prime r.vars A B → length C.columns ≡ 1 → InImage r.prime r.vars A (get_or C.columns 0 [])
  product_image A B C m k c sA sB e one =
      let count : c ≡ 1 = sym (shape_columns r.prime r.vars m c (matrix_product r.prime r.vars A B) (product_fits r.prime r.vars m k c A B sA sB)) ∙ ap (λ (x : MatrixOf r). length x.columns) (sym e) ∙ one in
      let sB1 = subst (λ x. HasShape r.prime r.vars k x B) count sB in
      let v = get_or B.columns 0 [] in
      image_by A v (get_or C.columns 0 []) (column_length B k sB1 ∙ sym (shape_columns r.prime r.vars m k A sA))
      (same_column (vector_product r.prime r.vars A v) (get_or C.columns 0 []) (sym (act_column r.prime r.vars m k A v sA (column_length B k sB1)) ∙ ap (matrix_product r.prime r.vars A) (sym (one_column B k sB1)) ∙ sym e
      ∙ one_column C m (subst (HasShape r.prime r.vars m 1) (sym e) (subst (λ x. HasShape r.prime r.vars m x (matrix_product r.prime r.vars A B)) count (product_fits r.prime r.vars m k c A B sA sB)))))

  -- a list of polynomials as the tables have it
  column_means : (z : List PolyValue) → part_value r (column_part z) ≡ matrix_column r.prime r.vars (meant r z)
  unfolding part_value matrix_column column_matrix
  column_means z i = record { rows = (sym (length-map z (λ (f : PolyValue). meaning r f.terms))) i; columns = meant r z ∷ [] }

  -- the only column of a part
  abbrev pub column_of : Part → List (Polynomial r.prime r.vars)
  column_of w = get_or (part_value r w).columns 0 []

module _ (r : Ring) (g : Goal) (t : ℕ) (b : Block) (R : Repeating r g t b) (e : ℕ) (z : List PolyValue) where
  abbrev C : Chained r g (suc t) t b
  C = R.chained

  abbrev Zv : MatrixOf r
  Zv = part_value r C.Z

  -- w are coordinates of z, and only z has them
  pub record HasCoordinates (w : Part) : Type 0 where
    pub good : fits w ≡ true
    pub one : columns_of w ≡ 1
    pub are : AreCoordinates r.prime r.vars Zv e (meant r z) (column_of r w)
    pub is_class : IsClass r.prime r.vars g.degree (ideal_of r g b) e (meant r z)

  pub coordinates_are : (w Z : Part) → fits w ≡ true → numbered b.cocycles 1 ≡ Some Z → Says r (equal (times (twist Z e) w) (column_part z)) → HasCoordinates w
  unfolding part_value
  coordinates_are w Z f i h =
      let same : C.Z ≡ Z = last_number [] C.Z Z 1 refl (ap (λ xs. numbered xs 1) (sym C.Z_is) ∙ i) in
      let h' = subst (λ x. Says r (equal (times (twist x e) w) (column_part z))) (sym same) h in
      let inner : columns_of C.Z ≡ rows_of w = (factors (twist C.Z e) w h'.0).2 in
      let one : columns_of w ≡ 1 = h'.3 in
      let w_shape = renamed r (part_value r w) (sym inner) one (part_shape r w f) in
      let long : length (column_of r w) ≡ columns_of C.Z = column_length r (part_value r w) (columns_of C.Z) w_shape in
      let T = matrix_twist r.prime r.vars e Zv in
      let t_shape = twist_fits r.prime r.vars e (rows_of C.Z) (columns_of C.Z) Zv (part_shape r C.Z C.Z_good) in
      let equation : vector_product r.prime r.vars T (column_of r w) ≡ meant r z =
      same_column r (vector_product r.prime r.vars T (column_of r w)) (meant r z) (sym (act_column r.prime r.vars (rows_of C.Z) (columns_of C.Z) T (column_of r w) t_shape long)
      ∙ ap (matrix_product r.prime r.vars T) (sym (one_column r (part_value r w) (columns_of C.Z) w_shape)) ∙ h'.4 ∙ column_means r z) in
      let d = matrix_at r.prime r.vars (Ds r g b) g.degree in
      let resolution = C.base.resolved.resolution in
      let d_shape = resolution.fits g.degree (let c = resolution.count in omega (arith, c)) in
      let generated = kernel_of_twist r.prime r.vars e (matrix_transpose r.prime r.vars d) Zv C.presents.cocycles in
      let there : InKernel r.prime r.vars (matrix_twist r.prime r.vars e (matrix_transpose r.prime r.vars d)) (meant r z) =
      (generated (meant r z)).1 (image_by r T (column_of r w) (meant r z) (long ∙ sym (shape_columns r.prime r.vars (rows_of C.Z) (columns_of C.Z) T t_shape)) equation) in
      record {
        good = f;
        one = one;
        are = (long ∙ columns_are r C.Z C.Z_good, equation);
        is_class = (class_words r.prime r.vars R.facts.resolved e (meant r z)).1
            (subst (λ x. InKernel r.prime r.vars x (meant r z)) (twist_law_transpose r.prime r.vars e (rank r.prime r.vars (Ds r g b) g.degree) (rank r.prime r.vars (Ds r g b) (suc g.degree)) d d_shape) there);
      }

  -- ---- in a kernel, or outside
  abbrev pub IsIn : ℕ → Part → Type 0
  IsIn k w = InImage r.prime r.vars (matrix_twist r.prime r.vars e (matrix_at r.prime r.vars (Kernels r g b) k)) (column_of r w)

  pub outside_kernel : (k : ℕ) (w K : Part) (log : Log) (by : List ℕ) → HasCoordinates w → numbered b.kernels (suc k) ≡ Some K → Says r (outside log e K w 1 by) → ¬ (IsIn k w)
  outside_kernel k w K log by W i h inside = h (omega arith) (let o = W.one in omega (arith, o))
      (subst (λ A. InImage r.prime r.vars (matrix_twist r.prime r.vars e A) (column_of r w)) (value_at r b.kernels k K i).1 inside)

  pub in_kernel : (m : ℕ) (w K W : Part) → HasCoordinates w → numbered b.kernels (suc m) ≡ Some K → Says r (equal w (times (twist K e) W)) → IsIn m w
  unfolding part_value
  in_kernel m w K W H i h =
      let f = factors (twist K e) W h.1 in
      let fk = good_at b.kernels (suc m) K C.good i in
      subst (λ A. InImage r.prime r.vars (matrix_twist r.prime r.vars e A) (column_of r w)) (sym (value_at r b.kernels m K i).1)
      (product_image r (matrix_twist r.prime r.vars e (part_value r K)) (part_value r W) (part_value r w) (rows_of K) (columns_of K) (columns_of W) (twist_fits r.prime r.vars e (rows_of K) (columns_of K) (part_value r K) (part_shape r K fk))
      (renamed r (part_value r W) (sym f.2) refl (part_shape r W f.1)) h.4 (sym (columns_are r w H.good) ∙ H.one))

  pub dies_right : (m : ℕ) (w K W : Part) → m ≤ t → HasCoordinates w → ((k : ℕ) → suc k ≡ m → ¬ (IsIn k w)) → numbered b.kernels (suc m) ≡ Some K → Says r (equal w (times (twist K e) W))
      → IsRight r (zero_class g.degree (ideal_of r g b) e (meant r z) (Some (e + m)))
  dies_right m w K W few H before i h = (R.facts.resolved, class_yes_verdict r.prime r.vars R.facts e (meant r z) (column_of r w) m H.is_class H.are few (in_kernel m w K W H i h) before)

  pub lives_right : (w K : Part) (log : Log) (by : List ℕ) → HasCoordinates w → numbered b.kernels (suc t) ≡ Some K → Says r (outside log e K w 1 by) → IsRight r (zero_class g.degree (ideal_of r g b) e (meant r z) None)
  lives_right w K log by H i h = (R.facts.resolved, class_no_verdict r.prime r.vars R.facts e (meant r z) (column_of r w) H.is_class H.are (outside_kernel t w K log by H i h))
