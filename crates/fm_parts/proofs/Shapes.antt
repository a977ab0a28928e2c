-- The matrix that a part means has the shape of the part.
use Rattle.std.proofs.Common.{◌≡◌, ℕ, zero, suc, ◌+◌, ◌<◌, Bool, true, ◌&&◌, nat_eq, nat_lt, List, [], ◌∷◌, length, map, get_or, refl, sym, ap, ◌∙◌, subst, arith}
use Rattle.std.specs.List.{list_all}
use Rattle.std.proofs.lemmas.Bool.{and_parts, eqb-true, ltb-true}
use Rattle.std.proofs.lemmas.List.{length-map, get_or-map}
use Rattle.fm_algebra.specs.Matrix.{picked}
use Rattle.fm_algebra.specs.Polynomials.{polynomials}
use Rattle.fm_algebra.specs.PolynomialMatrices.{HasShape, matrix_above, matrix_picked}
use Rattle.fm_algebra.proofs.Tables.{stacked_shaped}
use Rattle.fm_limit.proofs.MatrixWords.{product_fits, twist_fits, transpose_fits, beside_fits}
use Rattle.fm_poly.specs.Polys.{PolyValue, meaning}
use Rattle.fm_poly.specs.declared.ring.Ring.{Ring}
use Rattle.fm_graphs.specs.Graphs.{MatrixOf}
use Rattle.fm_report.specs.Parts.{Part, given, twist, flip, beside, stack, times, pick, meant, part_value}
use Rattle.fm_parts.specs.Shapes.{SIZE, rows_of, columns_of, operands_fit, fits_here, fits, have_one_shape}

pub all_at : {A : Type 0} (test : A → Bool) (xs : List A) (j : ℕ) (d : A) → list_all test xs ≡ true → j < length xs → test (get_or xs j d) ≡ true
all_at test [] j d e h = absurd (omega arith)
all_at test (x ∷ xs) zero d e h = (and_parts (test x) (list_all test xs) e).0
all_at test (x ∷ xs) (suc j) d e h = all_at test xs j d (and_parts (test x) (list_all test xs) e).1 (omega arith)

pub one_shape : (a b : Part) → have_one_shape a b ≡ true → (rows_of a ≡ rows_of b) × (columns_of a ≡ columns_of b)
one_shape a b e =
    let h = and_parts (nat_eq (rows_of a) (rows_of b)) (nat_eq (columns_of a) (columns_of b)) e in
    (eqb-true (rows_of a) (rows_of b) h.0, eqb-true (columns_of a) (columns_of b) h.1)

-- the tests of a part's own operands
here : (a : Part) → fits_here a ≡ true → operands_fit a ≡ true
here a f = (and_parts (operands_fit a) (nat_lt (rows_of a) SIZE && nat_lt (columns_of a) SIZE) f).0

one_operand : (a x : Part) → (fits a && fits_here x) ≡ true → (fits a ≡ true) × (operands_fit x ≡ true)
one_operand a x f = let h = and_parts (fits a) (fits_here x) f in (h.0, here x h.1)

two_operands : (a b x : Part) → (fits a && (fits b && fits_here x)) ≡ true → (fits a ≡ true) × (fits b ≡ true) × (operands_fit x ≡ true)
two_operands a b x f = let h = and_parts (fits a) (fits b && fits_here x) f in let k = and_parts (fits b) (fits_here x) h.1 in (h.0, k.0, here x k.1)

-- ---- the operands of parts that fit

pub factors : (a b : Part) → fits (times a b) ≡ true → (fits a ≡ true) × (fits b ≡ true) × (columns_of a ≡ rows_of b)
factors a b f = let h = two_operands a b (times a b) f in (h.0, h.1, eqb-true (columns_of a) (rows_of b) h.2)

pub layers : (a b : Part) → fits (stack a b) ≡ true → (fits a ≡ true) × (fits b ≡ true) × (columns_of a ≡ columns_of b)
layers a b f = let h = two_operands a b (stack a b) f in (h.0, h.1, eqb-true (columns_of a) (columns_of b) h.2)

pub neighbours : (a b : Part) → fits (beside a b) ≡ true → (fits a ≡ true) × (fits b ≡ true) × (rows_of a ≡ rows_of b)
neighbours a b f = let h = two_operands a b (beside a b) f in (h.0, h.1, eqb-true (rows_of a) (rows_of b) h.2)

module _ (r : Ring) where
  given_shape : (rows : ℕ) (columns : List (List PolyValue)) → operands_fit (given rows columns) ≡ true → HasShape r.prime r.vars rows (length columns) (record { rows = rows; columns = map (meant r) columns })
  unfolding HasShape
  given_shape rows columns f = (
    refl,
    length-map columns (meant r),
    λ j h.
        ap length (get_or-map (meant r) columns j [] [] h) ∙ length-map (get_or columns j []) (λ (x : PolyValue). meaning r x.terms)
        ∙ eqb-true (length (get_or columns j [])) rows (all_at (λ v. nat_eq (length v) rows) columns j [] f h),
  )

  above_shape : (m k n : ℕ) (A B : MatrixOf r) → HasShape r.prime r.vars m n A → HasShape r.prime r.vars k n B → HasShape r.prime r.vars (m + k) n (matrix_above r.prime r.vars A B)
  unfolding HasShape matrix_above
  above_shape m k n A B s t = stacked_shaped (polynomials r.prime r.vars) m n k A B s.0 t.0 s.1

  picked_shape : (m n : ℕ) (A : MatrixOf r) (js : List ℕ) → HasShape r.prime r.vars m n A → list_all (λ j. nat_lt j n) js ≡ true → HasShape r.prime r.vars m (length js) (matrix_picked r.prime r.vars A js)
  unfolding HasShape matrix_picked picked
  picked_shape m n A js s f = (
    s.0,
    length-map js (λ j. get_or A.columns j []),
    λ j h. ap length (get_or-map (λ j. get_or A.columns j []) js j 0 [] h) ∙ s.2 (get_or js j 0) (ltb-true (get_or js j 0) n (all_at (λ j. nat_lt j n) js j 0 f h)),
  )

  pub part_shape : (a : Part) → fits a ≡ true → HasShape r.prime r.vars (rows_of a) (columns_of a) (part_value r a)
  unfolding part_value
  part_shape (given rows columns) f = given_shape rows columns (here (given rows columns) f)
  part_shape (twist a e) f = twist_fits r.prime r.vars e (rows_of a) (columns_of a) (part_value r a) (part_shape a (one_operand a (twist a e) f).0)
  part_shape (flip a) f = transpose_fits r.prime r.vars (rows_of a) (columns_of a) (part_value r a) (part_shape a (one_operand a (flip a) f).0)
  part_shape (beside a b) f =
      let h = neighbours a b f in
      beside_fits r.prime r.vars (rows_of a) (columns_of a) (columns_of b) (part_value r a) (part_value r b) (part_shape a h.0)
      (subst (λ x. HasShape r.prime r.vars x (columns_of b) (part_value r b)) (sym h.2) (part_shape b h.1))
  part_shape (stack a b) f =
      let h = layers a b f in
      above_shape (rows_of a) (rows_of b) (columns_of a) (part_value r a) (part_value r b) (part_shape a h.0)
      (subst (λ x. HasShape r.prime r.vars (rows_of b) x (part_value r b)) (sym h.2) (part_shape b h.1))
  part_shape (times a b) f =
      let h = factors a b f in
      product_fits r.prime r.vars (rows_of a) (columns_of a) (columns_of b) (part_value r a) (part_value r b) (part_shape a h.0)
      (subst (λ x. HasShape r.prime r.vars x (columns_of b) (part_value r b)) (sym h.2) (part_shape b h.1))
  part_shape (pick a js) f = let h = one_operand a (pick a js) f in picked_shape (rows_of a) (columns_of a) (part_value r a) js (part_shape a h.0) h.1
