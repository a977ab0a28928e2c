-- The values of parts that are made by the program.
use Rattle.std.proofs.Common.{◌≡◌, ℕ, zero, suc, ◌*◌, ◌<◌, ◌≤◌, Bool, true, false, nat_eq, nat_lt, [], ◌∷◌, length, map, Result, Ok, Err, refl, sym, ap, ap₂, ◌∙◌, subst, arith}
use Rattle.std.specs.Prelude.{IfOk}
use Rattle.std.specs.declared.alloc.Global.{Global}
use Rattle.std.specs.declared.rc.Rc.{Rc}
use Rattle.fm_poly.specs.declared.poly_error.PolyError.{PolyError}
use Rattle.fm_parts.specs.Conditions.{evaluated}
use Rattle.fm_conditions.specs.declared.why.Refused.{Refused}
use Rattle.fm_conditions.specs.Reasons.{Judges}
use Rattle.fm_conditions.proofs.Judgements.{value_view}
use Rattle.std.proofs.lemmas.Bool.{eqb-true, ltb-true}
use Rattle.std.proofs.lemmas.Bool.Decides.{nat_tests}
use Rattle.std.proofs.lemmas.List.{length-map}
use Rattle.fm_mat.specs.Matrices.{MatrixValue, matrix_meaning, column_meaning}
use Rattle.fm_poly.specs.declared.ring.Ring.{Ring}
use Rattle.fm_poly.specs.Polys.{PolyValue}
use Rattle.fm_graphs.specs.Graphs.{MatrixOf}
use Rattle.fm_answers.specs.Printed.{printed_vector}
use Rattle.fm_answers.proofs.PrintedMatrices.{matrix_means}
use Rattle.fm_report.specs.Parts.{Part, given, twist, flip, beside, stack, times, part_value}
use Rattle.fm_parts.specs.Shapes.{SIZE, fits}
use Rattle.fm_parts.specs.Values.{is_within_bound}
use Rattle.fm_judge.specs.Claims.{printed_part, factored_part, unit_column_part, blocks_part}
use Rattle.fm_pres.specs.Kept.{IsValue}
use Rattle.fm_limit.specs.Facts.{diagonal_blocks}
use Rattle.fm_limit.proofs.MatrixWords.{shape_rows, shape_columns}
use Rattle.fm_plan.proofs.Answers.{blocks_shape}
use Rattle.fm_pres.specs.Tables.{TableValue, parts_in, part_at}
use Rattle.fm_pres.proofs.Shapes.{fits_small}
use Rattle.fm_conditions.specs.declared.operand.Operand.{Operand}
use Rattle.fm_conditions.specs.Meanings.{operand_part}
use Rattle.fm_conditions.specs.Measures.{measure_of}
use Rattle.fm_conditions.proofs.Measures.{not_first, not_second, where_some, measured, unit_column_measure}

module _ (r : Ring) where
  pub printed_value : (A : MatrixOf r) (m : MatrixValue) → m.ring ≡ r → matrix_meaning r m ≡ A → IsValue r (printed_part r A) m
  unfolding is_within_bound
  printed_value A m e v = record {
    ring = e;
    rows = ap (λ (B : MatrixOf r). B.rows) v;
    columns = sym (length-map m.columns (column_meaning r)) ∙ ap (λ (B : MatrixOf r). length B.columns) v ∙ sym (length-map A.columns (printed_vector r));
    meaning = v ∙ sym (matrix_means r A);
    within = refl;
  }

  -- an operand that passes the bound
  pub first_passes : (a b : Part) → is_within_bound r a ≡ false → is_within_bound r (times a b) ≡ false
  unfolding is_within_bound
  first_passes a b e = not_first _ _ e

  pub second_passes : (a b : Part) → is_within_bound r b ≡ false → is_within_bound r (times a b) ≡ false
  unfolding is_within_bound
  second_passes a b e = not_second _ _ (not_first _ _ e)

  pub upper_passes : (a b : Part) → is_within_bound r a ≡ false → is_within_bound r (stack a b) ≡ false
  unfolding is_within_bound
  upper_passes a b e = not_first _ _ e

  pub lower_passes : (a b : Part) → is_within_bound r b ≡ false → is_within_bound r (stack a b) ≡ false
  unfolding is_within_bound
  lower_passes a b e = not_second _ _ e

  -- a power in factors passes the bound where a lower one does
  next_passes : (f : PolyValue) (j k : ℕ) → j ≤ suc k → is_within_bound r (factored_part r f j) ≡ false → (j ≤ k → is_within_bound r (factored_part r f k) ≡ false) → (b : Bool) → nat_eq j (suc k) ≡ b
      → is_within_bound r (factored_part r f (suc k)) ≡ false
  next_passes f j k l e h true q = subst (λ i. is_within_bound r (factored_part r f i) ≡ false) (eqb-true j (suc k) q) e
  next_passes f j k l e h false q = let s : j ≤ k = grind (arith, nat_tests) in first_passes (factored_part r f k) (given 1 ((f ∷ []) ∷ [])) (h s)

  pub factor_passes : (f : PolyValue) (j k : ℕ) → j ≤ k → is_within_bound r (factored_part r f j) ≡ false → is_within_bound r (factored_part r f k) ≡ false
  factor_passes f j zero l e = let s : j ≡ 0 = omega (arith, l) in subst (λ i. is_within_bound r (factored_part r f i) ≡ false) s e
  factor_passes f j (suc k) l e = next_passes f j k l e (λ s. factor_passes f j k s e) (nat_eq j (suc k)) refl

-- what holds of a value, where there is one
pub if_ok : {A E : Type 0} {P Q : A → Type 0} (x : Result A E) → ((a : A) → P a → Q a) → IfOk x P → IfOk x Q
if_ok (Ok a) f p = f a p
if_ok (Err e) f p = tt

module _ (r : Ring) where
  pub column_room : (n : ℕ) → fits (unit_column_part r n) ≡ true → n * n < 4294967296
  column_room n f = ltb-true (n * n) SIZE (where_some (nat_lt (n * n) SIZE) (record { rows = n * n; columns = 1 }) (measure_of (unit_column_part r n)) (unit_column_measure r n ∙ measured (unit_column_part r n) f)).0

  pub blocks_room : (K : Part) (m : MatrixValue) → IsValue r K m → fits (blocks_part r K) ≡ true → (m.rows * m.rows < 4294967296) × (m.rows * length m.columns < 4294967296)
  blocks_room K m v f =
      let A = part_value r K in
      let D = diagonal_blocks r.prime r.vars A in
      let small = fits_small (blocks_part r K) f in
      let rows : A.rows ≡ m.rows = sym (ap (λ (B : MatrixOf r). B.rows) v.meaning) in
      let columns : length A.columns ≡ length m.columns = sym (ap (λ (B : MatrixOf r). length B.columns) v.meaning) ∙ length-map m.columns (column_meaning r) in
      let high : D.rows ≡ m.rows * m.rows = shape_rows r.prime r.vars (A.rows * A.rows) (A.rows * length A.columns) D (blocks_shape r A) ∙ ap (λ x. x * x) rows in
      let wide : length (map (printed_vector r) D.columns) ≡ m.rows * length m.columns =
      length-map D.columns (printed_vector r) ∙ shape_columns r.prime r.vars (A.rows * A.rows) (A.rows * length A.columns) D (blocks_shape r A) ∙ ap₂ (λ x y. x * y) rows columns in
      (subst (λ x. x < 4294967296) high small.0, subst (λ x. x < 4294967296) wide small.1)

  -- ---- operands that pass the bound
  pub twist_passes : (a : Part) (e : ℕ) → is_within_bound r a ≡ false → is_within_bound r (twist a e) ≡ false
  unfolding is_within_bound
  twist_passes a e h = not_first _ _ h

  pub flip_passes : (a : Part) → is_within_bound r a ≡ false → is_within_bound r (flip a) ≡ false
  unfolding is_within_bound
  flip_passes a h = h

  pub left_passes : (a b : Part) → is_within_bound r a ≡ false → is_within_bound r (beside a b) ≡ false
  unfolding is_within_bound
  left_passes a b h = not_first _ _ h

  pub right_passes : (a b : Part) → is_within_bound r b ≡ false → is_within_bound r (beside a b) ≡ false
  unfolding is_within_bound
  right_passes a b h = not_second _ _ h

-- what is known of an operand in a table that stays as it is
module _ (t u : TableValue) (o q : Operand) (same : u ≡ t) (is : o ≡ q) where
  pub value_moved : (m n : MatrixValue) → n ≡ m → IsValue u.ring (operand_part u.ring (parts_in u) o) m → IsValue t.ring (operand_part t.ring (parts_in t) q) n
  value_moved m n e v =
      subst (λ (x : TableValue). IsValue x.ring (operand_part x.ring (parts_in x) q) n) same
      (subst (λ (x : Operand). IsValue u.ring (operand_part u.ring (parts_in u) x) n) is
      (subst (λ (x : MatrixValue). IsValue u.ring (operand_part u.ring (parts_in u) o) x) (sym e) v))

  pub bound_moved : is_within_bound u.ring (operand_part u.ring (parts_in u) o) ≡ false → is_within_bound t.ring (operand_part t.ring (parts_in t) q) ≡ false
  bound_moved h =
      subst (λ (x : TableValue). is_within_bound x.ring (operand_part x.ring (parts_in x) q) ≡ false) same
      (subst (λ (x : Operand). is_within_bound u.ring (operand_part u.ring (parts_in u) x) ≡ false) is h)

-- the value of a part of a table that stays as it is
pub part_moved : (t u : TableValue) → u ≡ t → (k : ℕ) (m n : MatrixValue) → n ≡ m → IsValue u.ring (part_at (parts_in u) k) m → IsValue t.ring (part_at (parts_in t) k) n
part_moved t u same k m n e v =
    subst (λ (x : TableValue). IsValue x.ring (part_at (parts_in x) k) n) same (subst (λ (x : MatrixValue). IsValue u.ring (part_at (parts_in u) k) x) (sym e) v)

-- what is judged of an operand in a table that stays as it is
pub evaluated_moved : (t u : TableValue) → u ≡ t → (a : Operand) (why : Refused) → Judges (value_view u.ring) (Err why) (evaluated u.ring (operand_part u.ring (parts_in u) a))
    → Judges (value_view t.ring) (Err why) (evaluated t.ring (operand_part t.ring (parts_in t) a))
evaluated_moved t u same a why h = subst (λ (x : TableValue). Judges (value_view x.ring) (Err why) (evaluated x.ring (operand_part x.ring (parts_in x) a))) same h

-- the value of what was told
pub told_value : (r : Ring) (A : Part) (o : Result (Rc MatrixValue Global) PolyError) (m : Rc MatrixValue Global) → o ≡ Ok m → IfOk o (λ x. IsValue r A x.value) → IsValue r A m.value
told_value r A o m e h = subst (λ (y : Result (Rc MatrixValue Global) PolyError). IfOk y (λ (x : Rc MatrixValue Global). IsValue r A x.value)) e h
