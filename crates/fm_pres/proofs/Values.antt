-- Values of parts: those that are kept, and those of forms from those of the operands.
use Rattle.std.proofs.Common.{◌≡◌, ℕ, zero, suc, ◌+◌, ◌-◌, ◌<◌, Bool, true, false, ◌&&◌, nat_lt, nat_le, List, [], ◌∷◌, ◌++◌, length, map, get_or, set, Option, Some, None, is_some, refl, sym, ap, ap₂, ◌∙◌, subst, arith}
use Rattle.std.specs.List.{list_all}
use Rattle.std.proofs.lemmas.Bool.{and_parts, ltb-true, leb-true}
use Rattle.std.proofs.lemmas.List.{length-map}
use Rattle.fm_algebra.specs.PolynomialMatrices.{PolynomialMatrix, matrix_product, matrix_transpose, matrix_twist, matrix_beside, matrix_above, matrix_picked}
use Rattle.fm_mat.specs.Bounds.{products_fit, entries_fit}
use Rattle.fm_mat.specs.Columns.{AreNumbers}
use Rattle.fm_mat.specs.Matrices.{MatrixValue, matrix_meaning, columns_meaning}
use Rattle.std.specs.declared.alloc.Global.{Global}
use Rattle.std.specs.declared.rc.Rc.{Rc}
use Rattle.fm_poly.specs.declared.ring.Ring.{Ring}
use Rattle.fm_report.specs.Parts.{Part, given, twist, flip, beside, stack, times, pick, part_value}
use Rattle.fm_parts.specs.Shapes.{columns_of}
use Rattle.fm_parts.specs.Values.{is_within_bound}
use Rattle.fm_parts.specs.Replays.{is_number}
use Rattle.fm_pres.specs.Tables.{part_at, tree_of, is_column, refers}
use Rattle.fm_pres.specs.Nodes.{IsBelow}
use Rattle.fm_pres.specs.Kept.{IsValue, Shared, IsValueIf, AreValues, Keeps, operands_of}
use Rattle.fm_pres.specs.declared.form.Form.{Form}
use Rattle.fm_pres.specs.declared.form.Form.TheVariants.{Given, Twist, Flip, Beside, Stack, Times, Pick}

abbrev Values : Type 0
Values = List Shared

abbrev Held : Type 0
Held = Rc MatrixValue Global

-- ---- lists of values

pub value_at : (r : Ring) (ps : List Part) (vs : Values) (i : ℕ) (m : Held) → AreValues r ps vs → get_or vs i None ≡ Some m → IsValue r (get_or ps i (given 0 [])) m.value
value_at r ps [] i m x e = absurd (cc e)
value_at r [] (v ∷ vs) i m x e = absurd x
value_at r (p ∷ ps) (v ∷ vs) zero m x e = subst (IsValueIf r p) e x.0
value_at r (p ∷ ps) (v ∷ vs) (suc i) m x e = value_at r ps vs i m x.1 e

pub there_long : (vs : Values) (i : ℕ) → is_some (get_or vs i None) ≡ true → i < length vs
there_long [] i e = absurd (cc e)
there_long (v ∷ vs) zero e = omega arith
there_long (v ∷ vs) (suc i) e = let h = there_long vs i e in omega (arith, h)

any_default : (vs : Values) (i : ℕ) (v w : Shared) → i < length vs → get_or vs i v ≡ get_or vs i w
any_default [] i v w h = absurd (omega (arith, h))
any_default (x ∷ vs) zero v w h = refl
any_default (x ∷ vs) (suc i) v w h = any_default vs i v w (omega (arith, h))

-- the value that is read
pub value_read : (r : Ring) (ps : List Part) (vs : Values) (i : ℕ) (v : Shared) (m : Held) → AreValues r ps vs → is_some (get_or vs i None) ≡ true
    → v ≡ get_or vs i v → v ≡ Some m → IsValue r (get_or ps i (given 0 [])) m.value
value_read r ps vs i v m x t e h = value_at r ps vs i m x (any_default vs i None v (there_long vs i t) ∙ sym e ∙ h)

pub values_set : (r : Ring) (ps : List Part) (vs : Values) (i : ℕ) (m : Held) → AreValues r ps vs → i < length vs → IsValue r (get_or ps i (given 0 [])) m.value → AreValues r ps (set vs i (Some m))
values_set r ps [] i m x h y = absurd (omega (arith, h))
values_set r [] (v ∷ vs) i m x h y = absurd x
values_set r (p ∷ ps) (v ∷ vs) zero m x h y = (y, x.1)
values_set r (p ∷ ps) (v ∷ vs) (suc i) m x h y = (x.0, values_set r ps vs i m x.1 (omega (arith, h)) y)

pub values_room : (r : Ring) (ps : List Part) (vs : Values) → AreValues r ps vs → length vs < length ps → AreValues r ps (vs ++ None ∷ [])
values_room r [] [] x h = absurd (omega (arith, h))
values_room r (p ∷ ps) [] x h = (tt, tt)
values_room r [] (v ∷ vs) x h = absurd x
values_room r (p ∷ ps) (v ∷ vs) x h = (x.0, values_room r ps vs x.1 (omega (arith, h)))

there_after : (vs : Values) (i j : ℕ) (m : Held) → is_some (get_or vs j None) ≡ true → is_some (get_or (set vs i (Some m)) j None) ≡ true
there_after [] i j m e = e
there_after (v ∷ vs) zero zero m e = refl
there_after (v ∷ vs) zero (suc j) m e = e
there_after (v ∷ vs) (suc i) zero m e = e
there_after (v ∷ vs) (suc i) (suc j) m e = there_after vs i j m e

pub keeps_set : (vs : Values) (i : ℕ) (m : Held) → Keeps vs (set vs i (Some m))
keeps_set vs i m k e = there_after vs i (k - 1) m e

pub there_set : (vs : Values) (i : ℕ) (m : Held) → i < length vs → is_some (get_or (set vs i (Some m)) i None) ≡ true
there_set [] i m h = absurd (omega (arith, h))
there_set (v ∷ vs) zero m h = refl
there_set (v ∷ vs) (suc i) m h = there_set vs i m (omega (arith, h))

-- ---- operands

abbrev pub AreBelow : ℕ → Option (ℕ × ℕ) → Type 0
AreBelow k None = Unit {0}
AreBelow k (Some p) = (p.0 < k) × (p.1 < k)

pub operands_below : (k : ℕ) (f : Form) → IsBelow k f → AreBelow k (operands_of f)
operands_below k (Given m) h = tt
operands_below k (Twist a e) h = (h, h)
operands_below k (Flip a) h = (h, h)
operands_below k (Beside a b) h = h
operands_below k (Stack a b) h = h
operands_below k (Times a b) h = h
operands_below k (Pick a js) h = (h, h)

abbrev pub AreParts : List Part → Option (ℕ × ℕ) → Type 0
AreParts ps None = Unit {0}
AreParts ps (Some p) = (is_number ps p.0 ≡ true) × (is_number ps p.1 ≡ true)

pub operands_are_parts : (ps : List Part) (f : Form) → refers ps f ≡ true → AreParts ps (operands_of f)
operands_are_parts ps (Given m) h = tt
operands_are_parts ps (Twist a e) h = (h, h)
operands_are_parts ps (Flip a) h = (h, h)
operands_are_parts ps (Beside a b) h = and_parts (is_number ps a) (is_number ps b) h
operands_are_parts ps (Stack a b) h = and_parts (is_number ps a) (is_number ps b) h
operands_are_parts ps (Times a b) h = and_parts (is_number ps a) (is_number ps b) h
operands_are_parts ps (Pick a js) h = let t = and_parts (is_number ps a) (list_all (is_column (columns_of (part_at ps a))) js.items) h in (t.0, t.0)

pub both : (a b : Bool) → a ≡ true → b ≡ true → (a && b) ≡ true
both true true e h = refl
both true false e h = h
both false b e h = e

not_first : (a b : Bool) → a ≡ false → (a && b) ≡ false
not_first false b e = refl
not_first true b e = absurd (cc e)

not_second : (a b : Bool) → b ≡ false → (a && b) ≡ false
not_second false b e = refl
not_second true b e = e

pub are_numbers : (c : ℕ) (js : List ℕ) → list_all (is_column c) js ≡ true → AreNumbers c js
are_numbers c [] h = tt
are_numbers c (j ∷ js) h =
    let t = and_parts (is_column c j) (list_all (is_column c) js) h in
    let u = and_parts (nat_lt 0 j) (nat_le j c) t.0 in
    let low = ltb-true 0 j u.0 in
    (omega (arith, low), leb-true j c u.1, are_numbers c js t.1)

module _ (r : Ring) where
  abbrev pub AreOutside : List Part → Part → Option (ℕ × ℕ) → Type 0
  AreOutside ps t None = Unit {0}
  AreOutside ps t (Some p) =
      (is_within_bound r (part_at ps p.0) ≡ false → is_within_bound r t ≡ false) × (is_within_bound r (part_at ps p.1) ≡ false → is_within_bound r t ≡ false)

  pub operands_outside : (ps : List Part) (f : Form) → AreOutside ps (tree_of ps f) (operands_of f)
  unfolding is_within_bound
  operands_outside ps (Given m) = tt
  operands_outside ps (Twist a e) = (λ h. not_first _ _ h, λ h. not_first _ _ h)
  operands_outside ps (Flip a) = (λ h. h, λ h. h)
  operands_outside ps (Beside a b) = (λ h. not_first _ _ h, λ h. not_second _ _ h)
  operands_outside ps (Stack a b) = (λ h. not_first _ _ h, λ h. not_second _ _ h)
  operands_outside ps (Times a b) = (λ h. not_first _ _ h, λ h. not_second _ _ (not_first _ _ h))
  operands_outside ps (Pick a js) = (λ h. h, λ h. h)

  -- ---- the values of forms

  pub given_value : (m : MatrixValue) → m.ring ≡ r → IsValue r (given m.rows m.columns) m
  unfolding part_value is_within_bound
  given_value m e = record { ring = e; rows = refl; columns = refl; meaning = refl; within = refl }

  pub twist_value : (A : Part) (e : ℕ) (a m : MatrixValue) → IsValue r A a → m.ring ≡ a.ring → m.rows ≡ a.rows → length m.columns ≡ length a.columns
      → matrix_meaning r m ≡ matrix_twist r.prime r.vars e (matrix_meaning r a) → entries_fit r.prime r.vars e (matrix_meaning r a) ≡ true → IsValue r (twist A e) m
  unfolding part_value is_within_bound
  twist_value A e a m x g h c v f = record {
    ring = g ∙ x.ring;
    rows = h ∙ x.rows;
    columns = c ∙ x.columns;
    meaning = v ∙ ap (matrix_twist r.prime r.vars e) x.meaning;
    within = both _ _ x.within (subst (λ M. entries_fit r.prime r.vars e M ≡ true) x.meaning f);
  }

  pub twist_outside : (A : Part) (e : ℕ) (a : MatrixValue) → IsValue r A a → entries_fit r.prime r.vars e (matrix_meaning r a) ≡ false → is_within_bound r (twist A e) ≡ false
  unfolding is_within_bound
  twist_outside A e a x f = not_second _ _ (subst (λ M. entries_fit r.prime r.vars e M ≡ false) x.meaning f)

  pub flip_value : (A : Part) (a m : MatrixValue) → IsValue r A a → m.ring ≡ a.ring → m.rows ≡ length a.columns → length m.columns ≡ a.rows
      → matrix_meaning r m ≡ matrix_transpose r.prime r.vars (matrix_meaning r a) → IsValue r (flip A) m
  unfolding part_value is_within_bound
  flip_value A a m x g h c v = record {
    ring = g ∙ x.ring;
    rows = h ∙ x.columns;
    columns = c ∙ x.rows;
    meaning = v ∙ ap (matrix_transpose r.prime r.vars) x.meaning;
    within = x.within;
  }

  pub beside_value : (A B : Part) (a b m : MatrixValue) → IsValue r A a → IsValue r B b → m.ring ≡ a.ring → m.rows ≡ a.rows
      → length m.columns ≡ length a.columns + length b.columns
      → matrix_meaning r m ≡ matrix_beside r.prime r.vars (matrix_meaning r a) (matrix_meaning r b) → IsValue r (beside A B) m
  unfolding part_value is_within_bound
  beside_value A B a b m x y g h c v = record {
    ring = g ∙ x.ring;
    rows = h ∙ x.rows;
    columns = c ∙ ap₂ (λ i j. i + j) x.columns y.columns;
    meaning = v ∙ ap₂ (matrix_beside r.prime r.vars) x.meaning y.meaning;
    within = both _ _ x.within y.within;
  }

  pub stack_value : (A B : Part) (a b m : MatrixValue) → IsValue r A a → IsValue r B b → m.ring ≡ a.ring → m.rows ≡ a.rows + b.rows
      → length m.columns ≡ length a.columns
      → matrix_meaning r m ≡ matrix_above r.prime r.vars (matrix_meaning r a) (matrix_meaning r b) → IsValue r (stack A B) m
  unfolding part_value is_within_bound
  stack_value A B a b m x y g h c v = record {
    ring = g ∙ x.ring;
    rows = h ∙ ap₂ (λ i j. i + j) x.rows y.rows;
    columns = c ∙ x.columns;
    meaning = v ∙ ap₂ (matrix_above r.prime r.vars) x.meaning y.meaning;
    within = both _ _ x.within y.within;
  }

  abbrev all_fit : PolynomialMatrix r.prime r.vars → PolynomialMatrix r.prime r.vars → Bool
  all_fit M N = list_all (products_fit r.prime r.vars M.columns) N.columns

  pub times_value : (A B : Part) (a b m : MatrixValue) → IsValue r A a → IsValue r B b → m.ring ≡ a.ring → m.rows ≡ a.rows
      → length m.columns ≡ length b.columns
      → matrix_meaning r m ≡ matrix_product r.prime r.vars (matrix_meaning r a) (matrix_meaning r b)
      → list_all (products_fit r.prime r.vars (columns_meaning r a.columns)) (columns_meaning r b.columns) ≡ true → IsValue r (times A B) m
  unfolding part_value is_within_bound
  times_value A B a b m x y g h c v f = record {
    ring = g ∙ x.ring;
    rows = h ∙ x.rows;
    columns = c ∙ y.columns;
    meaning = v ∙ ap₂ (matrix_product r.prime r.vars) x.meaning y.meaning;
    within = both _ _ x.within (both _ _ y.within (sym (ap₂ all_fit x.meaning y.meaning) ∙ f));
  }

  pub times_outside : (A B : Part) (a b : MatrixValue) → IsValue r A a → IsValue r B b
      → list_all (products_fit r.prime r.vars (columns_meaning r a.columns)) (columns_meaning r b.columns) ≡ false → is_within_bound r (times A B) ≡ false
  unfolding is_within_bound
  times_outside A B a b x y f = not_second _ _ (not_second _ _ (sym (ap₂ all_fit x.meaning y.meaning) ∙ f))

  pub pick_value : (A : Part) (js : List ℕ) (a m : MatrixValue) → IsValue r A a → m.ring ≡ a.ring → m.rows ≡ a.rows → length m.columns ≡ length js
      → matrix_meaning r m ≡ matrix_picked r.prime r.vars (matrix_meaning r a) (map (λ j. j - 1) js) → IsValue r (pick A (map (λ j. j - 1) js)) m
  unfolding part_value is_within_bound
  pick_value A js a m x g h c v = record {
    ring = g ∙ x.ring;
    rows = h ∙ x.rows;
    columns = c ∙ sym (length-map js (λ j. j - 1));
    meaning = v ∙ ap (λ M. matrix_picked r.prime r.vars M (map (λ j. j - 1) js)) x.meaning;
    within = x.within;
  }
