-- The parts that lines say, and those that tables keep of them.
use Rattle.std.proofs.Common.{◌≡◌, ◌⊎◌, inl, inr, ℕ, zero, suc, ◌-◌, ◌<◌, Bool, true, false, ◌&&◌, if◌then◌else◌, nat_le, nat_lt, List, [], ◌∷◌, length, map, Option, Some, None, option_map, refl, sym, ap, ◌∙◌, subst, arith}
use Rattle.std.specs.Global.{Global}
use Rattle.std.specs.Prelude.{Vec}
use Rattle.std.specs.List.{list_all}
use Rattle.std.proofs.lemmas.Bool.{and_from, and_left, and_right, leb-false, leb-true, le-ltb, lt-ltb}
use Rattle.fm_words.specs.Options.{◌>>=◌, all_of}
use Rattle.fm_mat.specs.Matrices.{MatrixValue}
use Rattle.fm_poly.specs.declared.ring.Ring.{Ring}
use Rattle.fm_report.specs.Parts.{Part, given, twist, flip, beside, stack, times, pick}
use Rattle.fm_report.specs.Sheets.{Sheet, numbered, say_part, from_zero, say}
use Rattle.fm_parts.specs.Replays.{is_number}
use Rattle.fm_parts.specs.Shapes.{columns_of}
use Rattle.fm_judge.specs.Judging.{columns_exist}
use Rattle.fm_lines.specs.Rows as rows
use Rattle.fm_lines.specs.declared.part_form.PartForm.{PartForm}
use Rattle.fm_lines.specs.declared.part_form.PartForm.TheVariants as lines
use Rattle.fm_pres.specs.Tables.{is_column, part_at, refers, tree_of}
use Rattle.fm_pres.specs.declared.form.Form.{Form}
use Rattle.fm_pres.specs.declared.form.Form.TheVariants as tables
use Rattle.fm_asked.specs.Forms.{IsForm}
use Rattle.fm_asked.specs.Narrowing.{MOST, narrowed, within}
use Rattle.fm_asked.proofs.PartNumbers.{found, missing}

-- the part that a line says
abbrev pub line_part : List Part → PartForm → Option Part
line_part ps (lines.Given n columns) = Some (given n (rows.columns_of columns.items))
line_part ps (lines.Twist part n) = option_map (λ x. twist x n) (numbered ps part)
line_part ps (lines.Flip part) = option_map flip (numbered ps part)
line_part ps (lines.Beside left right) = numbered ps left >>= λ x. option_map (beside x) (numbered ps right)
line_part ps (lines.Stack above below) = numbered ps above >>= λ x. option_map (stack x) (numbered ps below)
line_part ps (lines.Times left right) = numbered ps left >>= λ x. option_map (times x) (numbered ps right)
line_part ps (lines.Pick part columns) = all_of (map from_zero columns.items) >>= λ js. option_map (λ x. pick x js) (numbered ps part)

pub said_part : (s : Sheet) (k : ℕ) (form : PartForm) → say s (rows.part_line k form) ≡ say_part s k (line_part s.parts form)
unfolding say
said_part s k (lines.Given n columns) = refl
said_part s k (lines.Twist part n) = refl
said_part s k (lines.Flip part) = refl
said_part s k (lines.Beside left right) = refl
said_part s k (lines.Stack above below) = refl
said_part s k (lines.Times left right) = refl
said_part s k (lines.Pick part columns) = refl

-- ---- the part of a line is that of the form that is kept

abbrev pub IsUnnamed : Option Part → Type 0
IsUnnamed None = Unit {0}
IsUnnamed (Some a) = columns_exist a ≡ false

-- by whether what the form names exists
abbrev pub IsNamed : List Part → Option Part → Form → Bool → Type 0
IsNamed ps o f true = (o ≡ Some (tree_of ps f)) × (columns_exist (tree_of ps f) ≡ true)
IsNamed ps o f false = IsUnnamed o

-- columns that are picked, as they are kept
abbrev AreOutside : ℕ → Option (List ℕ) → Type 0
AreOutside n None = Unit {0}
AreOutside n (Some js) = list_all (λ j. nat_lt j n) js ≡ false

abbrev ArePicked : ℕ → List ℕ → List ℕ → Bool → Type 0
ArePicked n cs js true = (all_of (map from_zero cs) ≡ Some (map (λ j. j - 1) js)) × (list_all (λ j. nat_lt j n) (map (λ j. j - 1) js) ≡ true)
ArePicked n cs js false = AreOutside n (all_of (map from_zero cs))

abbrev IsPicked : ℕ → ℕ → ℕ → Bool → Type 0
IsPicked n c j true = (from_zero c ≡ Some (j - 1)) × (nat_lt (j - 1) n ≡ true)
IsPicked n c j false = (from_zero c ≡ None) ⊎ ((from_zero c ≡ Some (c - 1)) × (nat_lt (c - 1) n ≡ false))

some_from_zero : (c : ℕ) → 0 < c → from_zero c ≡ Some (c - 1)
some_from_zero c low = rw (lt-ltb 0 c low) refl

by_size : (n c : ℕ) → 0 < c → (b : Bool) → nat_le c n ≡ b → IsPicked n c (if b then c else 0) (is_column n (if b then c else 0))
by_size n c low true e =
    let high = leb-true c n e in
    subst (IsPicked n c c) (sym (and_from (nat_lt 0 c) (nat_le c n) (lt-ltb 0 c low) e)) (some_from_zero c low, lt-ltb (c - 1) n (omega (arith, low, high)))
by_size n c low false e = let high = leb-false c n e in inr (some_from_zero c low, le-ltb (c - 1) n (omega (arith, high)))

nothing_picked : (n : ℕ) (b : Bool) → IsPicked n 0 (if b then 0 else 0) (is_column n (if b then 0 else 0))
nothing_picked n true = inl refl
nothing_picked n false = inl refl

one_picked : (n c : ℕ) → IsPicked n c (within n c) (is_column n (within n c))
one_picked n zero = nothing_picked n (nat_le zero n)
one_picked n (suc c) = by_size n (suc c) (omega arith) (nat_le (suc c) n) refl

-- one more column before others
first_outside : (n i : ℕ) (o : Option (List ℕ)) → nat_lt i n ≡ false → AreOutside n (option_map (λ js. i ∷ js) o)
first_outside n i None h = tt
first_outside n i (Some js) h = and_left (nat_lt i n) (list_all (λ j. nat_lt j n) js) h

others_outside : (n i : ℕ) (o : Option (List ℕ)) → AreOutside n o → AreOutside n (option_map (λ js. i ∷ js) o)
others_outside n i None h = tt
others_outside n i (Some js) h = and_right (nat_lt i n) (list_all (λ j. nat_lt j n) js) h

more_picked : (n c : ℕ) (cs : List ℕ) (j : ℕ) (js : List ℕ) (x y : Bool) → IsPicked n c j x → ArePicked n cs js y → ArePicked n (c ∷ cs) (j ∷ js) (x && y)
more_picked n c cs j js true true p q = (
  ap (λ o. o >>= λ a. option_map (λ rest. a ∷ rest) (all_of (map from_zero cs))) p.0 ∙ ap (option_map (λ rest. (j - 1) ∷ rest)) q.0,
  and_from (nat_lt (j - 1) n) (list_all (λ j. nat_lt j n) (map (λ j. j - 1) js)) p.1 q.1,
)
more_picked n c cs j js true false p q =
    subst (λ o. AreOutside n (o >>= λ a. option_map (λ rest. a ∷ rest) (all_of (map from_zero cs)))) (sym p.0)
    (others_outside n (j - 1) (all_of (map from_zero cs)) q)
more_picked n c cs j js false y (inl e) q =
    subst (λ o. AreOutside n (o >>= λ a. option_map (λ rest. a ∷ rest) (all_of (map from_zero cs)))) (sym e) tt
more_picked n c cs j js false y (inr h) q =
    subst (λ o. AreOutside n (o >>= λ a. option_map (λ rest. a ∷ rest) (all_of (map from_zero cs)))) (sym h.0)
    (first_outside n (c - 1) (all_of (map from_zero cs)) h.1)

columns_picked : (n : ℕ) (cs : List ℕ) → ArePicked n cs (map (within n) cs) (list_all (is_column n) (map (within n) cs))
columns_picked n [] = (refl, refl)
columns_picked n (c ∷ cs) =
    more_picked n c cs (within n c) (map (within n) cs) (is_column n (within n c)) (list_all (is_column n) (map (within n) cs))
    (one_picked n c) (columns_picked n cs)

none_after : {A B : Type 0} (o : Option A) → ◌>>=◌ {A = A} {B = B} o (λ a. None) ≡ None
none_after None = refl
none_after (Some a) = refl

module _ (ps : List Part) (few : length ps < MOST) where
  one_named : (k a : ℕ) (g : Part → Part) (f : Form) → a ≡ narrowed k → tree_of ps f ≡ g (part_at ps a) → columns_exist (tree_of ps f) ≡ true
      → (b : Bool) → is_number ps a ≡ b → IsNamed ps (option_map g (numbered ps k)) f b
  one_named k a g f e t ce true h = (ap (option_map g) (found ps k a few e h) ∙ ap (λ x. Some x) (sym t), ce)
  one_named k a g f e t ce false h = subst (λ o. IsUnnamed (option_map g o)) (sym (missing ps k a few e h)) tt

  two_named : (k l a b : ℕ) (g : Part → Part → Part) (f : Form) → a ≡ narrowed k → b ≡ narrowed l → tree_of ps f ≡ g (part_at ps a) (part_at ps b)
      → columns_exist (tree_of ps f) ≡ true → (x y : Bool) → is_number ps a ≡ x → is_number ps b ≡ y
      → IsNamed ps (numbered ps k >>= λ x. option_map (g x) (numbered ps l)) f (x && y)
  two_named k l a b g f e d t ce true true h i = (
    ap (λ o. o >>= λ x. option_map (g x) (numbered ps l)) (found ps k a few e h) ∙ ap (option_map (g (part_at ps a))) (found ps l b few d i)
        ∙ ap (λ x. Some x) (sym t),
    ce,
  )
  two_named k l a b g f e d t ce true false h i =
      subst (λ o. IsUnnamed (o >>= λ x. option_map (g x) (numbered ps l))) (sym (found ps k a few e h))
      (subst (λ o. IsUnnamed (option_map (g (part_at ps a)) o)) (sym (missing ps l b few d i)) tt)
  two_named k l a b g f e d t ce false y h i = subst (λ o. IsUnnamed (o >>= λ x. option_map (g x) (numbered ps l))) (sym (missing ps k a few e h)) tt

  outside_unnamed : (a : Part) (o : Option (List ℕ)) → AreOutside (columns_of a) o → IsUnnamed (o >>= λ js. option_map (λ x. pick x js) (Some a))
  outside_unnamed a None h = tt
  outside_unnamed a (Some js) h = h

  -- where the part exists
  columns_named : (cs : List ℕ) (a : ℕ) (js : Vec ℕ Global) (b : Bool) → ArePicked (columns_of (part_at ps a)) cs js.items b
      → IsNamed ps (all_of (map from_zero cs) >>= λ js. option_map (λ x. pick x js) (Some (part_at ps a))) (tables.Pick a js) b
  columns_named cs a js true h = (ap (λ o. o >>= λ js. option_map (λ x. pick x js) (Some (part_at ps a))) h.0, h.1)
  columns_named cs a js false h = outside_unnamed (part_at ps a) (all_of (map from_zero cs)) h

  pick_named : (k a : ℕ) (cs : List ℕ) (js : Vec ℕ Global) → a ≡ narrowed k → (b : Bool) → is_number ps a ≡ b
      → js.items ≡ map (within (if b then columns_of (part_at ps a) else 0)) cs
      → IsNamed ps (all_of (map from_zero cs) >>= λ js. option_map (λ x. pick x js) (numbered ps k)) (tables.Pick a js)
      (b && list_all (is_column (columns_of (part_at ps a))) js.items)
  pick_named k a cs js e true h i =
      let n = columns_of (part_at ps a) in
      subst (λ o. IsNamed ps (all_of (map from_zero cs) >>= λ js. option_map (λ x. pick x js) o) (tables.Pick a js) (list_all (is_column n) js.items))
      (sym (found ps k a few e h))
      (columns_named cs a js (list_all (is_column n) js.items) (subst (λ l. ArePicked n cs l (list_all (is_column n) l)) (sym i) (columns_picked n cs)))
  pick_named k a cs js e false h i =
      subst (λ o. IsUnnamed (all_of (map from_zero cs) >>= λ js. option_map (λ x. pick x js) o)) (sym (missing ps k a few e h))
      (subst IsUnnamed (sym (none_after (all_of (map from_zero cs)))) tt)

  pub form_named : (r : Ring) (form : PartForm) (f : Form) → IsForm r ps form f → IsNamed ps (line_part ps form) f (refers ps f)
  form_named r (lines.Given n columns) (tables.Given m) h = (ap (λ (x : MatrixValue). Some (given x.rows x.columns)) (sym h), refl)
  form_named r (lines.Twist part n) (tables.Twist a e) h =
      one_named part a (λ x. twist x n) (tables.Twist a e) h.0 (ap (twist (part_at ps a)) h.1) refl (is_number ps a) refl
  form_named r (lines.Flip part) (tables.Flip a) h = one_named part a flip (tables.Flip a) h refl refl (is_number ps a) refl
  form_named r (lines.Beside left right) (tables.Beside a b) h =
      two_named left right a b beside (tables.Beside a b) h.0 h.1 refl refl (is_number ps a) (is_number ps b) refl refl
  form_named r (lines.Stack above below) (tables.Stack a b) h =
      two_named above below a b stack (tables.Stack a b) h.0 h.1 refl refl (is_number ps a) (is_number ps b) refl refl
  form_named r (lines.Times left right) (tables.Times a b) h =
      two_named left right a b times (tables.Times a b) h.0 h.1 refl refl (is_number ps a) (is_number ps b) refl refl
  form_named r (lines.Pick part columns) (tables.Pick a js) h = pick_named part a columns.items js h.0 (is_number ps a) refl h.1
  form_named r form f h = absurd h
