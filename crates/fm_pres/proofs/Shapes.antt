-- The shapes and the depths of forms, from those of their operands.
use Rattle.std.proofs.Common.{◌≡◌, ℕ, ◌+◌, ◌-◌, ◌<◌, ◌≤◌, Bool, true, false, ◌&&◌, nat_eq, nat_lt, nat_le, List, [], ◌∷◌, length, map, Option, Some, refl, ap, arith}
use Rattle.std.specs.List.{list_all}
use Rattle.std.proofs.lemmas.Bool.{and_parts, ltb-true, leb-true, lt-ltb, eq-eqb}
use Rattle.std.proofs.lemmas.List.{length-map}
use Rattle.fm_words.specs.Options.{where_so}
use Rattle.fm_mat.specs.Matrices.{MatrixValue, AreColumns}
use Rattle.fm_poly.specs.Polys.{PolyValue}
use Rattle.fm_poly.specs.declared.ring.Ring.{Ring}
use Rattle.fm_report.specs.Parts.{Part, given, twist, flip, beside, stack, times, pick}
use Rattle.fm_parts.specs.Shapes.{SIZE, DEPTH, rows_of, columns_of, depth_of, operands_fit, fits_here, fits}
use Rattle.fm_pres.specs.Tables.{part_at, is_column}
use Rattle.fm_pres.specs.Nodes.{IsMeasured, IsPart}
use Rattle.fm_pres.specs.declared.node.Node.{Node}
use Rattle.fm_pres.specs.declared.shape.Shape.{Shape}

-- ---- bounds

here_small : (a : Part) → fits_here a ≡ true → (rows_of a < SIZE) × (columns_of a < SIZE)
here_small a f =
    let h = and_parts (operands_fit a) (nat_lt (rows_of a) SIZE && nat_lt (columns_of a) SIZE) f in
    let k = and_parts (nat_lt (rows_of a) SIZE) (nat_lt (columns_of a) SIZE) h.1 in
    (ltb-true (rows_of a) SIZE k.0, ltb-true (columns_of a) SIZE k.1)

one_small : (a x : Part) → (fits a && fits_here x) ≡ true → (rows_of x < SIZE) × (columns_of x < SIZE)
one_small a x f = here_small x (and_parts (fits a) (fits_here x) f).1

two_small : (a b x : Part) → (fits a && (fits b && fits_here x)) ≡ true → (rows_of x < SIZE) × (columns_of x < SIZE)
two_small a b x f = one_small b x (and_parts (fits a) (fits b && fits_here x) f).1

pub fits_small : (a : Part) → fits a ≡ true → (rows_of a < SIZE) × (columns_of a < SIZE)
fits_small (given rows columns) f = here_small (given rows columns) f
fits_small (twist a e) f = one_small a (twist a e) f
fits_small (flip a) f = one_small a (flip a) f
fits_small (beside a b) f = two_small a b (beside a b) f
fits_small (stack a b) f = two_small a b (stack a b) f
fits_small (times a b) f = two_small a b (times a b) f
fits_small (pick a js) f = one_small a (pick a js) f

pub rows_small : (a : Part) → fits a ≡ true → nat_lt (rows_of a) SIZE ≡ true
rows_small a f = lt-ltb (rows_of a) SIZE (fits_small a f).0

pub columns_small : (a : Part) → fits a ≡ true → nat_lt (columns_of a) SIZE ≡ true
columns_small a f = lt-ltb (columns_of a) SIZE (fits_small a f).1

pub depth_small : (ps : List Part) (k : ℕ) (n : Node) → IsPart ps k n → n.depth ≤ 1000
depth_small ps k n x = rw x.measured.depth (leb-true (depth_of (part_at ps k)) DEPTH x.shallow)

-- ---- which forms fit

and_true : (b : Bool) → (b && true) ≡ b
and_true true = refl
and_true false = refl

pub twist_fits : (a : Part) (e : ℕ) → fits a ≡ true → fits (twist a e) ≡ true
twist_fits a e f = rw (f, rows_small a f, columns_small a f) refl

pub flip_fits : (a : Part) → fits a ≡ true → fits (flip a) ≡ true
flip_fits a f = rw (f, rows_small a f, columns_small a f) refl

pub beside_fits : (a b : Part) → fits a ≡ true → fits b ≡ true → fits (beside a b) ≡ (nat_eq (rows_of a) (rows_of b) && nat_lt (columns_of a + columns_of b) SIZE)
beside_fits a b f h = rw (f, h, rows_small a f) refl

pub stack_fits : (a b : Part) → fits a ≡ true → fits b ≡ true → fits (stack a b) ≡ (nat_eq (columns_of a) (columns_of b) && nat_lt (rows_of a + rows_of b) SIZE)
stack_fits a b f h = rw (f, h, columns_small a f) (ap (λ x. nat_eq (columns_of a) (columns_of b) && x) (and_true (nat_lt (rows_of a + rows_of b) SIZE)))

pub times_fits : (a b : Part) → fits a ≡ true → fits b ≡ true → fits (times a b) ≡ nat_eq (columns_of a) (rows_of b)
times_fits a b f h = rw (f, h, rows_small a f, columns_small b h) (and_true (nat_eq (columns_of a) (rows_of b)))

columns_there : (c : ℕ) (js : List ℕ) → list_all (is_column c) js ≡ true → list_all (λ j. nat_lt j c) (map (λ j. j - 1) js) ≡ true
columns_there c [] h = refl
columns_there c (j ∷ js) h =
    let t = and_parts (is_column c j) (list_all (is_column c) js) h in
    let u = and_parts (nat_lt 0 j) (nat_le j c) t.0 in
    let low = ltb-true 0 j u.0 in
    let high = leb-true j c u.1 in
    rw (lt-ltb (j - 1) c (omega (arith, low, high)), columns_there c js t.1) refl

pub pick_fits : (a : Part) (js : List ℕ) → fits a ≡ true → list_all (is_column (columns_of a)) js ≡ true → fits (pick a (map (λ j. j - 1) js)) ≡ nat_lt (length js) SIZE
pick_fits a js f h = rw (f, columns_there (columns_of a) js h, rows_small a f, length-map js (λ j. j - 1)) refl

columns_fit : (r : Ring) (rows : ℕ) (columns : List (List PolyValue)) → AreColumns r rows columns → list_all (λ v. nat_eq (length v) rows) columns ≡ true
columns_fit r rows [] a = refl
columns_fit r rows (v ∷ vs) a = rw (eq-eqb (length v) rows a.1, columns_fit r rows vs a.2) refl

pub given_fits : (m : MatrixValue) → AreColumns m.ring m.rows m.columns → m.rows < SIZE → length m.columns < SIZE → fits (given m.rows m.columns) ≡ true
given_fits m a low few = rw (columns_fit m.ring m.rows m.columns a, lt-ltb m.rows SIZE low, lt-ltb (length m.columns) SIZE few) refl

abbrev pub of_size : ℕ → ℕ → Option Shape
of_size rows columns = Some (record { rows = rows; columns = columns })

pub given_shape : (m : MatrixValue) (rows columns : ℕ) → AreColumns m.ring m.rows m.columns → m.rows < SIZE → length m.columns < SIZE → rows ≡ m.rows → columns ≡ length m.columns
    → of_size rows columns ≡ where_so (fits (given m.rows m.columns)) (of_size m.rows (length m.columns))
given_shape m rows columns a low few e h = rw (given_fits m a low few, e, h) refl

pub pick_shape : (a : Part) (js : List ℕ) (s : Shape) (d n : ℕ) → fits a ≡ true → list_all (is_column (columns_of a)) js ≡ true → IsMeasured a s d → n ≡ length js
    → where_so (nat_lt n SIZE) (of_size s.rows n) ≡ where_so (fits (pick a (map (λ j. j - 1) js))) (of_size (rows_of a) (length (map (λ j. j - 1) js)))
pick_shape a js s d n f h m e = rw (pick_fits a js f h, m.rows, e, length-map js (λ j. j - 1)) refl
