-- The values of parts that are kept.
use Rattle.std.specs.Prelude.{ℕ, ◌-◌, ◌≡◌, Bool, true, ◌&&◌, List, [], ◌∷◌, length, get_or, Option, Some, None, is_some, slice_get}
use Rattle.std.specs.declared.alloc.Global.{Global}
use Rattle.std.specs.declared.rc.Rc.{Rc}
use Rattle.fm_mat.specs.Matrices.{MatrixValue, matrix_meaning}
use Rattle.fm_poly.specs.declared.ring.Ring.{Ring}
use Rattle.fm_report.specs.Parts.{Part, part_value}
use Rattle.fm_parts.specs.Shapes.{rows_of, columns_of}
use Rattle.fm_parts.specs.Values.{is_within_bound}
use Rattle.fm_pres.specs.declared.form.Form.{Form}
use Rattle.fm_pres.specs.declared.node.Node.{Node}
use Rattle.fm_pres.specs.declared.form.Form.TheVariants.{Given, Twist, Flip, Beside, Stack, Times, Pick}

-- the matrix is the value of the part, which is formed within the bound
pub record IsValue (r : Ring) (a : Part) (m : MatrixValue) : Type 0 where
  pub ring : m.ring ≡ r
  pub rows : m.rows ≡ rows_of a
  pub columns : length m.columns ≡ columns_of a
  pub meaning : matrix_meaning r m ≡ part_value r a
  pub within : is_within_bound r a ≡ true

-- a matrix that is shared, if it is there
abbrev pub Shared : Type 0
Shared = Option (Rc MatrixValue Global)

abbrev pub IsValueIf : Ring → Part → Shared → Type 0
IsValueIf r a None = Unit {0}
IsValueIf r a (Some m) = IsValue r a m.value

-- at most one for each part, in their order
abbrev pub AreValues : Ring → List Part → List Shared → Type 0
AreValues r ps [] = Unit {0}
AreValues r [] (v ∷ vs) = ⊥
AreValues r (p ∷ ps) (v ∷ vs) = IsValueIf r p v × AreValues r ps vs

-- the value of part k is kept
abbrev pub is_there : List Shared → ℕ → Bool
is_there vs k = is_some (get_or vs (k - 1) None)

-- what is kept in vs is kept in ws
abbrev pub Keeps : List Shared → List Shared → Type 0
Keeps vs ws = (k : ℕ) → is_there vs k ≡ true → is_there ws k ≡ true

-- the operands of a form; one operand stands twice
abbrev pub operands_of : Form → Option (ℕ × ℕ)
operands_of (Given m) = None
operands_of (Twist a e) = Some (a, a)
operands_of (Flip a) = Some (a, a)
operands_of (Beside a b) = Some (a, b)
operands_of (Stack a b) = Some (a, b)
operands_of (Times a b) = Some (a, b)
operands_of (Pick a js) = Some (a, a)

abbrev pub both_there : List Shared → Option (ℕ × ℕ) → Bool
both_there vs None = true
both_there vs (Some p) = is_there vs p.0 && is_there vs p.1

abbrev pub operands_at : Option Node → Option (ℕ × ℕ)
operands_at None = None
operands_at (Some n) = operands_of n.form

-- the values of the operands of part k are kept
abbrev pub operands_are_there : List Node → ℕ → List Shared → Bool
operands_are_there ns k vs = both_there vs (operands_at (slice_get ns (k - 1)))
