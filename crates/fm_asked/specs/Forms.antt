-- Forms of parts, as lines say them and as tables keep them.
use Rattle.std.specs.Prelude.{ℕ, ◌≡◌, false, if◌then◌else◌, List, map, Option, Some, None}
use Rattle.fm_mat.specs.Matrices.{MatrixValue}
use Rattle.fm_poly.specs.Polys.{PolyValue}
use Rattle.fm_poly.specs.declared.ring.Ring.{Ring}
use Rattle.fm_report.specs.Parts as parts
use Rattle.fm_report.specs.Parts.{Part}
use Rattle.fm_parts.specs.Replays.{is_number}
use Rattle.fm_parts.specs.Shapes.{columns_of, fits}
use Rattle.fm_lines.specs.Rows as rows
use Rattle.fm_lines.specs.declared.part_form.PartForm.{PartForm}
use Rattle.fm_lines.specs.declared.part_form.PartForm.TheVariants as lines
use Rattle.fm_pres.specs.Tables.{IsOver, part_at}
use Rattle.fm_pres.specs.declared.form.Form.{Form}
use Rattle.fm_pres.specs.declared.form.Form.TheVariants as tables
use Rattle.fm_asked.specs.Narrowing.{within, narrowed}

-- the number of columns of the part with this number; 0 where there is none
abbrev pub columns_at : List Part → ℕ → ℕ
columns_at ps k = if is_number ps k then columns_of (part_at ps k) else 0

-- the form that a table keeps of one that a line says; numbers of nothing are 0
abbrev pub IsForm : Ring → List Part → PartForm → Form → Type 0
IsForm r ps (lines.Given n columns) (tables.Given m) = m ≡ record { ring = r; rows = n; columns = rows.columns_of columns.items }
IsForm r ps (lines.Twist part times) (tables.Twist a e) = (a ≡ narrowed part) × (e ≡ times)
IsForm r ps (lines.Flip part) (tables.Flip a) = a ≡ narrowed part
IsForm r ps (lines.Beside left right) (tables.Beside a b) = (a ≡ narrowed left) × (b ≡ narrowed right)
IsForm r ps (lines.Stack above below) (tables.Stack a b) = (a ≡ narrowed above) × (b ≡ narrowed below)
IsForm r ps (lines.Times left right) (tables.Times a b) = (a ≡ narrowed left) × (b ≡ narrowed right)
IsForm r ps (lines.Pick part columns) (tables.Pick a js) = (a ≡ narrowed part) × (js.items ≡ map (within (columns_at ps a)) columns.items)
IsForm r ps form f = ⊥

-- the matrix with these columns, or there is none
abbrev pub IsGivenIf : Ring → ℕ → List (List PolyValue) → Option MatrixValue → Type 0
IsGivenIf r rows columns None = fits (parts.given rows columns) ≡ false
IsGivenIf r rows columns (Some m) = m ≡ record { ring = r; rows = rows; columns = columns }

-- a matrix is given whose columns aren't as long as it has rows, or that is too large
abbrev pub IsMisshapen : PartForm → Type 0
IsMisshapen (lines.Given n columns) = fits (parts.given n (rows.columns_of columns.items)) ≡ false
IsMisshapen form = ⊥

abbrev pub IsFormIf : Ring → List Part → PartForm → Option Form → Type 0
IsFormIf r ps form None = IsMisshapen form
IsFormIf r ps form (Some f) = IsForm r ps form f

-- and is of the ring
abbrev pub IsOverIf : Ring → Option Form → Type 0
IsOverIf r None = Unit {0}
IsOverIf r (Some f) = IsOver r f
