-- The program's matrices, and the lines that name them.
use Rattle.std.specs.Prelude.{◌≡◌, ℕ, ◌+◌, List, [], ◌∷◌, ◌++◌, map, length, Option, Some, None, Vec}
use Rattle.std.specs.Global.{Global}
use Rattle.fm_words.specs.Parts.{Bytes}
use Rattle.fm_cert.specs.declared.grid.Grid as grids
use Rattle.fm_cert.specs.declared.grid.Naming as namings
use Rattle.fm_cert.specs.declared.grid.Slot.{Slot}
use Rattle.fm_cert.specs.declared.grid.Slot.TheVariants as slots
use Rattle.fm_cert.specs.declared.naming.Numbered.{Numbered}
use Rattle.fm_cert.specs.declared.naming.Numbered.TheVariants as numbers
use Rattle.fm_cert.specs.Kinds as kinds
use Rattle.fm_cert.specs.Lines.{Line, Row}
use Rattle.fm_cert.specs.Naming.{Grid, Naming, part_line}
use Rattle.fm_cert.specs.Pieces.{AreColumnsOver, columns_of}

-- the line that names the matrix with this number
abbrev pub slot_line : Slot → ℕ → Line
slot_line (slots.D j) k = Row kinds.D (j, (k, tt))
slot_line (slots.Theta j) k = Row kinds.Theta (j, (k, tt))
slot_line (slots.Z) k = Row kinds.Z (k, tt)
slot_line (slots.N) k = Row kinds.N (k, tt)
slot_line (slots.U) k = Row kinds.U (k, tt)
slot_line (slots.K s) k = Row kinds.K (s, (k, tt))
slot_line (slots.Lambda j) k = Row kinds.Lambda (j, (k, tt))
slot_line (slots.Phi) k = Row kinds.Phi (k, tt)

abbrev pub grid_value : grids.Grid → Grid
grid_value g = record { rows = g.rows; columns = columns_of g.columns.items }

abbrev pub naming_value : namings.Naming → Naming
naming_value x = record { line = slot_line x.slot; grid = grid_value x.grid }

abbrev pub naming_values : List namings.Naming → List Naming
naming_values xs = map naming_value xs

-- the entries are over n variables
abbrev pub AreNamingsOver : ℕ → List namings.Naming → Type 0
AreNamingsOver n [] = Unit {0}
AreNamingsOver n (x ∷ xs) = AreColumnsOver n x.grid.columns.items × AreNamingsOver n xs

-- ---- one matrix that is named

-- the words that a list of byte vectors holds
abbrev pub words_of : List (Vec ℕ Global) → List Bytes
words_of ws = map (λ w. w.items) ws

-- the forms that a list of lists of words holds
abbrev pub forms_of : List (Vec (Vec ℕ Global) Global) → List (List Bytes)
forms_of fs = map (λ f. words_of f.items) fs

-- the number that a form has already
abbrev pub known_number : Numbered → Option ℕ
known_number (numbers.Known k) = Some k
known_number (numbers.New k) = None

-- a new number is the next after these many
abbrev pub IsNext : ℕ → Numbered → Type 0
IsNext count (numbers.Known k) = Unit {0}
IsNext count (numbers.New k) = k ≡ count + 1

-- the lines that name a matrix, of which the place among the numbered forms is given
abbrev pub lines_naming : Option ℕ → Naming → List (List Bytes) → List Line
lines_naming (Some k) x forms = x.line k ∷ []
lines_naming None x forms = part_line (length forms + 1) x.grid ∷ x.line (length forms + 1) ∷ []
