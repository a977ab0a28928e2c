-- Lines that name matrices. A part is printed before the first line that names it, and equal forms have one number.
use Rattle.std.specs.Prelude.{ℕ, zero, suc, ◌+◌, List, [], ◌∷◌, ◌++◌, map, length, Option, Some, None, if◌then◌else◌, codes, decimal}
use lib.Pointwise.{pointwise}
use Rattle.fm_poly.specs.Polys.{PolyValue}
use Rattle.fm_words.specs.Parts.{Bytes}
use Rattle.fm_words.specs.Words.{same_bytes}
use Rattle.fm_cert.specs.Fields.{vector_word}
use Rattle.fm_cert.specs.Kinds as kinds
use Rattle.fm_cert.specs.Lines.{Line, Row}

-- a matrix that is printed: the number of its rows, and its columns
pub record Grid : Type 0 where
  pub rows : ℕ
  pub columns : List (List PolyValue)

-- the words of its form
abbrev pub grid_words : List Bytes → Grid → List Bytes
grid_words names g = codes "given" ∷ decimal g.rows ∷ decimal (length g.columns) ∷ map (vector_word names) g.columns

-- the place of a form among those that have a number, counted from k + 1 on
abbrev pub number_after : ℕ → List (List Bytes) → List Bytes → Option ℕ
number_after k [] form = None
number_after k (g ∷ forms) form = if pointwise same_bytes g form then Some (suc k) else number_after (suc k) forms form

-- a matrix, and the line that names it by the number of its part
pub record Naming : Type 0 where
  pub line : ℕ → Line
  pub grid : Grid

abbrev pub part_line : ℕ → Grid → Line
part_line k g = Row kinds.Given (k, (g.rows, (g.columns, tt)))

-- a naming line, before it the part's own line where its form has no number yet; then the others
abbrev pub named : List Bytes → Option ℕ → Naming → List (List Bytes) → (List (List Bytes) → List Line) → List Line
named names (Some k) x forms others = x.line k ∷ others forms
named names None x forms others =
    part_line (length forms + 1) x.grid ∷ x.line (length forms + 1) ∷ others (forms ++ grid_words names x.grid ∷ [])

-- the lines that name these matrices, where `forms` have numbers already
abbrev pub naming_lines : List Bytes → List Naming → List (List Bytes) → List Line
naming_lines names [] forms = []
naming_lines names (x ∷ xs) forms = named names (number_after zero forms (grid_words names x.grid)) x forms (naming_lines names xs)

-- the forms that have numbers after a matrix of this form is named, by its place among those before
abbrev pub forms_with : Option ℕ → List (List Bytes) → List Bytes → List (List Bytes)
forms_with (Some k) forms form = forms
forms_with None forms form = forms ++ form ∷ []

-- the forms that have numbers after these matrices are named
abbrev pub forms_after : List Bytes → List Naming → List (List Bytes) → List (List Bytes)
forms_after names [] forms = forms
forms_after names (x ∷ xs) forms =
    forms_after names xs (forms_with (number_after zero forms (grid_words names x.grid)) forms (grid_words names x.grid))

-- d_j, d_(j+1), ..
abbrev pub differentials : ℕ → List Grid → List Naming
differentials j [] = []
differentials j (g ∷ gs) = record { line = λ k. Row kinds.D (j, (k, tt)); grid = g } ∷ differentials (suc j) gs

-- theta_j, theta_(j+1), ..
abbrev pub lifts : ℕ → List Grid → List Naming
lifts j [] = []
lifts j (g ∷ gs) = record { line = λ k. Row kinds.Theta (j, (k, tt)); grid = g } ∷ lifts (suc j) gs

-- generators Z of the cocycles, the relations N, and the generating morphism U
abbrev pub cocycles_naming : Grid → Naming
cocycles_naming g = record { line = λ k. Row kinds.Z (k, tt); grid = g }

abbrev pub relations_naming : Grid → Naming
relations_naming g = record { line = λ k. Row kinds.N (k, tt); grid = g }

abbrev pub morphism_naming : Grid → Naming
morphism_naming g = record { line = λ k. Row kinds.U (k, tt); grid = g }

-- K_j, K_(j+1), ..
abbrev pub kernels : ℕ → List Grid → List Naming
kernels j [] = []
kernels j (g ∷ gs) = record { line = λ k. Row kinds.K (j, (k, tt)); grid = g } ∷ kernels (suc j) gs

-- lambda_j, lambda_(j+1), ..: the lift of the identity
abbrev pub identities : ℕ → List Grid → List Naming
identities j [] = []
identities j (g ∷ gs) = record { line = λ k. Row kinds.Lambda (j, (k, tt)); grid = g } ∷ identities (suc j) gs

-- the matrix of a map
abbrev pub map_naming : Grid → Naming
map_naming g = record { line = λ k. Row kinds.Phi (k, tt); grid = g }
