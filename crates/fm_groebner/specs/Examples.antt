-- A worked log over GF(2)[x, y], and two vectors.
use Rattle.std.specs.Prelude.{ℕ, List, [], ◌∷◌, true, false}
use Rattle.fm_term.specs.declared.vterm.VTerm.{VTerm}
use Rattle.fm_groebner.specs.Logs.{Entry, Input, Pair, Skip}

-- x^a * e_i
abbrev pub term : ℕ → List ℕ → VTerm
term i a = record { component = i; mono = a; coeff = 1 }

-- (x; 1) and (y; 0)
abbrev pub two_vectors : List (List VTerm)
two_vectors = (term 1 (1 ∷ 0 ∷ []) ∷ term 2 (0 ∷ 0 ∷ []) ∷ []) ∷ (term 1 (0 ∷ 1 ∷ []) ∷ []) ∷ []

-- x^2 + y and x
abbrev pub worked_inputs : List (List VTerm)
worked_inputs = (term 1 (2 ∷ 0 ∷ []) ∷ term 1 (0 ∷ 1 ∷ []) ∷ []) ∷ (term 1 (1 ∷ 0 ∷ []) ∷ []) ∷ []

-- x^2 + y, x and y
abbrev pub worked_members : List (List VTerm)
worked_members = (term 1 (2 ∷ 0 ∷ []) ∷ term 1 (0 ∷ 1 ∷ []) ∷ []) ∷ (term 1 (1 ∷ 0 ∷ []) ∷ []) ∷ (term 1 (0 ∷ 1 ∷ []) ∷ []) ∷ []

abbrev pub worked_log : List Entry
worked_log =
    record { start = Input 1; by = []; keep = true }
    ∷ record { start = Input 2; by = []; keep = true }
    ∷ record { start = Pair 1 2; by = []; keep = true }
    ∷ record { start = Pair 2 3; by = []; keep = false }
    ∷ record { start = Skip 1 3 2; by = []; keep = false } ∷ []

abbrev pub worked_treated : List (ℕ × ℕ)
worked_treated = (1, 3) ∷ (2, 3) ∷ (1, 2) ∷ []

-- both inputs taken and kept, and their pair not treated
abbrev pub unfinished_log : List Entry
unfinished_log = record { start = Input 1; by = []; keep = true } ∷ record { start = Input 2; by = []; keep = true } ∷ []

-- x alone
abbrev pub x_alone : List VTerm
x_alone = term 1 (1 ∷ 0 ∷ []) ∷ []
