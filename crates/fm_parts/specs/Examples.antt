-- The log of the graph of [x*y | y^2 | x^2] over GF(2)[x, y], and parts of small shapes.
use Rattle.std.specs.Prelude.{ℕ, List, [], ◌∷◌, ◌++◌, true, false}
use Rattle.fm_gfp.specs.declared.prime.Prime.TheVariants.{Two}
use Rattle.fm_mono.specs.declared.order.Order.TheVariants.{Grevlex}
use Rattle.fm_poly.specs.declared.ring.Ring.{Ring}
use Rattle.fm_term.specs.declared.vterm.VTerm.{VTerm}
use Rattle.fm_groebner.specs.Examples.{term}
use Rattle.fm_groebner.specs.Logs.{Entry, Input, Pair, Skip}
use Rattle.fm_parts.specs.Replays.{Replay}

abbrev pub small_ring : Ring
small_ring = record { prime = Two; vars = 2; order = Grevlex }

-- x^a * y^b * e_i
abbrev pub at : (i a b : ℕ) → VTerm
at i a b = term i (a ∷ b ∷ [])

-- (x*y; 1, 0, 0), (y^2; 0, 1, 0) and (x^2; 0, 0, 1)
abbrev pub small_inputs : List (List VTerm)
small_inputs = (at 1 1 1 ∷ at 2 0 0 ∷ []) ∷ (at 1 0 2 ∷ at 3 0 0 ∷ []) ∷ (at 1 2 0 ∷ at 4 0 0 ∷ []) ∷ []

-- (0; y, x, 0), (0; x, 0, y) and (0; 0, x^2, y^2)
abbrev pub small_syzygies : List (List VTerm)
small_syzygies = (at 2 0 1 ∷ at 3 1 0 ∷ []) ∷ (at 2 1 0 ∷ at 4 0 1 ∷ []) ∷ (at 3 2 0 ∷ at 4 0 2 ∷ []) ∷ []

abbrev pub keep_input : ℕ → Entry
keep_input k = record { start = Input k; by = []; keep = true }

abbrev pub keep_pair : (a b : ℕ) → Entry
keep_pair a b = record { start = Pair a b; by = []; keep = true }

abbrev pub skip : (a b k : ℕ) → Entry
skip a b k = record { start = Skip a b k; by = []; keep = false }

-- the inputs and three pairs
abbrev pub first_entries : List Entry
first_entries = keep_input 1 ∷ keep_input 2 ∷ keep_input 3 ∷ keep_pair 1 2 ∷ keep_pair 1 3 ∷ keep_pair 4 5 ∷ []

-- the pair of 2 and 3 is zero by member 6
abbrev pub zero_pair : List ℕ → Entry
zero_pair by = record { start = Pair 2 3; by = by; keep = false }

-- the replay of the first entries and of the pair of 2 and 3
abbrev pub whole_replay : Replay
whole_replay = record { members = small_inputs ++ small_syzygies; taken = 3 ∷ 2 ∷ 1 ∷ []; treated = (2, 3) ∷ (4, 5) ∷ (1, 3) ∷ (1, 2) ∷ [] }
