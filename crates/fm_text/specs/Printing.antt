-- How the printed form is written piece by piece.
use Rattle.std.specs.Prelude.{◌≡◌, ℕ, List, [], ◌∷◌, ◌++◌, length, Bool, true, false}
use Rattle.std.specs.List.{join_with_byte, flat_map}
use Rattle.fm_words.specs.Parts.{Bytes}
use Rattle.fm_text.specs.Texts.{Terms}

-- a text that begins with the old one
abbrev pub Extends : Bytes → Bytes → Type 0
Extends old new = (written : Bytes) × (new ≡ old ++ written)

-- the pieces joined by the byte c; where something stands before them, the byte stands before each
abbrev pub joined : ℕ → Bool → List Bytes → Bytes
joined c false xs = join_with_byte c xs
joined c true xs = flat_map (λ x. c ∷ x) xs

-- each term has n exponents
abbrev pub HaveLength : ℕ → Terms → Type 0
HaveLength n [] = Unit {0}
HaveLength n (t ∷ ts) = (length t.0 ≡ n) × HaveLength n ts

-- `*` where something stands before
abbrev pub separator : Bool → Bytes
separator true = 42 ∷ []
separator false = []
