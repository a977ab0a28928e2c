-- The words of a line that are left to be read.
use Rattle.std.specs.Prelude.{Bool, false, List, [], ◌∷◌, Option, Some, None, option_map}
use Rattle.fm_words.specs.declared.mark.Mark.TheVariants.{Blank}
use Rattle.fm_words.specs.Parts.{Bytes, parts}
use Rattle.fm_words.specs.Words.{same_bytes}
use Rattle.fm_lines.specs.declared.words.Words.{Words}

abbrev pub parts_left : Option Bytes → List Bytes
parts_left None = []
parts_left (Some text) = parts Blank text

-- the words that are left
abbrev pub left : Words → List Bytes
left words = parts_left (option_map (λ t. t.now) words.rest)

-- the first of the words is this one
abbrev pub begins_with : Bytes → List Bytes → Bool
begins_with w [] = false
begins_with w (v ∷ ws) = same_bytes v w
