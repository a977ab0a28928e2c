-- The lines of a text, with their numbers.
use Rattle.std.specs.Prelude.{ℕ, ◌+◌, Bool, true, if◌then◌else◌, nat_eq, List, [], ◌∷◌, length, Option, Some, None}
use Rattle.fm_words.specs.declared.mark.Mark.TheVariants.{Feed, Blank}
use Rattle.fm_words.specs.Parts.{Bytes, is_mark, parts}

-- a line with its number
pub record NumberedLine : Type 0 where
  pub number : ℕ
  pub text : Bytes

-- the line without one CR at its end
abbrev pub without_return : Bytes → Bytes
without_return [] = []
without_return (b ∷ []) = if nat_eq b 13 then [] else (b ∷ [])
without_return (b ∷ c ∷ bs) = b ∷ without_return (c ∷ bs)

-- blanks alone, or a first byte that isn't a blank and is `#`
abbrev pub is_passed : Bytes → Bool
is_passed [] = true
is_passed (b ∷ bs) = if is_mark Blank b then is_passed bs else nat_eq b 35

-- the lines that aren't passed over, the first of them counting as n
abbrev pub numbered : ℕ → List Bytes → List NumberedLine
numbered n [] = []
numbered n (l ∷ ls) =
    if is_passed (without_return l) then numbered (n + 1) ls
    else (record { number = n; text = without_return l } ∷ numbered (n + 1) ls)

-- the lines of a text that aren't passed over, with their numbers from 1
abbrev pub lines_of : Bytes → List NumberedLine
lines_of text = numbered 1 (parts Feed text)

-- n and the number of these lines; what stands after the last LF is a line if it isn't empty
abbrev pub after_lines : ℕ → List Bytes → ℕ
after_lines n [] = n
after_lines n ([] ∷ []) = n
after_lines n ((b ∷ bs) ∷ []) = n + 1
after_lines n (l ∷ k ∷ ls) = after_lines (n + 1) (k ∷ ls)

-- the number after that of the last line
abbrev pub end_of : Bytes → ℕ
end_of text = after_lines 1 (parts Feed text)

-- the lines that are still ahead, where a text is left
abbrev pub ahead : ℕ → Option Bytes → List NumberedLine
ahead n None = []
ahead n (Some text) = numbered n (parts Feed text)

-- a bound on the numbers of the lines that are ahead
abbrev pub reach : ℕ → Option Bytes → ℕ
reach n None = 0
reach n (Some text) = n + length text

-- the bytes that are left, and one where a text is left at all
abbrev pub size_of : Option Bytes → ℕ
size_of None = 0
size_of (Some text) = length text + 1
