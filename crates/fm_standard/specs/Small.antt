-- Lines whose numbers are below 2^64, as a program has them.
use Rattle.std.specs.Prelude.{ℕ, ◌<◌, ◌≤◌, ◌^◌, List, [], ◌∷◌, length, Option}
use Rattle.fm_cert.specs.Fields.{Field, number, times, name, yes_no, yes_with, keep_or_zero, by_numbers, numbers, free_words, generators, columns, Value, Item, word, field, Values}
use Rattle.fm_cert.specs.Kinds.{row}
use Rattle.fm_cert.specs.Lines.{Line, Head, Question, Row}
use Rattle.fm_cert.specs.Writable.{AreSmall}

-- the numbers of a field, and how many vectors stand in it
abbrev pub IsSmallValue : (f : Field) → Value f → Type 0
IsSmallValue number n = n < 2 ^ 64
IsSmallValue times n = n ≤ 16
IsSmallValue name m = Unit {0}
IsSmallValue yes_no b = Unit {0}
IsSmallValue (yes_with w) o = Unit {0}
IsSmallValue keep_or_zero b = Unit {0}
IsSmallValue by_numbers ks = AreSmall ks
IsSmallValue numbers ks = (0 < length ks) × AreSmall ks
IsSmallValue free_words ws = Unit {0}
IsSmallValue generators fs = Unit {0}
IsSmallValue columns vs = length vs < 2 ^ 64

abbrev pub AreSmallValues : (items : List Item) → Values items → Type 0
AreSmallValues [] vs = Unit {0}
AreSmallValues (word w ∷ items) vs = AreSmallValues items vs
AreSmallValues (field f ∷ items) vs = IsSmallValue f vs.0 × AreSmallValues items vs.1

-- lines of certificates; those of the head and of queries are none
abbrev pub IsSmallLine : Line → Type 0
IsSmallLine (Head s) = ⊥
IsSmallLine (Question k s) = ⊥
IsSmallLine (Row kind values) = AreSmallValues (row kind) values

unfoldable pub AreSmallLines : List Line → Type 0
AreSmallLines [] = Unit {0}
AreSmallLines (l ∷ ls) = IsSmallLine l × AreSmallLines ls
