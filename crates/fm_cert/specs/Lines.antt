-- The lines of reports: what they say, how they are printed, and how they are read.
use Rattle.std.specs.Prelude.{ℕ, Bool, true, false, ◌||◌, if◌then◌else◌, List, [], ◌∷◌, ◌++◌, codes, decimal, Option, Some, option_map}
use Rattle.std.specs.List.{list_all, join_with_byte, flat_map}
use Rattle.fm_words.specs.Options.{◌>>=◌, where_so}
use Rattle.fm_poly.specs.declared.ring.Ring.{Ring}
use Rattle.fm_words.specs.declared.mark.Mark.TheVariants.{Blank}
use Rattle.fm_words.specs.Parts.{Bytes, parts, before_mark, after_mark}
use Rattle.fm_words.specs.Words.{words, same_bytes}
use Rattle.fm_problem.specs.Statements.{Statement, statement_of}
use Rattle.fm_problem.specs.declared.query.Query.{Query}
use Rattle.fm_cert.specs.Fields.{Values, printed_row, read_row, exact_number}
use Rattle.fm_cert.specs.Kinds.{Kind, row, kind_of}
use Rattle.fm_cert.specs.Statements.{statement_words}

-- A line. The lines of the head and the question after `query K` are those of a problem text; all others are rows.
pub data Line : Type 0 where
  Head : (statement : Statement) → Line
  Question : (k : ℕ) (statement : Statement) → Line
  Row : (kind : Kind) (values : Values (row kind)) → Line

-- ---- printing

-- the words of a line, over variables with these names
abbrev pub line_words : List Bytes → Line → List Bytes
line_words names (Head s) = statement_words s
line_words names (Question k s) = codes "query" ∷ decimal k ∷ statement_words s
line_words names (Row kind values) = printed_row names (row kind) values

-- the text of a line without its LF: the words joined by a blank
unfoldable pub line_text : List Bytes → Line → Bytes
line_text names l = join_with_byte 32 (line_words names l)

-- the text of lines over variables with these names, each ended by LF
unfoldable pub lines_text : List Bytes → List Line → Bytes
lines_text names ls = flat_map (λ l. line_text names l ++ 10 ∷ []) ls

-- ---- reading

abbrev pub is_full : Bytes → Bool
is_full [] = false
is_full (b ∷ bs) = true

-- the words of a line in which exactly one blank stands between two words, and none before or after them
abbrev pub exact_words : Bytes → Option (List Bytes)
exact_words text = where_so (list_all is_full (parts Blank text)) (Some (parts Blank text))

-- the first word of a line of the head
abbrev pub begins_head : List Bytes → Bool
begins_head [] = false
begins_head (w ∷ ws) = same_bytes w (codes "ring") || (same_bytes w (codes "order") || same_bytes w (codes "ideal"))

-- `query K QUESTION`, with exactly one blank before K and one after it
abbrev pub question_of : Bytes → Option Line
question_of text = exact_number (before_mark Blank text) >>= λ k. option_map (Question k) (statement_of (after_mark Blank text))

module _ (r : Ring) (names : List Bytes) (asked : Option Query) where
  abbrev pub row_of : List Bytes → Option Line
  row_of ws = kind_of asked ws >>= λ kind. option_map (Row kind) (read_row r names (row kind) ws)

  -- What a line says, over a ring whose variables have these names, under the query that was asked last; None where it has no form.
  -- Polynomials may be in any form without blanks, with exponents within the bound.
  unfoldable pub line_of : Bytes → Option Line
  line_of text =
      if begins_head (words text) then option_map Head (statement_of text)
      else (if same_bytes (before_mark Blank text) (codes "query") then question_of (after_mark Blank text) else (exact_words text >>= row_of))
