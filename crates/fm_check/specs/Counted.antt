-- The verdicts that a text states at the ends of its queries; beside these it states the roots of its chains.
use Rattle.std.specs.Prelude.{List, [], ◌∷◌, ◌++◌, Option, Some}
use Rattle.fm_words.specs.Parts.{Bytes}
use Rattle.fm_cert.specs.Kinds as kinds
use Rattle.fm_cert.specs.Lines.{Line, Row}
use Rattle.fm_report.specs.Sheets.{Sheet, blank}
use Rattle.fm_report.specs.Reading.{line_in, lines_from, said_of, sheet_after, stated_at_done}
use Rattle.fm_report.specs.Verdicts.{Stated}

-- what a line states that ends a query
abbrev pub stated_at_end : Sheet → Option Line → List Stated
stated_at_end s (Some (Row kinds.Done v)) = stated_at_done s s.head s.asked s.answer
stated_at_end s o = []

-- the verdicts that lines state that are read after what was said
abbrev pub verdicts_after : Sheet → List Bytes → List Stated
verdicts_after s [] = []
verdicts_after s (l ∷ ls) = stated_at_end s (line_in s l) ++ verdicts_after (sheet_after s (said_of s (line_in s l))) ls

unfoldable pub verdicts_stated : Bytes → List Stated
verdicts_stated bytes = verdicts_after blank (lines_from [] bytes)
