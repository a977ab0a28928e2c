-- What the program's lines say.
use Rattle.std.specs.Prelude.{ℕ, ◌≡◌, List, [], ◌∷◌, map, string_bytes}
use Rattle.fm_problem.specs.declared.problem.Problem.{Problem}
use Rattle.fm_problem.specs.declared.query.Query.{Query}
use Rattle.fm_problem.specs.declared.query.Query as queries
use Rattle.fm_cert.specs.declared.end.End.{End}
use Rattle.fm_cert.specs.declared.end.End.TheVariants as ends
use Rattle.fm_cert.specs.declared.line.Line.{Line}
use Rattle.fm_cert.specs.declared.line.Line.TheVariants as program
use Rattle.fm_cert.specs.Ends.{end_kind, end_values}
use Rattle.fm_cert.specs.Kinds as kinds
use Rattle.fm_cert.specs.Lines as lines
use Rattle.fm_cert.specs.Lines.{Question, Row}
use Rattle.fm_cert.specs.Pieces.{AreOverVariables, AreColumnsOver, columns_of}
use Rattle.fm_cert.specs.Questions.{question_line}

-- the line of an end
abbrev pub end_line : End → lines.Line
end_line e = Row (kinds.Ended (end_kind e)) (end_values e)

-- what a line of the program says, in the report of a problem
abbrev pub line_value : Problem → Line → lines.Line
line_value q (program.Report version) = Row kinds.Report (version, tt)
line_value q (program.Query number query) = Question number (question_line q query)
line_value q (program.Ended end) = end_line end
line_value q (program.Datum name i) = Row kinds.Datum (string_bytes name, (i, tt))
line_value q (program.Given part rows columns) = Row kinds.Given (part, (rows, (columns_of columns.items, tt)))
line_value q (program.D j part) = Row kinds.D (j, (part, tt))
line_value q (program.Theta j part) = Row kinds.Theta (j, (part, tt))
line_value q (program.Z part) = Row kinds.Z (part, tt)
line_value q (program.N part) = Row kinds.N (part, tt)
line_value q (program.U part) = Row kinds.U (part, tt)
line_value q (program.K s part) = Row kinds.K (s, (part, tt))
line_value q (program.Lambda j part) = Row kinds.Lambda (j, (part, tt))
line_value q (program.Phi part) = Row kinds.Phi (part, tt)
line_value q (program.Done number) = Row kinds.Done (number, tt)
line_value q (program.EndReport) = Row kinds.EndReport tt

abbrev pub line_values : Problem → List Line → List lines.Line
line_values q ls = map (line_value q) ls

-- ---- what can be printed over n variables

abbrev pub IsQueryOver : ℕ → Query → Type 0
IsQueryOver n (queries.TheVariants.Zero i k) = Unit {0}
IsQueryOver n (queries.TheVariants.Class i k e z) = AreOverVariables n z
IsQueryOver n (queries.TheVariants.Root i k) = Unit {0}
IsQueryOver n (queries.TheVariants.Invert i k f) = n ≡ f.ring.vars
IsQueryOver n (queries.TheVariants.Support i k) = Unit {0}
IsQueryOver n (queries.TheVariants.Map i k j) = Unit {0}
IsQueryOver n (queries.TheVariants.Member k f) = n ≡ f.ring.vars
IsQueryOver n (queries.TheVariants.Resolution i k) = Unit {0}
IsQueryOver n (queries.TheVariants.ExtOf i k) = Unit {0}

abbrev pub IsEndOver : ℕ → End → Type 0
IsEndOver n (ends.Zero is_zero stable) = Unit {0}
IsEndOver n (ends.Class stage) = Unit {0}
IsEndOver n (ends.Invert power) = Unit {0}
IsEndOver n (ends.Support ideal) = AreOverVariables n ideal.items
IsEndOver n (ends.Root rank stable) = Unit {0}
IsEndOver n (ends.Ranks ranks) = Unit {0}
IsEndOver n (ends.ExtOf generators relations) = Unit {0}
IsEndOver n (ends.Map zero one onto) = Unit {0}
IsEndOver n (ends.Member is_member) = Unit {0}
IsEndOver n (ends.Budget task) = Unit {0}
IsEndOver n (ends.Exponents task) = Unit {0}
IsEndOver n (ends.WrongLength found needed) = Unit {0}
IsEndOver n (ends.NotCocycle component) = Unit {0}
IsEndOver n (ends.NotContained generator) = Unit {0}

abbrev pub IsLineOver : ℕ → Line → Type 0
IsLineOver n (program.Report version) = Unit {0}
IsLineOver n (program.Query number query) = IsQueryOver n query
IsLineOver n (program.Ended end) = IsEndOver n end
IsLineOver n (program.Datum name i) = Unit {0}
IsLineOver n (program.Given part rows columns) = AreColumnsOver n columns.items
IsLineOver n (program.D j part) = Unit {0}
IsLineOver n (program.Theta j part) = Unit {0}
IsLineOver n (program.Z part) = Unit {0}
IsLineOver n (program.N part) = Unit {0}
IsLineOver n (program.U part) = Unit {0}
IsLineOver n (program.K s part) = Unit {0}
IsLineOver n (program.Lambda j part) = Unit {0}
IsLineOver n (program.Phi part) = Unit {0}
IsLineOver n (program.Done number) = Unit {0}
IsLineOver n (program.EndReport) = Unit {0}

abbrev pub AreLinesOver : ℕ → List Line → Type 0
AreLinesOver n [] = Unit {0}
AreLinesOver n (l ∷ ls) = IsLineOver n l × AreLinesOver n ls
