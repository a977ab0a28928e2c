-- What the lines say that a program reads.
use Rattle.std.specs.Prelude.{ℕ, List, [], ◌∷◌, map, Vec, Option, Some, None, option_map}
use Rattle.std.specs.Global.{Global}
use Rattle.fm_poly.specs.Polys.{PolyValue}
use Rattle.fm_poly.specs.declared.ring.Ring.{Ring}
use Rattle.fm_vec.specs.Components.{AreOver}
use Rattle.fm_words.specs.declared.mark.Mark.TheVariants.{Blank}
use Rattle.fm_words.specs.Parts.{parts}
use Rattle.fm_problem.specs.Statements.{statement_of}
use Rattle.fm_cert.specs.Kinds as kinds
use Rattle.fm_cert.specs.Lines.{Line, Head, Question, Row}
use Rattle.fm_lines.specs.declared.ending.Ending.{Ending}
use Rattle.fm_lines.specs.declared.ending.Ending.TheVariants as endings
use Rattle.fm_lines.specs.declared.line_text.LineText.{LineText}
use Rattle.fm_lines.specs.declared.line_text.LineText.TheVariants as texts
use Rattle.fm_lines.specs.declared.part_form.PartForm.{PartForm}
use Rattle.fm_lines.specs.declared.part_form.PartForm.TheVariants as forms
use Rattle.fm_lines.specs.declared.row.Row as program
use Rattle.fm_lines.specs.declared.row.Row.TheVariants as rows

-- the lists that a list of vectors holds
abbrev pub columns_of : List (Vec PolyValue Global) → List (List PolyValue)
columns_of cs = map (λ c. c.items) cs

abbrev pub ending_line : Ending → Line
ending_line (endings.Zero is_zero stable) = Row (kinds.Ended kinds.Zero) (is_zero, (stable, tt))
ending_line (endings.Class stage) = Row (kinds.Ended kinds.Class) (stage, tt)
ending_line (endings.Invert power) = Row (kinds.Ended kinds.Invert) (power, tt)
ending_line (endings.Support ideal) = Row (kinds.Ended kinds.Support) (ideal.items, tt)
ending_line (endings.Root rank stable) = Row (kinds.Ended kinds.Root) (rank, (stable, tt))
ending_line (endings.Ranks ranks) = Row (kinds.Ended kinds.Ranks) (ranks.items, tt)
ending_line (endings.ExtOf generators relations) = Row (kinds.Ended kinds.ExtOf) (generators, (relations, tt))
ending_line (endings.Map is_zero is_one onto) = Row (kinds.Ended kinds.Map) (is_zero, (is_one, (onto, tt)))
ending_line (endings.Member is_member) = Row (kinds.Ended kinds.Member) (is_member, tt)
ending_line (endings.Budget task) = Row (kinds.Ended kinds.Budget) (parts Blank task.now, tt)
ending_line (endings.Exponents task) = Row (kinds.Ended kinds.Exponents) (parts Blank task.now, tt)
ending_line (endings.WrongLength found needed) = Row (kinds.Ended kinds.WrongLength) (found, (needed, tt))
ending_line (endings.NotCocycle component) = Row (kinds.Ended kinds.NotCocycle) (component, tt)
ending_line (endings.NotContained generator) = Row (kinds.Ended kinds.NotContained) (generator, tt)

-- `part K FORM`
abbrev pub part_line : ℕ → PartForm → Line
part_line k (forms.Given rows columns) = Row kinds.Given (k, (rows, (columns_of columns.items, tt)))
part_line k (forms.Twist part times) = Row kinds.Twist (k, (part, (times, tt)))
part_line k (forms.Flip part) = Row kinds.Flip (k, (part, tt))
part_line k (forms.Beside left right) = Row kinds.Beside (k, (left, (right, tt)))
part_line k (forms.Stack above below) = Row kinds.Stack (k, (above, (below, tt)))
part_line k (forms.Times left right) = Row kinds.Times (k, (left, (right, tt)))
part_line k (forms.Pick part columns) = Row kinds.Pick (k, (part, (columns.items, tt)))

-- the line that a row says
abbrev pub row_line : program.Row → Line
row_line (rows.Report version) = Row kinds.Report (version, tt)
row_line (rows.Ended ending) = ending_line ending
row_line (rows.Part number form) = part_line number form
row_line (rows.Log number part) = Row kinds.Log (number, (part, tt))
row_line (rows.Input input by keep) = Row kinds.Input (input, (by.items, (keep, tt)))
row_line (rows.Pair first second by keep) = Row kinds.Pair (first, (second, (by.items, (keep, tt))))
row_line (rows.Skip first second by) = Row kinds.Skip (first, (second, (by, tt)))
row_line rows.EndLog = Row kinds.EndLog tt
row_line (rows.Datum name degree) = Row kinds.Datum (name.now, (degree, tt))
row_line (rows.D j part) = Row kinds.D (j, (part, tt))
row_line (rows.Exact j shown) = Row kinds.Exact (j, (shown.log, (shown.x, (shown.w, tt))))
row_line (rows.Theta j part) = Row kinds.Theta (j, (part, tt))
row_line (rows.Cocycles part shown) = Row kinds.Cocycles (part, (shown.log, (shown.x, (shown.w, tt))))
row_line (rows.Relations part shown) = Row kinds.Relations (part, (shown.log, (shown.x, (shown.w, tt))))
row_line (rows.Morphism part) = Row kinds.Morphism (part, tt)
row_line (rows.Chain s part shown) = Row kinds.Chain (s, (part, (shown.log, (shown.x, (shown.w, tt)))))
row_line (rows.Grows s shown) = Row kinds.Grows (s, (shown.log, (shown.column, (shown.by.items, tt))))
row_line (rows.Stable t w) = Row kinds.Stable (t, (w, tt))
row_line (rows.Z part) = Row kinds.Z (part, tt)
row_line (rows.N part) = Row kinds.N (part, tt)
row_line (rows.U part) = Row kinds.U (part, tt)
row_line (rows.K s part) = Row kinds.K (s, (part, tt))
row_line (rows.Whole w) = Row kinds.Whole (w, tt)
row_line (rows.Proper shown) = Row kinds.Proper (shown.log, (shown.column, (shown.by.items, tt)))
row_line (rows.Coordinates part) = Row kinds.Coordinates (part, tt)
row_line (rows.Lives k log by) = Row kinds.Lives (k, (log, (by.items, tt)))
row_line (rows.Dies m w) = Row kinds.Dies (m, (w, tt))
row_line (rows.Cofactors x) = Row kinds.Cofactors (x, tt)
row_line (rows.Foreign log by) = Row kinds.Foreign (log, (by.items, tt))
row_line (rows.Annihilator part shown) = Row kinds.Annihilator (part, (shown.log, (shown.x, (shown.w, tt))))
row_line (rows.Power w) = Row kinds.Power (w, tt)
row_line (rows.Least shown) = Row kinds.Least (shown.log, (shown.column, (shown.by.items, tt)))
row_line (rows.Colon j part shown) = Row kinds.Colon (j, (part, (shown.log, (shown.x, (shown.w, tt)))))
row_line (rows.Settles j w) = Row kinds.Settles (j, (w, tt))
row_line (rows.Lambda j part) = Row kinds.Lambda (j, (part, tt))
row_line (rows.Phi part) = Row kinds.Phi (part, tt)
row_line (rows.Null w) = Row kinds.Null (w, tt)
row_line (rows.NonNull shown) = Row kinds.NonNull (shown.log, (shown.column, (shown.by.items, tt)))
row_line (rows.Fibre part shown) = Row kinds.Fibre (part, (shown.log, (shown.x, (shown.w, tt))))
row_line (rows.One w) = Row kinds.One (w, tt)
row_line (rows.NotOne shown) = Row kinds.NotOne (shown.log, (shown.column, (shown.by.items, tt)))
row_line (rows.Link r part shown) = Row kinds.Link (r, (part, (shown.log, (shown.x, (shown.w, tt)))))
row_line (rows.Short r shown) = Row kinds.Short (r, (shown.log, (shown.column, (shown.by.items, tt))))
row_line (rows.Onto r w) = Row kinds.Onto (r, (w, tt))
row_line (rows.Closes r w) = Row kinds.Closes (r, (w, tt))
row_line (rows.Done number) = Row kinds.Done (number, tt)
row_line rows.EndReport = Row kinds.EndReport tt

-- the line of a text; the form of heads and of questions is that of problem texts
abbrev pub line_said : Option LineText → Option Line
line_said None = None
line_said (Some (texts.Head text)) = option_map Head (statement_of text.now)
line_said (Some (texts.Question number question)) = option_map (Question number) (statement_of question.now)
line_said (Some (texts.Row row)) = Some (row_line row)

-- the polynomials are of the ring
abbrev pub AreColumnsOver : Ring → List (Vec PolyValue Global) → Type 0
AreColumnsOver r [] = Unit {0}
AreColumnsOver r (c ∷ cs) = AreOver r c.items × AreColumnsOver r cs

abbrev pub IsEndingOver : Ring → Ending → Type 0
IsEndingOver r (endings.Support ideal) = AreOver r ideal.items
IsEndingOver r ending = Unit {0}

abbrev pub IsFormOver : Ring → PartForm → Type 0
IsFormOver r (forms.Given rows columns) = AreColumnsOver r columns.items
IsFormOver r form = Unit {0}

abbrev pub IsRowOver : Ring → program.Row → Type 0
IsRowOver r (rows.Ended ending) = IsEndingOver r ending
IsRowOver r (rows.Part number form) = IsFormOver r form
IsRowOver r row = Unit {0}

abbrev pub IsLineOver : Ring → Option LineText → Type 0
IsLineOver r (Some (texts.Row row)) = IsRowOver r row
IsLineOver r line = Unit {0}
