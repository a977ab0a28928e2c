-- What the reader's values mean.
use Rattle.std.specs.Prelude.{ℕ}
use Rattle.fm_words.specs.declared.mark.Mark.TheVariants.{Comma}
use Rattle.fm_words.specs.Parts.{parts}
use Rattle.fm_words.specs.Words.{words, value}
use Rattle.fm_problem.specs.declared.fault_kind.FaultKind.{FaultKind}
use Rattle.fm_words.specs.declared.read_error.ReadError.{ReadError}
use Rattle.fm_words.specs.declared.read_error.ReadError.TheVariants.{Fault, Memory}
use Rattle.fm_problem.specs.declared.statements.StatementText.{StatementText}
use Rattle.fm_problem.specs.declared.statements.StatementText as texts
use Rattle.fm_problem.specs.declared.problem_error.ProblemError.{ProblemError}
use Rattle.fm_problem.specs.declared.problem_error.ProblemError as errors
use Rattle.fm_problem.specs.Statements as statements

abbrev pub statement_view : StatementText → statements.Statement
statement_view (texts.TheVariants.Ring digits names) = statements.RingLine (value digits.now) (words names.now)
statement_view (texts.TheVariants.Order o) = statements.OrderLine o
statement_view (texts.TheVariants.Ideal name generators) = statements.IdealLine name.now (parts Comma generators.now)
statement_view (texts.TheVariants.Module q degree name) = statements.ModuleLine q (value degree.now) name.now
statement_view (texts.TheVariants.Class degree name stage entries) =
    statements.ClassLine (value degree.now) name.now (value stage.now) (statements.entries_of entries.now)
statement_view (texts.TheVariants.Invert degree name text) = statements.InvertLine (value degree.now) name.now text.now
statement_view (texts.TheVariants.Map degree source target) = statements.MapLine (value degree.now) source.now target.now
statement_view (texts.TheVariants.Member name text) = statements.MemberLine name.now text.now

-- the error of a line, in its text
abbrev pub error_at : ℕ → ReadError FaultKind → ProblemError
error_at l (Fault k) = errors.TheVariants.Fault l k
error_at l Memory = errors.TheVariants.Memory
