-- The program's answers, as the reports that they give.
use Rattle.std.specs.Prelude.{◌≡◌, List}
use Rattle.fm_problem.specs.declared.problem.Problem.{Problem}
use Rattle.fm_problem.specs.declared.query.Query.{Query}
use Rattle.fm_cert.specs.Ends.{end_kind, end_values}
use Rattle.fm_cert.specs.Lines.{Line, lines_text}
use Rattle.fm_report.specs.Reports.{QueryReport}
use Rattle.fm_standard.specs.Small.{AreSmallLines}
use Rattle.fm_decide.specs.declared.ended.Answer.{Answer}

-- the report of a query with this answer and these lines under it
abbrev pub report_with : Query → Answer → List Line → QueryReport
report_with z a lines = record { question = z; kind = end_kind a.end; values = end_values a.end; lines = lines }

-- The answer gives this report of a query: it ends so, its certificate is the text of the lines under it, and their numbers are small.
pub record IsAnswerOf (q : Problem) (z : Query) (a : Answer) (b : QueryReport) : Type 0 where
  pub report : report_with z a b.lines ≡ b
  pub text : a.certificate.items ≡ lines_text q.vars b.lines
  pub small : AreSmallLines b.lines
