-- The report of a query, with the certificate of its answer, and the report of a problem.
use Rattle.std.specs.Prelude.{ℕ, List, [], ◌∷◌, map, Result, Ok, Err}
use Rattle.fm_words.specs.Parts.{Bytes}
use Rattle.fm_problem.specs.declared.problem.Problem.{Problem}
use Rattle.fm_problem.specs.declared.query.Query.{Query}
use Rattle.fm_plan.specs.Tasks.{Unanswered, stopped, refused}
use Rattle.fm_plan.specs.Queries.{Found, plan}
use Rattle.fm_report.specs.Reports.{QueryReport, report_text}
use Rattle.fm_answers.specs.Answers.{asked_of, found_report, halted_report, refused_report}
use Rattle.fm_standard.specs.Small.{AreSmallLines}
use Rattle.fm_certificates.specs.Certificates.{found_lines}

-- the report of an answered query: its certificate stands under the answer
abbrev pub certified_answer : (q : Problem) → Query → Found q.ring → QueryReport
certified_answer q z x = record (found_report q z x) { lines = found_lines q z x }

-- the report of a query whose plan ended so
abbrev pub certified_end : (q : Problem) → Query → Result (Found q.ring) Unanswered → QueryReport
certified_end q z (Ok x) = certified_answer q z x
certified_end q z (Err (stopped task halt)) = halted_report z task halt
certified_end q z (Err (refused refusal)) = refused_report z refusal

-- the report of a query, with this number of units for its plan
abbrev pub certified_report : ℕ → Problem → Query → QueryReport
certified_report units q z = certified_end q z (plan q.ring (asked_of q z) units).end

abbrev pub certified_reports : ℕ → Problem → List Query → List QueryReport
certified_reports units q zs = map (certified_report units q) zs

-- the report of a problem with certificates, with this number of units for each query
unfoldable pub certified_bytes : ℕ → Problem → Bytes
certified_bytes units q = report_text 2 q (certified_reports units q q.queries)

-- the numbers under answers are small
abbrev pub AreSmallReports : List QueryReport → Type 0
AreSmallReports [] = Unit {0}
AreSmallReports (b ∷ bs) = AreSmallLines b.lines × AreSmallReports bs
