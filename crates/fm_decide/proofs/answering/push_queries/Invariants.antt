use Rattle.std.proofs.Common.{length, ◌++◌}
use Rattle.fm_answers.specs.Answers.{are_answered}
use Rattle.fm_cert.specs.Lines.{lines_text}
use Rattle.fm_certificates.specs.Reports.{certified_reports}
use Rattle.fm_report.specs.Reports.{query_lines}
use Rattle.fm_decide.proofs.Loops.{IsLeft}
use Rattle.fm_decide.proofs.answering.push_queries.Given as goal

abbrev pub invariant-queries : goal.invariant-queries
invariant-queries l =
    let reports = certified_reports l.fn.units l.fn.problem l.fn.problem.queries in
    IsLeft l.fn.units l.fn.problem l.out.items l.all l.number (l.initial.out.items ++ lines_text l.fn.problem.vars (query_lines l.fn.problem 1 reports)) (are_answered reports) l.left

abbrev pub decreases-queries : goal.decreases-queries
decreases-queries l = length l.left
