use Rattle.std.proofs.Common.{refl}
use Rattle.fm_check.proofs.Overs.{ideals_over, query_over}
use Rattle.fm_check.proofs.StageRows.{answered, no_ending, unanswered}
use Rattle.fm_check.proofs.stages.end_query.Goals as goal

pub returns-in_default : goal.returns-in_default
returns-in_default c = record { judged = λ s tells stands. no_ending s c.args.row.now stands.0 c.in_default.not-Ended; problem = refl; stage = tt }

pub ending_row-requires-clause-ideals : goal.ending_row-requires-clause-ideals
ending_row-requires-clause-ideals c = ideals_over c.args.report.now.problem.ring c.args.report.now.problem.ideals c.requires.problem.ideals

pub ending_row-requires-clause-query : goal.ending_row-requires-clause-query
ending_row-requires-clause-query c = query_over c.args.report.now.problem c.args.asked.query c.requires.query

pub returns-in-Some-clause-judged : goal.returns-in-Some-clause-judged
returns-in-Some-clause-judged c = λ s tells stands.
    let sum = c.in-Some.ensures in
    answered c.args.report.now c.args.asked c.in-Ok-Some.certificate s c.args.row.now c.in-Ended.ending c.in-Ok-Some.field-0 c.in-Some.verdicts c.in-Ended.is c.in-Ok-Some.field-0-is
    sum.1 tells (c.in-Ok-Some.ensures.answers s stands.2 stands.1 stands.0)

pub returns-in-Some-checked_add-clause-judged : goal.returns-in-Some-checked_add-clause-judged
returns-in-Some-checked_add-clause-judged c = λ s tells stands.
    let sum = c.in-Some-checked_add.ensures in
    unanswered c.args.report.now c.args.asked s c.args.row.now c.in-Ended.ending c.in-Ok-None.field-0 c.in-Some-checked_add.passed c.in-Ended.is c.in-Ok-None.field-0-is
    sum.1 tells (c.in-Ok-None.ensures.answers s stands.2 stands.1 stands.0)
