use Rattle.fm_check.proofs.Overs.{ideals_over}
use Rattle.fm_check.proofs.StageRows.{certified}
use Rattle.fm_check.proofs.stages.row_of_certificate.Goals as goal

pub row_under_answer-requires-clause-ideals : goal.row_under_answer-requires-clause-ideals
row_under_answer-requires-clause-ideals c = ideals_over c.args.report.now.problem.ring c.args.report.now.problem.ideals c.requires.problem.ideals

pub returns-in-Ok-clause-judged : goal.returns-in-Ok-clause-judged
returns-in-Ok-clause-judged c = λ s tells stands.
    certified c.args.report.now c.row_under_answer.new.asked c.row_under_answer.new.certificate s c.stage_with.result _ tells
    (c.in-Ok.ensures.leads s stands.1 tells.version stands.0)
    (λ t says there. c.stage_with.ensures.stands c.args.report.now.problem t c.in-Ok.ensures.certificate says there)
