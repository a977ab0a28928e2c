use Rattle.std.proofs.Common.{refl, subst}
use Rattle.fm_check.specs.Reports.{StandsAt}
use Rattle.fm_check.proofs.StageRows.{after_all}
use Rattle.fm_check.proofs.stages.next_stage.Goals as goal

pub returns-in-Between-clause-stage : goal.returns-in-Between-clause-stage
returns-in-Between-clause-stage c = c.end_report.ensures.stage c.args.report.now.problem

pub returns-in-Done-clause-stage : goal.returns-in-Done-clause-stage
returns-in-Done-clause-stage c = c.end_certificate.ensures.stage c.args.report.now.problem

pub returns-in-Done-clause-judged : goal.returns-in-Done-clause-judged
returns-in-Done-clause-judged c = λ s tells stands.
    c.end_certificate.ensures.judged c.args.report.now c.in-Done.field-0 s refl tells (subst (λ stage. StandsAt c.args.report.now.problem stage s) c.in-Done.is stands)

pub returns-clause-judged : goal.returns-clause-judged
returns-clause-judged c = λ s tells stands. after_all s c.args.row (subst (λ stage. StandsAt c.args.report.now.problem stage s) c.in-End.is stands).0
