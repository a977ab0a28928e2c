use Rattle.std.proofs.Common.{Ok, option_map, ◌∙◌, ap, sym, subst}
use Rattle.fm_problem.specs.Statements.{statement_of}
use Rattle.fm_cert.specs.Lines.{Question}
use Rattle.fm_check.specs.Reports.{StandsAt, Tells}
use Rattle.fm_check.specs.declared.report.Report.{Report}
use Rattle.fm_check.proofs.SaidLines.{tried_step, unread_steps, untried_question}
use Rattle.fm_check.proofs.judging.judge_question.Goals as goal

pub returns-in-Ok-true-clause-judged : goal.returns-in-Ok-true-clause-judged
returns-in-Ok-true-clause-judged c = λ s tells stands e.
    tried_step c.begin_query.new.report c.begin_query.new.stage s c.args.line.now (option_map (Question c.args.number) (statement_of c.args.question.now)) c.begin_query.result
    (c.in-Ok-true.is ∙ ap Ok c.in-Ok-true.field-0-test) e (c.begin_query.ensures.said s tells stands)

pub returns-in-Ok-false-clause-judged : goal.returns-in-Ok-false-clause-judged
returns-in-Ok-false-clause-judged c = λ s tells stands e.
    let same = c.in-Ok-false.ensures.unchanged c.in-Ok-false.field-0-test in
    let unsaid = untried_question c.begin_query.new.report c.begin_query.new.stage s c.args.line.now c.args.number (statement_of c.args.question.now) c.begin_query.result
    (c.in-Ok-false.is ∙ ap Ok c.in-Ok-false.field-0-test) e (c.begin_query.ensures.said s tells stands) in
    unread_steps (Unit {0}) c.unread.new.report c.unread.new.stage s c.args.line.now c.unread.result unsaid
    (c.unread.ensures s (subst (λ p. Tells p s) (sym same.0) tells)
    (subst (λ (p : Report). StandsAt p.problem c.begin_query.new.stage s) (sym same.0) (subst (λ stage. StandsAt c.args.report.now.problem stage s) (sym same.1) stands)))
