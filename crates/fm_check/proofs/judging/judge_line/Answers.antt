use Rattle.std.proofs.Common.{Some, ◌∙◌, ap, sym, subst}
use Rattle.fm_lines.specs.Rows.{line_said}
use Rattle.fm_judge.specs.Judging.{step}
use Rattle.fm_check.specs.Lines.{IsOfHeadIf}
use Rattle.fm_check.specs.Reports.{Steps}
use Rattle.fm_check.proofs.SaidLines.{row_said, row_step, unread_steps, unsaid_nothing}
use Rattle.fm_check.proofs.judging.judge_line.Goals as goal

pub returns-in-Ok-Some-Row-clause-judged : goal.returns-in-Ok-Some-Row-clause-judged
returns-in-Ok-Some-Row-clause-judged c = λ s tells stands.
    let row = row_said c.in-Ok-Some-Row.field-0 c.in-Ok-Some-Row.field-0-0 c.in-Ok-Some-Row.row _ c.in-Ok-Some-Row.field-0-is c.in-Ok-Some-Row.field-0-0-is (c.in-Ok-Some-Row.ensures.line s tells.head stands) in
    subst (Steps c.judge_row.new.report c.judge_row.new.stage c.judge_row.result) (sym (row_step s c.args.line.now c.in-Ok-Some-Row.row row)) (c.judge_row.ensures.judged s tells stands)

pub returns-in-Ok-Some-Question-clause-judged : goal.returns-in-Ok-Some-Question-clause-judged
returns-in-Ok-Some-Question-clause-judged c = λ s tells stands.
    c.judge_question.ensures.judged s tells stands
    (sym (ap line_said (c.in-Ok-Some-Question.field-0-is ∙ ap Some c.in-Ok-Some-Question.field-0-0-is)) ∙ c.in-Ok-Some-Question.ensures.line s tells.head stands)

pub judge_head-requires-clause-head : goal.judge_head-requires-clause-head
judge_head-requires-clause-head c = subst IsOfHeadIf (c.in-Ok-Some-Head.field-0-is ∙ ap Some c.in-Ok-Some-Head.field-0-0-is) c.in-Ok-Some-Head.ensures.head

pub returns-in-Ok-Some-Head-clause-judged : goal.returns-in-Ok-Some-Head-clause-judged
returns-in-Ok-Some-Head-clause-judged c = λ s tells stands.
    c.judge_head.ensures.judged s tells stands
    (sym (ap line_said (c.in-Ok-Some-Head.field-0-is ∙ ap Some c.in-Ok-Some-Head.field-0-0-is)) ∙ c.in-Ok-Some-Head.ensures.line s tells.head stands)

pub returns-in-Ok-None-clause-judged : goal.returns-in-Ok-None-clause-judged
returns-in-Ok-None-clause-judged c = λ s tells stands.
    unread_steps (Unit {0}) c.unread.new.report c.unread.new.stage s c.args.line.now c.unread.result
    (unsaid_nothing s c.args.line.now (sym (ap line_said c.in-Ok-None.field-0-is) ∙ c.in-Ok-None.ensures.line s tells.head stands)) (c.unread.ensures s tells stands)
