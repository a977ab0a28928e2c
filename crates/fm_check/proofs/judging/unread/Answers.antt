use Rattle.std.proofs.Common.{◌∙◌, ap}
use Rattle.fm_judge.specs.Judging.{without_exponents}
use Rattle.fm_report.specs.Reading.{line_in}
use Rattle.fm_check.proofs.CappedRows.{capped_row}
use Rattle.fm_check.proofs.SaidLines.{row_said}
use Rattle.fm_check.proofs.judging.unread.Goals as goal

pub returns-in-Ok-Some-Row : goal.returns-in-Ok-Some-Row
returns-in-Ok-Some-Row c = λ s tells stands.
    capped_row (Unit {0}) c.judge_row.new.report c.judge_row.new.stage c.judge_row.result s c.in-Ok-Some-Row.row (line_in s.sheet (without_exponents c.args.line.now)) c.unless_form.result
    (row_said c.in-Ok-Some-Row.field-0 c.in-Ok-Some-Row.field-0-0 c.in-Ok-Some-Row.row _ c.in-Ok-Some-Row.field-0-is c.in-Ok-Some-Row.field-0-0-is
    (c.in-Ok-Some-Row.ensures.line s tells.head stands ∙ ap (line_in s.sheet) (c.deref.ensures.value ∙ c.in-Ok.ensures)))
    c.unless_form.ensures (c.judge_row.ensures.judged s tells stands)
