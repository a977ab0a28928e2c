use Rattle.std.proofs.Common.{sym, ◌∙◌}
use Rattle.fm_lines.proofs.AnswersSaid.{support_said}
use Rattle.fm_lines.proofs.answers.read_answer.Goals as goal

pub returns-then-asks_support-clause-line : goal.returns-then-asks_support-clause-line
returns-then-asks_support-clause-line c =
    support_said _ _ c.args.query.now _ c.read_support.result (sym c.asks_support.ensures ∙ c.if-asks_support.true) c.read_support.ensures.line
