use Rattle.std.proofs.Common.{◌∙◌, sym}
use Rattle.fm_asked.proofs.TaskWords.{not_number, not_exact, exact_is}
use Rattle.fm_asked.proofs.tasks.is_exact_number.Goals as goal

pub returns-then-not-is_number : goal.returns-then-not-is_number
returns-then-not-is_number c = not_number c.args.word.now c.is_number.result c.is_number.ensures c.if-not-is_number.true

pub returns-then-not-is_exact : goal.returns-then-not-is_exact
returns-then-not-is_exact c = not_exact c.args.word.now c.is_exact.result c.is_exact.ensures c.if-not-is_exact.true
    (sym c.is_number.ensures ∙ c.if-not-is_number.false)

pub returns : goal.returns
returns c =
    exact_is c.args.word.now c.number.result c.is_some.result (sym c.is_number.ensures ∙ c.if-not-is_number.false)
    (sym c.is_exact.ensures ∙ c.if-not-is_exact.false)
    c.number.ensures c.is_some.ensures
