use Rattle.std.proofs.Common.{◌∙◌, ap}
use Rattle.std.specs.Int.{from_bool}
use Rattle.fm_decide.proofs.CountsLeft.{all_counted, one_more}
use Rattle.fm_decide.proofs.counting.count.Goals as goal

pub returns-in_default : goal.returns-in_default
returns-in_default c = all_counted c.args.units c.args.problem.now _ _ c.in_default.ensures.cases c.queries.invariant

pub queries-preserved : goal.queries-preserved
queries-preserved c =
    one_more c.args.units c.args.problem.now _ _ _ c.in_ok-answer.answer c.queries.counts _ _ _ c.in-Some.ensures.cases.0 c.in_ok-answer.ensures.value
    (c.from.ensures ∙ ap from_bool c.says_yes.ensures) (c.from-in-queries.ensures ∙ ap from_bool c.says_no.ensures)
    (c.from-in-queries-2.ensures ∙ ap from_bool c.is_unanswered.ensures) c.queries.invariant
