use Rattle.std.proofs.Common.{Some, None, Ok, ap, ◌∙◌, sym, subst}
use Rattle.fm_problem.specs.Sound.{IsProblem}
use Rattle.fm_check.specs.Heads.{after_order}
use Rattle.fm_check.proofs.RingLines.{order_read}
use Rattle.fm_check.proofs.heads.order_line.Goals as goal

pub returns-in-Some-clause-judged : goal.returns-in-Some-clause-judged
returns-in-Some-clause-judged c =
    order_read c.args.version c.args.problem c.args.line.now (Some c.in-Some.order) c.in-Some.ensures ∙ ap (λ q. Ok (after_order c.args.version q)) (sym c.with_order.ensures)

pub returns-in-Some-clause-problem : goal.returns-in-Some-clause-problem
returns-in-Some-clause-problem c = subst IsProblem (sym c.with_order.ensures) (c.requires.begun c.in-Some.order)

pub returns-in-None-clause-judged : goal.returns-in-None-clause-judged
returns-in-None-clause-judged c = order_read c.args.version c.args.problem c.args.line.now None c.in-None.ensures
