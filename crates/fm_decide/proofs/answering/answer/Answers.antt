use Rattle.fm_decide.proofs.Whole.{report_written}
use Rattle.fm_decide.proofs.answering.answer.Goals as goal

pub returns-clause-report : goal.returns-clause-report
returns-clause-report c =
    report_written c.args.units c.args.problem.now _ _ _ _ c.new-report.ensures.items c.in_ok-push_head.ensures c.in_ok-all.ensures.text c.in_ok-push.ensures
