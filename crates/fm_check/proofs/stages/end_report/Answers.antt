use Rattle.fm_check.proofs.StageRows.{no_end, report_ended}
use Rattle.fm_check.proofs.stages.end_report.Goals as goal

pub returns-in-EndReport-clause-judged : goal.returns-in-EndReport-clause-judged
returns-in-EndReport-clause-judged c = λ p s tells stands. report_ended p s c.args.row.now c.in-EndReport.is tells stands.0 stands.1

pub returns-in_default : goal.returns-in_default
returns-in_default c = record { judged = λ p s tells stands. no_end s c.args.row.now stands.0 c.in_default.not-EndReport; stage = λ q. tt }
