use Rattle.fm_report.proofs.Holding.{front_holds}
use Rattle.fm_report.proofs.laws.reports.verdicts_hold_in_a_beginning.Goals as goal

pub returns : goal.returns
returns c = front_holds
