use Rattle.fm_report.proofs.Holding.{each_holds}
use Rattle.fm_report.proofs.laws.reports.each_verdict_holds.Goals as goal

pub returns : goal.returns
returns c = each_holds
