use Rattle.fm_report.proofs.ReportsRead.{report_holds}
use Rattle.fm_report.proofs.laws.reports.reports_of_queries_that_hold_hold.Goals as goal

pub returns : goal.returns
returns c = report_holds
