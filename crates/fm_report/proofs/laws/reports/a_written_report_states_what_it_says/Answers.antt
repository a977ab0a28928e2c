use Rattle.fm_report.proofs.ReportsRead.{report_read}
use Rattle.fm_report.proofs.laws.reports.a_written_report_states_what_it_says.Goals as goal

pub returns : goal.returns
returns c = report_read
