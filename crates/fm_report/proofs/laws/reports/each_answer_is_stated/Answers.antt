use Rattle.fm_report.proofs.Ended.{answers_are_stated}
use Rattle.fm_report.proofs.laws.reports.each_answer_is_stated.Goals as goal

pub returns : goal.returns
returns c = answers_are_stated
