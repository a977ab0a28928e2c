use Rattle.fm_report.proofs.Choices.{hold_for_every_choice, since_for_every_choice}
use Rattle.fm_report.proofs.laws.reports.verdicts_hold_for_every_choice.Goals as goal

pub returns-clause-text : goal.returns-clause-text
returns-clause-text c = hold_for_every_choice

pub returns-clause-growth : goal.returns-clause-growth
returns-clause-growth c = since_for_every_choice
