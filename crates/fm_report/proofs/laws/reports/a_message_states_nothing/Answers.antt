use Rattle.std.specs.Prelude.{[]}
use Rattle.fm_report.proofs.Holding.{silent_holds, nothing_stated}
use Rattle.fm_report.proofs.Silent.{message_holds}
use Rattle.fm_report.proofs.laws.reports.a_message_states_nothing.Goals as goal

pub returns-clause-line : goal.returns-clause-line
returns-clause-line c = message_holds

pub returns-clause-nothing : goal.returns-clause-nothing
returns-clause-nothing c = silent_holds [] nothing_stated
