use Rattle.fm_decide.proofs.FaultLines.{fault_line_holds}
use Rattle.fm_decide.proofs.laws.a_fault_line_states_nothing.Goals as goal

pub returns : goal.returns
returns c = fault_line_holds
