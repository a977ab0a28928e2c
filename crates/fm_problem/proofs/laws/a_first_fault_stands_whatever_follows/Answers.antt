use Rattle.fm_problem.proofs.FurtherLines.{fault_stands}
use Rattle.fm_problem.proofs.laws.a_first_fault_stands_whatever_follows.Goals as goal

pub returns : goal.returns
returns c = fault_stands
