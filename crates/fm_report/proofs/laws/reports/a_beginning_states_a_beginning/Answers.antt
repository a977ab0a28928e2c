use Rattle.fm_report.proofs.Lines.{statements_begin}
use Rattle.fm_report.proofs.laws.reports.a_beginning_states_a_beginning.Goals as goal

pub returns : goal.returns
returns c = λ front back. ((statements_begin front back).more, (statements_begin front back).is)
