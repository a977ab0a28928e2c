use Rattle.fm_complete.proofs.CompleteLogs.{completed_is, completed_basis}
use Rattle.fm_complete.proofs.laws.a_completion_that_ends_is_complete.Goals as goal

pub returns-clause-log : goal.returns-clause-log
returns-clause-log c = λ r m inputs units left d v e. let x = completed_is r m inputs v units left d e in (x.0, x.1.treated, x.1.run, x.1.complete)

pub returns-clause-basis : goal.returns-clause-basis
returns-clause-basis c = λ r m inputs units left d v e. completed_basis r m inputs v units left d e
