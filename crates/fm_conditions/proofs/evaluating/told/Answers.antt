use Rattle.std.proofs.Common.{rules}
use Rattle.fm_conditions.proofs.Judgements.{evaluated_is, evaluated_not}
use Rattle.fm_conditions.proofs.evaluating.told.Goals as goal

pub returns-in-Ok-clause-judges : goal.returns-in-Ok-clause-judges
returns-in-Ok-clause-judges c = λ r a v w. let u = rw c.in-Ok.is at v in evaluated_is r a c.in-Ok.value.value u

pub returns-in-Err-Exponent-clause-judges : goal.returns-in-Err-Exponent-clause-judges
returns-in-Err-Exponent-clause-judges c = λ r a v w. evaluated_not r a (w (search rules))
