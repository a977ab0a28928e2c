use Rattle.fm_limit.proofs.SmallIdeals.{inverting_one, inverting_zero}
use Rattle.fm_limit.proofs.laws.examples.inverting_zero_and_one.Goals as goal

pub returns-clause-zero : goal.returns-clause-zero
returns-clause-zero c = inverting_zero

pub returns-clause-one : goal.returns-clause-one
returns-clause-one c = inverting_one
