use Rattle.fm_tuple.proofs.TupleDivisors.{divides_itself, divides_trans, divides_antisymm, divides_sum}
use Rattle.fm_tuple.proofs.laws.divisibility_is_a_partial_order.Goals as goal

pub returns-clause-itself : goal.returns-clause-itself
returns-clause-itself c = divides_itself

pub returns-clause-transitive : goal.returns-clause-transitive
returns-clause-transitive c = divides_trans

pub returns-clause-antisymmetric : goal.returns-clause-antisymmetric
returns-clause-antisymmetric c = divides_antisymm

pub returns-clause-factor : goal.returns-clause-factor
returns-clause-factor c = divides_sum
