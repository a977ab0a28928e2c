use Rattle.fm_tuple.proofs.Tuples.{tuple_sum_comm, tuple_sum_assoc, zeros_tuple_sum, tuple_sum_cancel}
use Rattle.fm_tuple.proofs.laws.tuples_are_a_commutative_monoid.Goals as goal

pub returns-clause-commutative : goal.returns-clause-commutative
returns-clause-commutative c = tuple_sum_comm

pub returns-clause-associative : goal.returns-clause-associative
returns-clause-associative c = tuple_sum_assoc

pub returns-clause-neutral : goal.returns-clause-neutral
returns-clause-neutral c = zeros_tuple_sum

pub returns-clause-cancel : goal.returns-clause-cancel
returns-clause-cancel c = tuple_sum_cancel
