use Rattle.fm_tuple.proofs.Tuples.{tuple_multiple_one, tuple_multiple_product, tuple_multiple_sum}
use Rattle.fm_tuple.proofs.laws.multiples_act_on_tuples.Goals as goal

pub returns-clause-one : goal.returns-clause-one
returns-clause-one c = tuple_multiple_one

pub returns-clause-product : goal.returns-clause-product
returns-clause-product c = tuple_multiple_product

pub returns-clause-sum : goal.returns-clause-sum
returns-clause-sum c = tuple_multiple_sum
