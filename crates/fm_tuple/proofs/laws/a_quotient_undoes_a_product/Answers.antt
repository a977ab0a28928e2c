use Rattle.fm_tuple.proofs.Tuples.{tuple_sum_difference}
use Rattle.fm_tuple.proofs.laws.a_quotient_undoes_a_product.Goals as goal

pub returns : goal.returns
returns c = tuple_sum_difference
