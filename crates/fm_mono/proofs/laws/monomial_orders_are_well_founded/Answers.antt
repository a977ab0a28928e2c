use Rattle.fm_mono.proofs.WellFounded.{every_tuple_accessible, order_induction_test}
use Rattle.fm_mono.proofs.laws.monomial_orders_are_well_founded.Goals as goal

pub returns-clause-accessible : goal.returns-clause-accessible
returns-clause-accessible c = every_tuple_accessible

pub returns-clause-induction : goal.returns-clause-induction
returns-clause-induction c = order_induction_test
