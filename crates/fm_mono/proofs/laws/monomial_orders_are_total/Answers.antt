use Rattle.fm_mono.proofs.OrderLaws.{monomial_cmp_same, monomial_cmp_flip, monomial_cmp_trans}
use Rattle.fm_mono.proofs.laws.monomial_orders_are_total.Goals as goal

pub returns-clause-same : goal.returns-clause-same
returns-clause-same c = monomial_cmp_same

pub returns-clause-flip : goal.returns-clause-flip
returns-clause-flip c = monomial_cmp_flip

pub returns-clause-transitive : goal.returns-clause-transitive
returns-clause-transitive c = monomial_cmp_trans
