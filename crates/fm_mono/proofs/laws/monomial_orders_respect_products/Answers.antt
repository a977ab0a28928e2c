use Rattle.fm_mono.proofs.OrderLaws.{monomial_cmp_sum}
use Rattle.fm_mono.proofs.laws.monomial_orders_respect_products.Goals as goal

pub returns : goal.returns
returns c = monomial_cmp_sum
