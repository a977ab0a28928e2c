use Rattle.fm_mono.proofs.OrderLaws.{monomial_cmp_multiple}
use Rattle.fm_mono.proofs.laws.monomial_orders_respect_powers.Goals as goal

pub returns : goal.returns
returns c = λ o q a b positive. monomial_cmp_multiple o q a b positive
