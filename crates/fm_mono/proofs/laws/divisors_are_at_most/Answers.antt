use Rattle.fm_mono.proofs.OrderLaws.{monomial_cmp_one, monomial_cmp_divisor}
use Rattle.fm_mono.proofs.laws.divisors_are_at_most.Goals as goal

pub returns-clause-one : goal.returns-clause-one
returns-clause-one c = monomial_cmp_one

pub returns-clause-divisor : goal.returns-clause-divisor
returns-clause-divisor c = monomial_cmp_divisor
