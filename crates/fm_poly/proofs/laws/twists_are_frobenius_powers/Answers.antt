use Rattle.fm_algebra.proofs.TwistWords.{twist_of_sum, twist_of_product, power_is_twist}
use Rattle.fm_poly.proofs.laws.twists_are_frobenius_powers.Goals as goal

pub returns-clause-sum : goal.returns-clause-sum
returns-clause-sum c = twist_of_sum

pub returns-clause-product : goal.returns-clause-product
returns-clause-product c = twist_of_product

pub returns-clause-power : goal.returns-clause-power
returns-clause-power c = power_is_twist
