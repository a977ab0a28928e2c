use Rattle.fm_algebra.proofs.Concrete.{polynomials_frobenius, twist_none, twists_compose}
use Rattle.fm_algebra.proofs.TwistWords.{twist_of_zero, twist_of_one, twist_of_sum, twist_of_product, twist_of_negative, twist_of_multiple, twist_of_power}
use Rattle.fm_algebra.proofs.laws.twists.twists_are_ring_homomorphisms.Goals as goal

pub returns-clause-frobenius : goal.returns-clause-frobenius
returns-clause-frobenius c = polynomials_frobenius

pub returns-clause-zero : goal.returns-clause-zero
returns-clause-zero c = twist_of_zero

pub returns-clause-one : goal.returns-clause-one
returns-clause-one c = twist_of_one

pub returns-clause-sum : goal.returns-clause-sum
returns-clause-sum c = twist_of_sum

pub returns-clause-product : goal.returns-clause-product
returns-clause-product c = twist_of_product

pub returns-clause-negative : goal.returns-clause-negative
returns-clause-negative c = twist_of_negative

pub returns-clause-multiple : goal.returns-clause-multiple
returns-clause-multiple c = twist_of_multiple

pub returns-clause-power : goal.returns-clause-power
returns-clause-power c = twist_of_power

pub returns-clause-none : goal.returns-clause-none
returns-clause-none c = twist_none

pub returns-clause-compose : goal.returns-clause-compose
returns-clause-compose c = twists_compose
