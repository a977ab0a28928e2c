use Rattle.fm_algebra.proofs.PolynomialWords.{one_is_a_term, multiple_is_a_product}
use Rattle.std.proofs.Common.{refl}
use Rattle.fm_algebra.specs.Polynomials.{polynomial_negative, polynomial_one, polynomial_power, polynomial_product, polynomial_sum, polynomial_zero}
use Rattle.fm_algebra.specs.Power.{power}
use Rattle.fm_algebra.proofs.Concrete.{polynomials_laws}
use Rattle.fm_algebra.proofs.PolynomialWords.{multiple_of_product}
use Rattle.fm_algebra.proofs.laws.polynomials.polynomials_are_a_commutative_ring.Goals as goal

pub returns-clause-ring : goal.returns-clause-ring
returns-clause-ring c = polynomials_laws

pub returns-clause-sum_associative : goal.returns-clause-sum_associative
unfolding polynomial_sum
returns-clause-sum_associative c p n = (polynomials_laws p n).add_assoc

pub returns-clause-sum_commutative : goal.returns-clause-sum_commutative
unfolding polynomial_sum
returns-clause-sum_commutative c p n = (polynomials_laws p n).add_comm

pub returns-clause-zero_neutral : goal.returns-clause-zero_neutral
unfolding polynomial_sum polynomial_zero
returns-clause-zero_neutral c p n = (polynomials_laws p n).zero_add

pub returns-clause-negative_cancels : goal.returns-clause-negative_cancels
unfolding polynomial_sum polynomial_negative polynomial_zero
returns-clause-negative_cancels c p n = (polynomials_laws p n).neg_add

pub returns-clause-product_associative : goal.returns-clause-product_associative
unfolding polynomial_product
returns-clause-product_associative c p n = (polynomials_laws p n).mul_assoc

pub returns-clause-product_commutative : goal.returns-clause-product_commutative
unfolding polynomial_product
returns-clause-product_commutative c p n = (polynomials_laws p n).mul_comm

pub returns-clause-one_neutral : goal.returns-clause-one_neutral
unfolding polynomial_product polynomial_one
returns-clause-one_neutral c p n = (polynomials_laws p n).one_mul

pub returns-clause-distributive : goal.returns-clause-distributive
unfolding polynomial_product polynomial_sum
returns-clause-distributive c p n = (polynomials_laws p n).mul_add

pub returns-clause-multiple_of_product : goal.returns-clause-multiple_of_product
returns-clause-multiple_of_product c = multiple_of_product

pub returns-clause-power_zero : goal.returns-clause-power_zero
unfolding polynomial_power power polynomial_one
returns-clause-power_zero c p n f = refl

pub returns-clause-power_next : goal.returns-clause-power_next
unfolding polynomial_power power polynomial_product
returns-clause-power_next c p n k f = refl

pub returns-clause-one_is_a_term : goal.returns-clause-one_is_a_term
returns-clause-one_is_a_term c = one_is_a_term

pub returns-clause-multiple_is_a_product : goal.returns-clause-multiple_is_a_product
returns-clause-multiple_is_a_product c = multiple_is_a_product
