use Rattle.fm_algebra.proofs.PolynomialWords.{coefficient_difference}
use Rattle.fm_algebra.proofs.PolynomialWords.{coefficient_zero, coefficient_one, coefficient_one_elsewhere, coefficient_sum, coefficient_negative, coefficient_multiple, coefficient_product, coefficient_term, coefficient_term_elsewhere, term_other_length}
use Rattle.fm_algebra.proofs.laws.polynomials.operations_go_by_coefficients.Goals as goal

pub returns-clause-zero : goal.returns-clause-zero
returns-clause-zero c = coefficient_zero

pub returns-clause-one : goal.returns-clause-one
returns-clause-one c = coefficient_one

pub returns-clause-one_elsewhere : goal.returns-clause-one_elsewhere
returns-clause-one_elsewhere c = coefficient_one_elsewhere

pub returns-clause-sum : goal.returns-clause-sum
returns-clause-sum c = coefficient_sum

pub returns-clause-negative : goal.returns-clause-negative
returns-clause-negative c = coefficient_negative

pub returns-clause-multiple : goal.returns-clause-multiple
returns-clause-multiple c = coefficient_multiple

pub returns-clause-product : goal.returns-clause-product
returns-clause-product c = coefficient_product

pub returns-clause-term : goal.returns-clause-term
returns-clause-term c = coefficient_term

pub returns-clause-term_elsewhere : goal.returns-clause-term_elsewhere
returns-clause-term_elsewhere c = coefficient_term_elsewhere

pub returns-clause-term_other_length : goal.returns-clause-term_other_length
returns-clause-term_other_length c = term_other_length

pub returns-clause-difference : goal.returns-clause-difference
returns-clause-difference c = coefficient_difference
