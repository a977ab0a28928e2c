use Rattle.fm_algebra.proofs.PolynomialMatrices.{product_associative, product_unit_left, product_unit_right}
use Rattle.fm_algebra.proofs.laws.matrices.products_of_matrices_are_associative.Goals as goal

pub returns-clause-associative : goal.returns-clause-associative
returns-clause-associative c = product_associative

pub returns-clause-unit_left : goal.returns-clause-unit_left
returns-clause-unit_left c = product_unit_left

pub returns-clause-unit_right : goal.returns-clause-unit_right
returns-clause-unit_right c = product_unit_right
