use Rattle.fm_algebra.proofs.PolynomialMatrices.{distribute_left, distribute_right, distribute_scalar}
use Rattle.fm_algebra.proofs.laws.matrices.products_distribute_over_sums_of_matrices.Goals as goal

pub returns-clause-left : goal.returns-clause-left
returns-clause-left c = distribute_left

pub returns-clause-right : goal.returns-clause-right
returns-clause-right c = distribute_right

pub returns-clause-scalar : goal.returns-clause-scalar
returns-clause-scalar c = distribute_scalar
