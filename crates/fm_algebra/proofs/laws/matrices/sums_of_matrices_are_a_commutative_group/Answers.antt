use Rattle.fm_algebra.proofs.PolynomialMatrices.{sum_commutative, sum_associative, sum_neutral, sum_inverse}
use Rattle.fm_algebra.proofs.laws.matrices.sums_of_matrices_are_a_commutative_group.Goals as goal

pub returns-clause-commutative : goal.returns-clause-commutative
returns-clause-commutative c = sum_commutative

pub returns-clause-associative : goal.returns-clause-associative
returns-clause-associative c = sum_associative

pub returns-clause-neutral : goal.returns-clause-neutral
returns-clause-neutral c = sum_neutral

pub returns-clause-inverse : goal.returns-clause-inverse
returns-clause-inverse c = sum_inverse
