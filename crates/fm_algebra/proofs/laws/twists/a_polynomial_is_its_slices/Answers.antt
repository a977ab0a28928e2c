use Rattle.fm_algebra.proofs.SliceSum.{slice_of_total, slice_total}
use Rattle.fm_algebra.proofs.TwistWords.{slice_coefficient, same_slices, any_slices, slice_of_sum, slice_of_product}
use Rattle.fm_algebra.proofs.laws.twists.a_polynomial_is_its_slices.Goals as goal

pub returns-clause-coefficients : goal.returns-clause-coefficients
returns-clause-coefficients c = slice_coefficient

pub returns-clause-same : goal.returns-clause-same
returns-clause-same c = same_slices

pub returns-clause-any : goal.returns-clause-any
returns-clause-any c = any_slices

pub returns-clause-sum : goal.returns-clause-sum
returns-clause-sum c = slice_of_sum

pub returns-clause-product : goal.returns-clause-product
returns-clause-product c = slice_of_product

pub returns-clause-total : goal.returns-clause-total
returns-clause-total c = slice_total

pub returns-clause-independent : goal.returns-clause-independent
returns-clause-independent c = slice_of_total
