use Rattle.fm_algebra.proofs.PolynomialWords.{coefficient_below, coefficient_other_length, same_coefficients, finitely_many, any_coefficients}
use Rattle.fm_algebra.proofs.laws.polynomials.a_polynomial_is_its_coefficients.Goals as goal

pub returns-clause-below : goal.returns-clause-below
returns-clause-below c = coefficient_below

pub returns-clause-other_length : goal.returns-clause-other_length
returns-clause-other_length c = coefficient_other_length

pub returns-clause-same : goal.returns-clause-same
returns-clause-same c = same_coefficients

pub returns-clause-finite : goal.returns-clause-finite
returns-clause-finite c = finitely_many

pub returns-clause-any : goal.returns-clause-any
returns-clause-any c = any_coefficients
