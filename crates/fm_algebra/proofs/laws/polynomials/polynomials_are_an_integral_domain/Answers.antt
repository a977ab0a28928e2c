use Rattle.fm_algebra.proofs.PolynomialWords.{cancel_factor}
use Rattle.fm_algebra.proofs.PolynomialWords.{one_differs, polynomials_domain}
use Rattle.fm_algebra.proofs.laws.polynomials.polynomials_are_an_integral_domain.Goals as goal

pub returns-clause-one_differs_from_zero : goal.returns-clause-one_differs_from_zero
returns-clause-one_differs_from_zero c = one_differs

pub returns-clause-no_zero_divisors : goal.returns-clause-no_zero_divisors
returns-clause-no_zero_divisors c = polynomials_domain

pub returns-clause-cancellation : goal.returns-clause-cancellation
returns-clause-cancellation c = cancel_factor
