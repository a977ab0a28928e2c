use Rattle.std.proofs.Common.{refl}
use Rattle.fm_algebra.specs.Polynomials.{polynomial_of}
use Rattle.fm_algebra.proofs.TermWords.{of_append, coefficient_of}
use Rattle.fm_algebra.proofs.laws.terms.a_list_of_terms_is_their_sum.Goals as goal

pub returns-clause-empty : goal.returns-clause-empty
unfolding polynomial_of
returns-clause-empty c p n = refl

pub returns-clause-first : goal.returns-clause-first
unfolding polynomial_of
returns-clause-first c p n k a ts = refl

pub returns-clause-append : goal.returns-clause-append
returns-clause-append c = of_append

pub returns-clause-coefficients : goal.returns-clause-coefficients
returns-clause-coefficients c = coefficient_of
