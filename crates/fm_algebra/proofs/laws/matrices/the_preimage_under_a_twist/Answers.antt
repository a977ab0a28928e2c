use Rattle.fm_algebra.proofs.PolynomialMatrices.{preimage_of_twist_generates, preimage_of_twist_contains, preimage_of_twist_equations}
use Rattle.fm_algebra.proofs.laws.matrices.the_preimage_under_a_twist.Goals as goal

pub returns-clause-generates : goal.returns-clause-generates
returns-clause-generates c = preimage_of_twist_generates

pub returns-clause-contains : goal.returns-clause-contains
returns-clause-contains c = preimage_of_twist_contains

pub returns-clause-equations : goal.returns-clause-equations
returns-clause-equations c = preimage_of_twist_equations
