use Rattle.fm_algebra.proofs.PolynomialMatrices.{joined}
use Rattle.fm_algebra.proofs.laws.matrices.products_of_joined_matrices.Goals as goal

pub returns : goal.returns
returns c = joined
