use Rattle.fm_algebra.proofs.PolynomialMatrices.{act_product, act_column}
use Rattle.fm_algebra.proofs.laws.matrices.matrices_act_on_vectors.Goals as goal

pub returns-clause-product : goal.returns-clause-product
returns-clause-product c = act_product

pub returns-clause-column : goal.returns-clause-column
returns-clause-column c = act_column
