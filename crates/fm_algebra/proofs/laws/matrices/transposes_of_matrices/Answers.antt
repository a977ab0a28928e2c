use Rattle.fm_algebra.proofs.PolynomialMatrices.{transpose_law_twice, transpose_law_sum, transpose_law_product, transpose_law_beside}
use Rattle.fm_algebra.proofs.laws.matrices.transposes_of_matrices.Goals as goal

pub returns-clause-twice : goal.returns-clause-twice
returns-clause-twice c = transpose_law_twice

pub returns-clause-sum : goal.returns-clause-sum
returns-clause-sum c = transpose_law_sum

pub returns-clause-product : goal.returns-clause-product
returns-clause-product c = transpose_law_product

pub returns-clause-beside : goal.returns-clause-beside
returns-clause-beside c = transpose_law_beside
