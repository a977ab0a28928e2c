use Rattle.fm_algebra.proofs.PolynomialMatrices.{twist_law_product, twist_law_sum, twist_law_transpose, twist_law_unit, twist_law_beside, twist_law_above, twist_law_none, twist_law_twice}
use Rattle.fm_algebra.proofs.laws.matrices.twists_of_matrices.Goals as goal

pub returns-clause-product : goal.returns-clause-product
returns-clause-product c = twist_law_product

pub returns-clause-sum : goal.returns-clause-sum
returns-clause-sum c = twist_law_sum

pub returns-clause-transpose : goal.returns-clause-transpose
returns-clause-transpose c = twist_law_transpose

pub returns-clause-unit : goal.returns-clause-unit
returns-clause-unit c = twist_law_unit

pub returns-clause-beside : goal.returns-clause-beside
returns-clause-beside c = twist_law_beside

pub returns-clause-above : goal.returns-clause-above
returns-clause-above c = twist_law_above

pub returns-clause-none : goal.returns-clause-none
returns-clause-none c = twist_law_none

pub returns-clause-twice : goal.returns-clause-twice
returns-clause-twice c = twist_law_twice
