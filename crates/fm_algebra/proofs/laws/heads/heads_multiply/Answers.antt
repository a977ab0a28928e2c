use Rattle.fm_algebra.proofs.HeadWords.{head_of_product, leading_of_product, head_of_twist}
use Rattle.fm_algebra.proofs.laws.heads.heads_multiply.Goals as goal

pub returns-clause-product : goal.returns-clause-product
returns-clause-product c = head_of_product

pub returns-clause-leading_coefficient : goal.returns-clause-leading_coefficient
returns-clause-leading_coefficient c = leading_of_product

pub returns-clause-twist : goal.returns-clause-twist
returns-clause-twist c = head_of_twist
