use Rattle.fm_poly.proofs.KeptTerms.{head_of_product, coefficient_of_product}
use Rattle.fm_poly.proofs.laws.heads_of_products.Goals as goal

pub returns-clause-head : goal.returns-clause-head
returns-clause-head c = head_of_product

pub returns-clause-coefficient : goal.returns-clause-coefficient
returns-clause-coefficient c = coefficient_of_product
