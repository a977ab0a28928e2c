use Rattle.fm_poly.proofs.KeptTerms.{first_term_of_product}
use Rattle.fm_poly.proofs.laws.first_terms_of_products.Goals as goal

pub returns : goal.returns
returns c = first_term_of_product
