use Rattle.fm_groebner.proofs.Examples.{product_criterion_fails}
use Rattle.fm_groebner.proofs.laws.examples.the_product_criterion_fails_for_vectors.Goals as goal

pub returns : goal.returns
returns c = product_criterion_fails
