use Rattle.fm_poly.proofs.KeptTerms.{twist_of_kept_sum, twist_of_kept_product, power_of_kept}
use Rattle.fm_poly.proofs.laws.twists_of_kept_terms.Goals as goal

pub returns-clause-sum : goal.returns-clause-sum
returns-clause-sum c = twist_of_kept_sum

pub returns-clause-product : goal.returns-clause-product
returns-clause-product c = twist_of_kept_product

pub returns-clause-power : goal.returns-clause-power
returns-clause-power c = power_of_kept
