use Rattle.fm_poly.proofs.LargeProducts.{product_within, product_beyond, twist_within, twist_beyond, power_within, power_beyond}
use Rattle.fm_poly.proofs.laws.the_bound_is_that_of_the_results.Goals as goal

pub returns-clause-product_fits : goal.returns-clause-product_fits
returns-clause-product_fits c = product_within

pub returns-clause-product_passes : goal.returns-clause-product_passes
returns-clause-product_passes c = product_beyond

pub returns-clause-twist_fits : goal.returns-clause-twist_fits
returns-clause-twist_fits c = twist_within

pub returns-clause-twist_passes : goal.returns-clause-twist_passes
returns-clause-twist_passes c = twist_beyond

pub returns-clause-power_fits : goal.returns-clause-power_fits
returns-clause-power_fits c = power_within

pub returns-clause-power_passes : goal.returns-clause-power_passes
returns-clause-power_passes c = power_beyond
