use Rattle.std.proofs.Common.{◌≡◌, false, rules}
use Rattle.fm_poly.specs.Steps.{products_fit}
use Rattle.fm_poly.proofs.BoundSteps.{product_fits, product_passes, product_fits_turned, product_passes_turned}
use Rattle.fm_poly.proofs.ProductSteps.{product_turned}
use Rattle.fm_poly.proofs.multiplying.times.Goals as goal

pub returns-in_err-terms-clause-exponent : goal.returns-in_err-terms-clause-exponent
returns-in_err-terms-clause-exponent c = λ e.
    let test : products_fit c.args.f.now c.args.g.now ≡ false = search rules in product_passes c.args.ring _ _ c.requires.f_canonical c.requires.g_canonical test

pub returns-then-f-g-clause-fits : goal.returns-then-f-g-clause-fits
returns-then-f-g-clause-fits c = product_fits c.args.ring _ _ c.in_ok-terms.ensures.fits

pub returns-in_err-terms-2-clause-exponent : goal.returns-in_err-terms-2-clause-exponent
returns-in_err-terms-2-clause-exponent c = λ e.
    let test : products_fit c.args.g.now c.args.f.now ≡ false = search rules in
    product_passes_turned c.args.ring _ _ (product_passes c.args.ring _ _ c.requires.g_canonical c.requires.f_canonical test)

pub returns-clause-product : goal.returns-clause-product
returns-clause-product c = product_turned c.args.ring _ _ _ c.in_ok-terms-2.ensures.product

pub returns-clause-fits : goal.returns-clause-fits
returns-clause-fits c = product_fits_turned c.args.ring _ _ (product_fits c.args.ring _ _ c.in_ok-terms-2.ensures.fits)
