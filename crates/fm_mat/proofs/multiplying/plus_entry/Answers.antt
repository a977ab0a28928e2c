use Rattle.std.proofs.Common.{rules}
use Rattle.fm_mat.proofs.Steps.{passes_at, fits_at, entry_at}
use Rattle.fm_mat.proofs.multiplying.plus_entry.Goals as goal

pub returns-in_err-product-clause-exponent : goal.returns-in_err-product-clause-exponent
returns-in_err-product-clause-exponent c = λ e. passes_at c.args.ring c.args.f.now.ring c.requires.f_over c.args.f.now.terms c.args.g.now.terms (c.in_err-product.ensures.exponent (search rules))

pub returns-clause-value : goal.returns-clause-value
returns-clause-value c =
    entry_at c.args.ring c.args.f.now.ring c.requires.f_over c.args.x.now.ring c.requires.x_over c.args.x.now.terms c.args.f.now.terms c.args.g.now.terms c.in_ok-sum.sum.terms c.in_ok-product.product.terms
    c.in_ok-product.ensures.product c.in_ok-sum.ensures.sum

pub returns-clause-fits : goal.returns-clause-fits
returns-clause-fits c = fits_at c.args.ring c.args.f.now.ring c.requires.f_over c.args.f.now.terms c.args.g.now.terms c.in_ok-product.ensures.fits
