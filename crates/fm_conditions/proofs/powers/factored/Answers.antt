use Rattle.std.proofs.Common.{rules}
use Rattle.fm_conditions.proofs.Formed.{factor_passes}
use Rattle.fm_conditions.proofs.powers.factored.Goals as goal

pub returns-in_err-product-clause-exponent : goal.returns-in_err-product-clause-exponent
returns-in_err-product-clause-exponent c = λ why.
    let f = c.args.f.now in
    factor_passes f.ring f c.factor_count.result c.args.k c.factor_count.ensures.within (c.in_err-product.ensures.exponent (search rules))
