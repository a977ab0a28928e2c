use Rattle.std.proofs.Common.{ap, Err, ◌∙◌, arith}
use Rattle.fm_poly.specs.Polys.{meaning}
use Rattle.fm_support.proofs.PowerRuns.{next_spends, times_goes, times_stops}
use Rattle.fm_support.proofs.powers.times.Goals as goal

pub returns-in-Ok-clause-follows : goal.returns-in-Ok-clause-follows
returns-in-Ok-clause-follows c = λ r units k same is.
    times_goes c.args.g.now.ring r (c.requires.ring ∙ same) c.args.g.now.terms c.args.f.now.terms k is c.in-Ok.product.terms units c.in-Ok.ensures.product c.in-Ok.ensures.fits

pub returns-in-Err-Exponent-clause-follows : goal.returns-in-Err-Exponent-clause-follows
returns-in-Err-Exponent-clause-follows c = λ r units k same is.
    times_stops c.args.g.now.ring r (c.requires.ring ∙ same) c.args.g.now.terms c.args.f.now.terms k is units (c.in-Err-Exponent.ensures.exponent (ap Err c.in-Err-Exponent.field-0-is))

pub returns-in-Err-Memory-clause-follows : goal.returns-in-Err-Memory-clause-follows
returns-in-Err-Memory-clause-follows c = λ r units k same is. (omega arith, next_spends r k (meaning r c.args.f.now.terms) (meaning r c.args.g.now.terms) units)
