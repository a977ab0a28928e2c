use Rattle.std.proofs.Common.{◌≡◌, false, rules}
use Rattle.fm_poly.specs.Steps.{twists_fit}
use Rattle.fm_poly.proofs.BoundSteps.{twist_fits, twist_passes}
use Rattle.fm_poly.proofs.TwistSteps.{twist_canonical, twist_meaning}
use Rattle.fm_poly.proofs.twisting.twist_of.Goals as goal

pub returns-in_err-terms-clause-exponent : goal.returns-in_err-terms-clause-exponent
returns-in_err-terms-clause-exponent c = λ x. let test : twists_fit c.args.ring c.args.e c.args.f.now ≡ false = search rules in twist_passes c.args.ring c.args.e _ c.requires test

pub returns-clause-canonical : goal.returns-clause-canonical
returns-clause-canonical c = twist_canonical c.args.ring c.args.e _ _ c.in_ok-terms.ensures.terms c.requires

pub returns-clause-twist : goal.returns-clause-twist
returns-clause-twist c = twist_meaning c.args.ring c.args.e _ _ c.in_ok-terms.ensures.terms

pub returns-clause-fits : goal.returns-clause-fits
returns-clause-fits c = twist_fits c.args.ring c.args.e _ c.in_ok-terms.ensures.fits
