use Rattle.std.proofs.Common.{◌≡◌}
use Rattle.fm_algebra.specs.Polynomials.{frobenius_twist}
use Rattle.fm_poly.specs.Polys.{meaning}
use Rattle.fm_poly.proofs.SeenValues.{seen}
use Rattle.fm_poly.proofs.poly.Poly.twist.Goals as goal

pub returns-clause-twist : goal.returns-clause-twist
returns-clause-twist c =
    seen (λ f. meaning f.ring c.in_ok-terms.terms.items ≡ frobenius_twist f.ring.prime f.ring.vars c.args.e (meaning f.ring f.terms))
    c.self.view_is c.deref.ensures.value c.in_ok-terms.ensures.twist
