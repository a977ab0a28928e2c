use Rattle.std.proofs.Common.{◌≡◌}
use Rattle.fm_algebra.specs.Polynomials.{polynomial_power}
use Rattle.fm_poly.specs.Polys.{meaning}
use Rattle.fm_poly.proofs.SeenValues.{seen}
use Rattle.fm_poly.proofs.poly.Poly.power.Goals as goal

pub returns-clause-power : goal.returns-clause-power
returns-clause-power c =
    seen (λ f. meaning f.ring c.in_ok-terms.terms.items ≡ polynomial_power f.ring.prime f.ring.vars c.args.k (meaning f.ring f.terms))
    c.self.view_is c.deref.ensures.value c.in_ok-terms.ensures.power
