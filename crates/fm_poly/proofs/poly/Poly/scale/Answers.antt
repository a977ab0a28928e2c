use Rattle.std.proofs.Common.{◌≡◌}
use Rattle.fm_algebra.specs.Polynomials.{polynomial_multiple}
use Rattle.fm_poly.specs.Polys.{meaning}
use Rattle.fm_poly.proofs.SeenValues.{seen}
use Rattle.fm_poly.proofs.poly.Poly.scale.Goals as goal

pub returns-clause-multiple : goal.returns-clause-multiple
returns-clause-multiple c =
    seen (λ f. meaning f.ring c.in_ok-terms.terms.items ≡ polynomial_multiple f.ring.prime f.ring.vars c.args.c (meaning f.ring f.terms))
    c.self.view_is c.deref.ensures.value c.in_ok-terms.ensures.multiple
