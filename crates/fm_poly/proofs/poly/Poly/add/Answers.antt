use Rattle.std.proofs.Common.{◌≡◌}
use Rattle.fm_algebra.specs.Polynomials.{polynomial_sum}
use Rattle.fm_poly.specs.Polys.{meaning}
use Rattle.fm_poly.proofs.SeenValues.{seen_both}
use Rattle.fm_poly.proofs.poly.Poly.add.Goals as goal

pub returns-clause-sum : goal.returns-clause-sum
returns-clause-sum c =
    seen_both (λ f g. meaning f.ring c.in_ok-terms.terms.items ≡ polynomial_sum f.ring.prime f.ring.vars (meaning f.ring f.terms) (meaning f.ring g))
    c.self.view_is c.deref.ensures.value c.b.view_is c.deref-2.ensures.value c.in_ok-terms.ensures.sum
