use Rattle.std.proofs.Common.{length}
use Rattle.fm_poly.specs.Bounds.{AreWithinBound}
use Rattle.fm_poly.specs.Polys.{pairs}
use Rattle.fm_claims.proofs.colons.within_bound.Given as goal

abbrev pub invariant-terms : goal.invariant-terms
invariant-terms l = AreWithinBound (pairs l.terms) → AreWithinBound (pairs l.f.terms)

abbrev pub decreases-terms : goal.decreases-terms
decreases-terms l = length l.terms
