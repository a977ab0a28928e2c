use Rattle.std.proofs.Common.{◌≡◌, true, take}
use Rattle.fm_poly.specs.Steps.{twist_terms, twists_fit}
use Rattle.fm_poly.proofs.twisting.twisted.Given as goal

abbrev pub invariant-loop-t : goal.invariant-loop-t
invariant-loop-t l = record {
  written : l.out.items ≡ twist_terms l.ring l.e (take l.t-index l.f);
  fits : twists_fit l.ring l.e (take l.t-index l.f) ≡ true;
}
