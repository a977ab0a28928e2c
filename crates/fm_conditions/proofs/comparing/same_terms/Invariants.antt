use Rattle.std.proofs.Common.{◌≡◌, length}
use lib.Pointwise.{pointwise}
use Rattle.fm_parts.specs.Values.{same_term}
use Rattle.fm_conditions.proofs.comparing.same_terms.Given as goal

abbrev pub invariant-terms : goal.invariant-terms
invariant-terms l = pointwise same_term l.ts-2 l.us-2 ≡ pointwise same_term l.ts l.us

abbrev pub decreases-terms : goal.decreases-terms
decreases-terms l = length l.ts
