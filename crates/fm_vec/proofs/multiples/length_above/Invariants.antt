use Rattle.std.proofs.Common.{◌≡◌, ◌+◌, length}
use Rattle.fm_vec.specs.Steps.{count_above}
use Rattle.fm_term.specs.Falling.{AreTerms}
use Rattle.fm_vec.proofs.multiples.length_above.Given as goal

abbrev pub invariant-terms : goal.invariant-terms
invariant-terms l = record {
  terms : AreTerms l.ring.prime l.ring.vars l.f;
  count : l.count + count_above l.ring.order l.t l.f ≡ count_above l.ring.order l.t l.initial.f;
  within : l.count + length l.f ≡ length l.initial.f;
}

abbrev pub decreases-terms : goal.decreases-terms
decreases-terms l = length l.f
