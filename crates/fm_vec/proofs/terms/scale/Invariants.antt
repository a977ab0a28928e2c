use Rattle.std.proofs.Common.{◌≡◌, ◌++◌, length}
use Rattle.fm_term.specs.Multiples.{scaled}
use Rattle.fm_term.specs.Falling.{AreTerms}
use Rattle.fm_vec.proofs.terms.scale.Given as goal

abbrev pub invariant-terms : goal.invariant-terms
invariant-terms l = record {
  terms : AreTerms l.ring.prime l.ring.vars l.terms;
  whole : l.out.items ++ scaled l.ring.prime l.c l.terms ≡ scaled l.ring.prime l.c l.initial.terms;
}

abbrev pub decreases-terms : goal.decreases-terms
decreases-terms l = length l.terms
