use Rattle.std.proofs.Common.{◌≡◌, ◌++◌, length}
use Rattle.fm_term.specs.Multiples.{multiple}
use Rattle.fm_vec.specs.Multiples.{multiple_fits}
use Rattle.fm_term.specs.Falling.{AreTerms}
use Rattle.fm_vec.proofs.multiples.multiplied.Given as goal

abbrev pub invariant-terms : goal.invariant-terms
invariant-terms l = record {
  terms : AreTerms l.ring.prime l.ring.vars l.g;
  whole : l.out.items ++ multiple l.ring.prime l.d l.m l.g ≡ multiple l.ring.prime l.d l.m l.initial.g;
  fit : multiple_fits l.m l.g ≡ multiple_fits l.m l.initial.g;
}

abbrev pub decreases-terms : goal.decreases-terms
decreases-terms l = length l.g
