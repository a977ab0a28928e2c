use Rattle.std.proofs.Common.{◌≡◌, length}
use Rattle.fm_vec.specs.Multiples.{multiple_fits}
use Rattle.fm_term.specs.Falling.{AreTerms}
use Rattle.fm_vec.proofs.multiples.fits.Given as goal

abbrev pub invariant-terms : goal.invariant-terms
invariant-terms l = record {
  terms : AreTerms l.fn.ring.prime l.fn.ring.vars l.g;
  fit : multiple_fits l.m l.g ≡ multiple_fits l.m l.initial.g;
}

abbrev pub decreases-terms : goal.decreases-terms
decreases-terms l = length l.g
