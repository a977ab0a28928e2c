use Rattle.std.proofs.Common.{◌≡◌, ◌++◌, ◌^◌, length}
use Rattle.fm_gfp.specs.Primes.{prime_value}
use Rattle.fm_term.specs.Multiples.{twisted}
use Rattle.fm_vec.specs.Multiples.{twist_fits}
use Rattle.fm_vec.proofs.terms.twist_terms.Given as goal

abbrev pub invariant-terms : goal.invariant-terms
invariant-terms l = record {
  whole : l.out.items ++ twisted (prime_value l.ring.prime ^ l.e) l.terms ≡ twisted (prime_value l.ring.prime ^ l.e) l.initial.terms;
  fit : twist_fits (prime_value l.ring.prime ^ l.e) l.terms ≡ twist_fits (prime_value l.ring.prime ^ l.e) l.initial.terms;
}

abbrev pub decreases-terms : goal.decreases-terms
decreases-terms l = length l.terms
