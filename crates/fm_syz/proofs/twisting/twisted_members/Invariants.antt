use Rattle.std.proofs.Common.{◌≡◌, ◌+◌, ◌++◌, ◌^◌, length, map}
use Rattle.std.specs.List.{list_all}
use Rattle.fm_gfp.specs.Primes.{prime_value}
use Rattle.fm_term.specs.Multiples.{twisted}
use Rattle.fm_vec.specs.Multiples.{twist_fits}
use Rattle.fm_complete.specs.Divisions.{AreMembers, terms_of}
use Rattle.fm_syz.proofs.twisting.twisted_members.Given as goal

abbrev pub invariant-members : goal.invariant-members
invariant-members l = record {
  members : AreMembers l.fn.ring l.fn.rows l.members;
  out : AreMembers l.fn.ring l.fn.rows l.out.items;
  count : length l.out.items + length l.members ≡ length l.initial.members;
  whole : terms_of l.out.items ++ map (twisted (prime_value l.fn.ring.prime ^ l.fn.e)) (terms_of l.members) ≡ map (twisted (prime_value l.fn.ring.prime ^ l.fn.e)) (terms_of l.initial.members);
  fit : list_all (twist_fits (prime_value l.fn.ring.prime ^ l.fn.e)) (terms_of l.members) ≡ list_all (twist_fits (prime_value l.fn.ring.prime ^ l.fn.e)) (terms_of l.initial.members);
}

abbrev pub decreases-members : goal.decreases-members
decreases-members l = length l.members
