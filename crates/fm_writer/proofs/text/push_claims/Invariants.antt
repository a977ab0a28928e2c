use Rattle.std.proofs.Common.{◌≡◌, drop, length}
use Rattle.fm_writer.specs.Claims.{AreClaimsOver, claim_values}
use Rattle.fm_writer.specs.Writers.{HasClaimed, WriterValue}
use Rattle.fm_writer.proofs.text.push_claims.Given as goal

abbrev pub invariant-loop-claim : goal.invariant-loop-claim
invariant-loop-claim l = record {
  written : (new : WriterValue) → HasClaimed l.writer (claim_values (drop l.claim-index l.claims)) new → HasClaimed l.initial.writer (claim_values l.claims) new;
  names : l.writer.names ≡ l.initial.writer.names;
  over : AreClaimsOver (length l.initial.writer.names) (drop l.claim-index l.claims);
}
