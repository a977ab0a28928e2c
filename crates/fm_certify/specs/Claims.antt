-- Lines of certificates that are appended to others.
use Rattle.std.specs.Prelude.{ℕ, ◌≡◌, List, ◌++◌}
use Rattle.fm_standard.specs.Writing as writing
use Rattle.fm_writer.specs.Claims.{AreClaimsOver, claim_values}
use Rattle.fm_writer.specs.declared.claim.Claim.{Claim}

-- new are the lines of old and then these claims, over n variables where old are
pub record HasClaims (n : ℕ) (old : List Claim) (cs : List writing.Claim) (new : List Claim) : Type 0 where
  pub claims : claim_values new ≡ claim_values old ++ cs
  pub over : AreClaimsOver n old → AreClaimsOver n new
