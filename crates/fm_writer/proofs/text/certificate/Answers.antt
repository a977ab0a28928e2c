use Rattle.std.proofs.Common.{map}
use Rattle.std.specs.Prelude.{string_bytes}
use Rattle.fm_writer.specs.Claims.{claim_values}
use Rattle.fm_writer.proofs.Claimed.{certified}
use Rattle.fm_writer.proofs.text.certificate.Goals as goal

pub returns : goal.returns
returns c =
    certified (map string_bytes c.args.names.now) (claim_values c.args.claims.now) c.new-writer.result c.push_claims.new.writer c.into_text.result.items c.new-writer.ensures
    c.in_ok-push_claims.ensures c.into_text.ensures
