use Rattle.fm_claims.proofs.FurtherFollowed.{claim_found, claim_missing}
use Rattle.fm_places.specs.Meanings.{place_of}
use Rattle.fm_claims.proofs.answering.claim_if.Goals as goal

pub returns-in_default : goal.returns-in_default
returns-in_default c = λ r ps ls aim claimed f there. claim_missing r ps ls aim claimed c.args.condition (place_of r ps aim c.args.next) f c.in_default.is

pub returns : goal.returns
returns c = λ r ps ls aim claimed f there.
    claim_found r ps ls aim claimed c.args.condition c.in-Some.condition c.args.next c.claim_one.result f c.in-Some.is (λ t k. c.claim_one.ensures r ps ls aim t k there)
