use Rattle.fm_claims.proofs.tools.claim_one.Goals as goal

pub returns : goal.returns
returns c = λ r ps ls aim i f p. c.claim_agreeing.ensures r ps ls aim i f p
