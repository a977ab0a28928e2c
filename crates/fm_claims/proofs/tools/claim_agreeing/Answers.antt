use Rattle.fm_claims.proofs.tools.claim_agreeing.Goals as goal

pub returns : goal.returns
returns c = λ r ps ls aim i f p.
    let h = c.claim_all.ensures r ps ls aim (c.in_ok-conditions.ensures.testable r ps ls i) (c.in_ok-conditions.ensures.formable r ps ls f) p in
    rw (c.in_ok-conditions.ensures.same r ps ls) at h
