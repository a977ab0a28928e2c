use Rattle.std.proofs.Common.{ℕ, suc, ◌≡◌, ◌+◌, ◌∷◌, [], List, drop, length, sym, ap, ◌∙◌, subst, arith}
use Rattle.fm_writer.specs.Claims.{AreClaimsOver, claim_value, claim_values}
use Rattle.fm_writer.specs.Writers.{HasClaimed, WriterValue}
use Rattle.fm_writer.specs.declared.claim.Claim.{Claim}
use Rattle.fm_writer.proofs.Claimed.{all_dropped, claimed_then, dropped, none_claimed}
use Rattle.fm_writer.proofs.text.push_claims.Goals as goal

pub loop-claim-preserved : goal.loop-claim-preserved
loop-claim-preserved c =
    let xs = c.args.claims.now in
    let i = c.loop-claim.claim-index in
    let x = c.claim-item.result in
    let w = c.loop-claim.writer in
    let new = c.push_claim.new.writer in
    let n = length c.args.writer.now.names in
    let here : drop i xs ≡ x ∷ drop (suc i) xs = dropped xs i x c.claim-item.is c.loop-claim-test.true in
    let next : suc i ≡ i + 1 = omega arith in
    let h : HasClaimed w (claim_value x ∷ []) new = c.in_ok-push_claim.ensures in
    record {
      written = λ last rest. c.loop-claim.invariant.written last
          (subst (λ (ys : List Claim). HasClaimed w (claim_values ys) last) (sym here)
          (claimed_then w new last (claim_value x) (claim_values (drop (suc i) xs)) h (subst (λ k. HasClaimed new (claim_values (drop k xs)) last) (sym next) rest)));
      names = ap (λ (y : WriterValue). y.names) h.page ∙ c.loop-claim.invariant.names;
      over = subst (λ k. AreClaimsOver n (drop k xs)) next (subst (AreClaimsOver n) here c.loop-claim.invariant.over).1;
    }

pub returns : goal.returns
returns c =
    let w = c.loop-claim.writer in
    c.loop-claim.invariant.written w
    (subst (λ (ys : List Claim). HasClaimed w (claim_values ys) w) (sym (all_dropped c.args.claims.now c.loop-claim.claim-index c.loop-claim-test.false)) (none_claimed w))
