use Rattle.std.proofs.Common.{◌≡◌, ◌-◌, length, Option, option_map, option_copied, sym, ap, ◌∙◌, subst}
use Rattle.fm_certificates.specs.Certificates.{link_log, link_part, short_claims}
use Rattle.fm_certify.specs.Claims.{HasClaims}
use Rattle.fm_certify.proofs.Appended.{claim_appended}
use Rattle.fm_certify.proofs.JoinedShort.{join_part, short_value, short_at}
use Rattle.fm_chain.specs.Chains.{outside_value}
use Rattle.fm_support.specs.Inverting.{preimages_meaning}
use Rattle.fm_syz.specs.GraphValues.{graph_meaning}
use Rattle.fm_certify.proofs.joins.push_short.Goals as goal

pub returns : goal.returns
returns c =
    let k = c.args.first.now in
    let r = k.matrix.ring in
    let links = c.args.links.now in
    let L = join_part r c.args.n.now c.args.phi.now in
    let o = c.in-Some.outside.now in
    short_at r L k links c.saturating_sub-s.result (option_map outside_value (option_copied c.args.outside)) (outside_value o) c.args.claims.now.items c.push.new.self.items
    c.saturating_sub-s.ensures (ap (λ x. option_map outside_value (option_copied x)) c.in-Some.is)
    (claim_appended r.vars _ _ _ _ c.in_ok-push.ensures.items c.before_the_last.ensures.over
    (short_value _ (link_part r L (preimages_meaning r links) c.saturating_sub-s.result) _ (link_log r (graph_meaning r k) (preimages_meaning r links) c.saturating_sub-s.result)
    c.saturating_sub-s.result o.column _ o.by.items c.before_the_last.ensures.part (c.log.ensures ∙ c.before_the_last.ensures.log) c.as_slice.ensures.value))
