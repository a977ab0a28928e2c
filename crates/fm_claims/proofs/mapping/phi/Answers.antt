use Rattle.std.proofs.Common.{◌≡◌, refl, sym, ap, ◌∙◌, subst}
use Rattle.fm_report.specs.Sheets.{numbered}
use Rattle.fm_judge.specs.Places as places
use Rattle.fm_pres.specs.Tables.{parts_in, part_at}
use Rattle.fm_pres.specs.Blocks.{block_of, parts_at}
use Rattle.fm_conditions.specs.Meanings.{logs_of}
use Rattle.fm_lines.specs.declared.row.Row.{Row}
use Rattle.fm_places.specs.Meanings.{goal_of}
use Rattle.fm_claims.proofs.FurtherFollowed.{same_claim_ok}
use Rattle.fm_claims.proofs.FurtherPlaced as placed
use Rattle.fm_claims.proofs.FurtherRows as others
use Rattle.fm_claims.specs.declared.claimed.Claimed.TheVariants.{Reference}
use Rattle.fm_claims.specs.Following.{Follows}
use Rattle.fm_claims.proofs.mapping.phi.Goals as goal

pub returns-in_default : goal.returns-in_default
returns-in_default c = λ q ls a.
    let ps = parts_in c.args.table.now in let g = c.args.goal.now in let b = c.args.block.now in let r = q.ring in let G = goal_of q ps g in let B = block_of ps b in let L = logs_of ps ls in
    record { claim = others.not_phi r G B ps L c.args.t (parts_at ps c.args.identity.now) c.args.row.now c.in_default.not-Phi; sound = tt }

pub returns-in_default-part : goal.returns-in_default-part
returns-in_default-part c = λ q ls a.
    let ps = parts_in c.args.table.now in let g = c.args.goal.now in let b = c.args.block.now in let r = q.ring in let G = goal_of q ps g in let B = block_of ps b in let L = logs_of ps ls in
    subst (λ x. Follows r ps ls g.aim x Reference) (sym (ap (λ (x : Row). placed.At r G B ps L (places.phi c.args.t (parts_at ps c.args.identity.now)) x) c.in-Phi.is ∙ placed.no_phi r G B ps L c.args.t (parts_at ps c.args.identity.now) c.in-Phi.k c.in_default-part.ensures.part)) (record { claim = refl; sound = tt })

pub returns : goal.returns
returns c = λ q ls a.
    let ps = parts_in c.args.table.now in let g = c.args.goal.now in let b = c.args.block.now in let r = q.ring in let G = goal_of q ps g in let B = block_of ps b in let L = logs_of ps ls in
    let P = part_at ps c.in-Some.k in
    let e : numbered B.cocycles 1 ≡ numbered B.cocycles 1 = refl in
    same_claim_ok r ps ls g.aim c.claim_if.result _ (placed.phi_says r G B ps L (parts_at ps c.args.identity.now) P) (placed.phi_says r G B ps L (parts_at ps c.args.identity.now) P) (places.after_phi G.aim c.args.t P) c.after_phi.result
    (ap (λ (x : Row). placed.At r G B ps L (places.phi c.args.t (parts_at ps c.args.identity.now)) x) c.in-Phi.is ∙ placed.on_phi r G B ps L c.args.t (parts_at ps c.args.identity.now) c.in-Phi.k P c.in-Some.ensures.part)
    (refl) (c.after_phi.ensures.place q ps)
    (c.claim_if.ensures r ps ls g.aim (placed.phi_says r G B ps L (parts_at ps c.args.identity.now) P) (c.in_ok-condition.ensures q ps ls a c.requires.block c.requires.identity c.in-Some.ensures.there) (c.after_phi.ensures.there ps c.in-Some.ensures.there))
