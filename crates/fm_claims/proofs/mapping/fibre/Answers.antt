use Rattle.std.proofs.Common.{◌≡◌, suc, true, Option, option_map, refl, sym, ap, ◌∙◌, subst}
use Rattle.std.specs.Prelude.{IfSome}
use Rattle.fm_report.specs.Parts.{Part}
use Rattle.fm_report.specs.Sheets.{numbered}
use Rattle.fm_parts.specs.Replays.{is_number}
use Rattle.fm_judge.specs.Places as places
use Rattle.fm_pres.specs.Tables.{parts_in, part_at}
use Rattle.fm_pres.specs.Blocks.{block_of}
use Rattle.fm_conditions.specs.Meanings.{logs_of}
use Rattle.fm_lines.specs.declared.row.Row.{Row}
use Rattle.fm_places.specs.Meanings.{goal_of}
use Rattle.fm_claims.specs.Named.{sent_into_by}
use Rattle.fm_claims.proofs.Followed.{numbered_in, numbers_in}
use Rattle.fm_claims.proofs.FurtherFollowed.{same_claim_ok}
use Rattle.fm_claims.proofs.FurtherPlaced as placed
use Rattle.fm_claims.proofs.FurtherRows as others
use Rattle.fm_claims.specs.declared.claimed.Claimed.TheVariants.{Reference}
use Rattle.fm_claims.specs.Following.{Follows}
use Rattle.fm_claims.proofs.mapping.fibre.Goals as goal

pub returns-in_default : goal.returns-in_default
returns-in_default c = λ q.
    let ls = c.args.logs.now in let ps = parts_in c.args.table.now in let g = c.args.goal.now in let b = c.args.block.now in let r = q.ring in let G = goal_of q ps g in let B = block_of ps b in let L = logs_of ps ls in
    record { claim = others.not_fibre r G B ps L c.args.t (part_at ps c.args.phi) c.args.row.now c.in_default.not-Fibre; sound = tt }

pub returns-in_default-part : goal.returns-in_default-part
returns-in_default-part c = λ q.
    let ls = c.args.logs.now in let ps = parts_in c.args.table.now in let g = c.args.goal.now in let b = c.args.block.now in let r = q.ring in let G = goal_of q ps g in let B = block_of ps b in let L = logs_of ps ls in
    subst (λ x. Follows r ps ls g.aim x Reference) (sym (ap (λ (x : Row). placed.At r G B ps L (places.fibre c.args.t (part_at ps c.args.phi)) x) c.in-Fibre.is ∙ placed.no_fibre r G B ps L c.args.t (part_at ps c.args.phi) c.in-Fibre.k c.in-Fibre.shown c.in_default-part.ensures.part)) (record { claim = refl; sound = tt })

pub returns : goal.returns
returns c = λ q.
    let ls = c.args.logs.now in let ps = parts_in c.args.table.now in let g = c.args.goal.now in let b = c.args.block.now in let r = q.ring in let G = goal_of q ps g in let B = block_of ps b in let L = logs_of ps ls in
    let e : numbered B.kernels (suc c.args.t) ≡ option_map (part_at ps) c.nth.result = numbered_in ps _ _ (suc c.args.t) (option_map (part_at ps) c.nth.result) c.deref.ensures.value (c.nth.ensures.part ps) in
    let h : IfSome c.nth.result (λ k. is_number ps k ≡ true) = c.nth.ensures.there ps (numbers_in ps _ _ c.deref.ensures.value c.requires.block.3) in
    same_claim_ok r ps ls g.aim c.claim_if.result _ (placed.fibre_says r G B ps L c.args.t (part_at ps c.args.phi) (part_at ps c.in-Some.c) c.in-Fibre.shown) (sent_into_by r G B ps L (part_at ps c.args.phi) (option_map (part_at ps) c.nth.result) (part_at ps c.in-Some.c) c.in-Fibre.shown.log c.in-Fibre.shown.x c.in-Fibre.shown.w) (places.after_fibre G.aim c.args.t (part_at ps c.args.phi) (part_at ps c.in-Some.c)) c.after_fibre.result
    (ap (λ (x : Row). placed.At r G B ps L (places.fibre c.args.t (part_at ps c.args.phi)) x) c.in-Fibre.is ∙ placed.on_fibre r G B ps L c.args.t (part_at ps c.args.phi) c.in-Fibre.k c.in-Fibre.shown (part_at ps c.in-Some.c) c.in-Some.ensures.part)
    (ap (λ (K : Option Part). sent_into_by r G B ps L (part_at ps c.args.phi) K (part_at ps c.in-Some.c) c.in-Fibre.shown.log c.in-Fibre.shown.x c.in-Fibre.shown.w) e) (c.after_fibre.ensures.place q ps)
    (c.claim_if.ensures r ps ls g.aim (sent_into_by r G B ps L (part_at ps c.args.phi) (option_map (part_at ps) c.nth.result) (part_at ps c.in-Some.c) c.in-Fibre.shown.log c.in-Fibre.shown.x c.in-Fibre.shown.w) (c.sent_into-condition.ensures r G B c.requires.phi h c.in-Some.ensures.there) (c.after_fibre.ensures.there ps c.requires.phi c.in-Some.ensures.there))
