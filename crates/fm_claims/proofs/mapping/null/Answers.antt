use Rattle.std.proofs.Common.{◌≡◌, suc, true, Option, option_map, refl, ap, ◌∙◌}
use Rattle.std.specs.Prelude.{IfSome}
use Rattle.fm_report.specs.Parts.{Part}
use Rattle.fm_report.specs.Sheets.{numbered}
use Rattle.fm_parts.specs.Replays.{is_number}
use Rattle.fm_judge.specs.Places as places
use Rattle.fm_pres.specs.Tables.{parts_in, part_at}
use Rattle.fm_pres.specs.Blocks.{block_of}
use Rattle.fm_conditions.specs.Meanings.{logs_of}
use Rattle.fm_lines.specs.declared.row.Row.{Row}
use Rattle.fm_places.specs.declared.place.Place.TheVariants as program
use Rattle.fm_places.specs.Meanings.{goal_of}
use Rattle.fm_claims.specs.Named.{covered_by}
use Rattle.fm_claims.proofs.Followed.{numbered_in, numbers_in}
use Rattle.fm_claims.proofs.FurtherFollowed.{same_claim_ok}
use Rattle.fm_claims.proofs.FurtherPlaced as placed
use Rattle.fm_claims.proofs.FurtherRows as others
use Rattle.fm_claims.proofs.mapping.null.Goals as goal

pub returns-in_default : goal.returns-in_default
returns-in_default c = λ q ls g.
    let ps = parts_in c.args.table.now in let b = c.args.block.now in let r = q.ring in let G = goal_of q ps g in let B = block_of ps b in let L = logs_of ps ls in
    record { claim = others.not_null r G B ps L c.args.t (part_at ps c.args.phi) c.args.row.now c.in_default.not-Null; sound = tt }

pub returns : goal.returns
returns c = λ q ls g.
    let ps = parts_in c.args.table.now in let b = c.args.block.now in let r = q.ring in let G = goal_of q ps g in let B = block_of ps b in let L = logs_of ps ls in
    let e : numbered B.kernels (suc c.args.t) ≡ option_map (part_at ps) c.nth.result = numbered_in ps _ _ (suc c.args.t) (option_map (part_at ps) c.nth.result) c.deref.ensures.value (c.nth.ensures.part ps) in
    let h : IfSome c.nth.result (λ k. is_number ps k ≡ true) = c.nth.ensures.there ps (numbers_in ps _ _ c.deref.ensures.value c.requires.block.3) in
    same_claim_ok r ps ls g.aim c.claim_if.result _ (covered_by (part_at ps c.args.phi) (placed.kernel_of r G B ps L c.args.t) (numbered ps c.in-Null.w)) (covered_by (part_at ps c.args.phi) (option_map (part_at ps) c.nth.result) (numbered ps c.in-Null.w)) (places.fibre c.args.t (part_at ps c.args.phi)) (program.Fibre c.args.t c.args.phi)
    (ap (λ (x : Row). placed.At r G B ps L (places.null c.args.t (part_at ps c.args.phi)) x) c.in-Null.is ∙ placed.on_null r G B ps L c.args.t (part_at ps c.args.phi) c.in-Null.w)
    (ap (λ (K : Option Part). covered_by (part_at ps c.args.phi) K (numbered ps c.in-Null.w)) e) (refl)
    (c.claim_if.ensures r ps ls g.aim (covered_by (part_at ps c.args.phi) (option_map (part_at ps) c.nth.result) (numbered ps c.in-Null.w)) (c.in_ok-condition.ensures r ls c.requires.phi h) (c.requires.phi))
