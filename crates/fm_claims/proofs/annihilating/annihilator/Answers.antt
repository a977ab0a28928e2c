use Rattle.std.proofs.Common.{◌≡◌, suc, Option, option_map, refl, ap, ◌∙◌}
use Rattle.fm_report.specs.Parts.{Part}
use Rattle.fm_report.specs.Sheets.{numbered}
use Rattle.fm_judge.specs.Places as places
use Rattle.fm_pres.specs.Tables.{parts_in, part_at}
use Rattle.fm_pres.specs.Blocks.{block_of}
use Rattle.fm_conditions.specs.Meanings.{logs_of}
use Rattle.fm_lines.specs.declared.row.Row.{Row}
use Rattle.fm_places.specs.declared.place.Place.TheVariants as program
use Rattle.fm_places.specs.Meanings.{goal_of, support_of}
use Rattle.fm_claims.specs.Named.{annihilated_by}
use Rattle.fm_claims.proofs.Followed.{numbered_in, numbers_in}
use Rattle.fm_claims.proofs.FurtherAims.{support_over}
use Rattle.fm_claims.proofs.FurtherFollowed.{same_claim}
use Rattle.fm_claims.proofs.FurtherPlaced as placed
use Rattle.fm_claims.proofs.FurtherRows as others
use Rattle.fm_claims.proofs.annihilating.annihilator.Goals as goal

pub returns-in_default : goal.returns-in_default
returns-in_default c = λ q a.
    let ls = c.args.logs.now in let ps = parts_in c.args.table.now in let g = c.args.goal.now in let b = c.args.block.now in let r = q.ring in let G = goal_of q ps g in let B = block_of ps b in let L = logs_of ps ls in let I = support_of g.aim in
    record { claim = others.not_annihilator r G B ps L I c.args.t c.args.row.now c.in_default.not-Annihilator; sound = tt }

pub annihilates-requires-clause-kernel : goal.annihilates-requires-clause-kernel
annihilates-requires-clause-kernel c = c.nth.ensures.there (parts_in c.args.table.now) (numbers_in (parts_in c.args.table.now) _ _ c.deref.ensures.value c.requires.block.3)

pub returns : goal.returns
returns c = λ q a.
    let ls = c.args.logs.now in let ps = parts_in c.args.table.now in let g = c.args.goal.now in let b = c.args.block.now in let r = q.ring in let G = goal_of q ps g in let B = block_of ps b in let L = logs_of ps ls in let I = support_of g.aim in
    let e : numbered B.kernels (suc c.args.t) ≡ option_map (part_at ps) c.nth.result = numbered_in ps _ _ (suc c.args.t) (option_map (part_at ps) c.nth.result) c.deref.ensures.value (c.nth.ensures.part ps) in
    let x = c.in-Annihilator.shown in
    let k = c.in-Annihilator.k in
    let said = annihilated_by r G B ps L I (option_map (part_at ps) c.nth.result) (numbered ps k) x.log x.x x.w in
    same_claim r ps ls g.aim c.claim_all_if.result _ (annihilated_by r G B ps L I (placed.kernel_of r G B ps L c.args.t) (numbered ps k) x.log x.x x.w) said places.end program.End
    (ap (λ (y : Row). placed.At r G B ps L (places.annihilator I c.args.t) y) c.in-Annihilator.is ∙ placed.on_annihilator r G B ps L I c.args.t k x)
    (ap (λ (K : Option Part). annihilated_by r G B ps L I K (numbered ps k) x.log x.x x.w) e) refl
    (c.claim_all_if.ensures r ps ls g.aim said (c.in_ok-conditions.ensures r G B (support_over q ps g.aim a)) tt)
