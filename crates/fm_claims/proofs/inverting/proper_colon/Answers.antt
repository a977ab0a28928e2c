use Rattle.std.proofs.Common.{◌≡◌, ℕ, ◌-◌, length, Option, option_map, refl, sym, ap, ◌∙◌}
use Rattle.fm_report.specs.Parts.{Part}
use Rattle.fm_judge.specs.Places as places
use Rattle.fm_pres.specs.Tables.{parts_in, part_at}
use Rattle.fm_pres.specs.Blocks.{block_of, parts_at}
use Rattle.fm_conditions.specs.Meanings.{logs_of}
use Rattle.fm_lines.specs.declared.row.Row.{Row}
use Rattle.fm_places.specs.declared.place.Place.TheVariants as program
use Rattle.fm_places.specs.Meanings.{goal_of}
use Rattle.fm_claims.specs.Named.{not_everything}
use Rattle.fm_claims.proofs.FurtherFollowed.{parts_count, same_claim_ok}
use Rattle.fm_claims.proofs.FurtherPlaced as placed
use Rattle.fm_claims.proofs.FurtherRows as others
use Rattle.fm_claims.proofs.inverting.proper_colon.Goals as goal

pub returns-in_default : goal.returns-in_default
returns-in_default c = λ q g.
    let ps = parts_in c.args.table.now in let ls = c.args.logs.now in let b = c.args.block.now in let r = q.ring in let G = goal_of q ps g in let B = block_of ps b in let L = logs_of ps ls in let cs = parts_at ps c.args.found.now in
    record { claim = others.not_proper_colon r G B ps L c.args.t cs c.args.row.now c.in_default.not-Proper; sound = tt }

pub returns : goal.returns
returns c = λ q g.
    let ps = parts_in c.args.table.now in let ls = c.args.logs.now in let b = c.args.block.now in let r = q.ring in let G = goal_of q ps g in let B = block_of ps b in let L = logs_of ps ls in let cs = parts_at ps c.args.found.now in
    let x = c.in-Proper.shown in
    let size : length cs ≡ length c.args.found.now = parts_count ps c.args.found.now in
    let back : length cs - 1 ≡ c.saturating_sub.result = ap (λ (n : ℕ). n - 1) size ∙ sym c.saturating_sub.ensures in
    let said = not_everything r G B ps L (option_map (part_at ps) c.colon_at-before.result) x.log x.column x.by.items in
    same_claim_ok r ps ls g.aim c.claim_if.result _ (not_everything r G B ps L (placed.colon_of r G B ps L c.args.t cs (length cs - 1)) x.log x.column x.by.items) said places.end program.End
    (ap (λ (y : Row). placed.At r G B ps L (places.proper_colon c.args.t cs) y) c.in-Proper.is ∙ placed.on_proper_colon r G B ps L c.args.t cs x)
    (ap (λ (o : Option Part). not_everything r G B ps L o x.log x.column x.by.items) (ap (λ (n : ℕ). placed.colon_of r G B ps L c.args.t cs n) back ∙ c.colon_at-before.ensures.part r G ps L)) refl
    (c.claim_if.ensures r ps ls g.aim said (c.in_ok-condition.ensures r G B) tt)
