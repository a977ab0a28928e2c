use Rattle.std.proofs.Common.{◌≡◌, suc, Option, option_map, refl, ap, ◌∙◌}
use Rattle.fm_report.specs.Parts.{Part}
use Rattle.fm_report.specs.Sheets.{numbered}
use Rattle.fm_judge.specs.Places as places
use Rattle.fm_pres.specs.Tables.{parts_in, part_at}
use Rattle.fm_pres.specs.Blocks.{block_of}
use Rattle.fm_conditions.specs.Meanings.{logs_of}
use Rattle.fm_lines.specs.declared.row.Row.{Row}
use Rattle.fm_places.specs.declared.place.Place.TheVariants as program
use Rattle.fm_places.specs.Meanings.{goal_of, inverted}
use Rattle.fm_claims.specs.Named.{power_outside_of}
use Rattle.fm_claims.proofs.Followed.{numbered_in, numbers_in}
use Rattle.fm_claims.proofs.FurtherAims.{inverted_over}
use Rattle.fm_claims.proofs.FurtherFollowed.{same_claim}
use Rattle.fm_claims.proofs.FurtherPlaced as placed
use Rattle.fm_claims.proofs.FurtherRows as others
use Rattle.fm_claims.proofs.inverting.least.Goals as goal

pub returns-in_default : goal.returns-in_default
returns-in_default c =
    let ls = c.args.logs.now in let q = c.args.problem.now in let ps = parts_in c.args.table.now in let g = c.args.goal.now in let b = c.args.block.now in let r = q.ring in let G = goal_of q ps g in let B = block_of ps b in let L = logs_of ps ls in let F = inverted r g.aim in
    record { claim = others.not_least r G B ps L F c.args.t c.args.k c.args.row.now c.in_default.not-Least; sound = tt }

pub power_outside-requires-clause-kernel : goal.power_outside-requires-clause-kernel
power_outside-requires-clause-kernel c = c.nth.ensures.there (parts_in c.args.table.now) (numbers_in (parts_in c.args.table.now) _ _ c.deref.ensures.value c.requires.block.3)

pub returns : goal.returns
returns c =
    let ls = c.args.logs.now in let q = c.args.problem.now in let ps = parts_in c.args.table.now in let g = c.args.goal.now in let b = c.args.block.now in let r = q.ring in let G = goal_of q ps g in let B = block_of ps b in let L = logs_of ps ls in let F = inverted r g.aim in
    let e : numbered B.kernels (suc c.args.t) ≡ option_map (part_at ps) c.nth.result = numbered_in ps _ _ (suc c.args.t) (option_map (part_at ps) c.nth.result) c.deref.ensures.value (c.nth.ensures.part ps) in
    let x = c.in-Least.shown in
    same_claim r ps ls g.aim c.claim_all_if.result _ (power_outside_of r G B ps L F c.args.k (placed.kernel_of r G B ps L c.args.t) x.log x.column x.by.items)
    (power_outside_of r G B ps L F c.args.k (option_map (part_at ps) c.nth.result) x.log x.column x.by.items) places.end program.End
    (ap (λ (y : Row). placed.At r G B ps L (places.least F c.args.t c.args.k) y) c.in-Least.is ∙ placed.on_least r G B ps L F c.args.t c.args.k x)
    (ap (λ (K : Option Part). power_outside_of r G B ps L F c.args.k K x.log x.column x.by.items) e) refl
    (c.claim_all_if.ensures r ps ls g.aim (power_outside_of r G B ps L F c.args.k (option_map (part_at ps) c.nth.result) x.log x.column x.by.items)
    (c.in_ok-conditions.ensures G B (inverted_over q ps g.aim c.requires.aim)) tt)
