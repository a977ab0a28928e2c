use Rattle.std.proofs.Common.{◌≡◌, ◌-◌, length, Some, None, refl}
use Rattle.fm_judge.specs.Claims.{excluded, link_at, unit_part}
use Rattle.fm_pres.specs.Tables.{parts_in, part_at}
use Rattle.fm_pres.specs.Blocks.{block_of, parts_at}
use Rattle.fm_conditions.specs.Meanings.{logs_of, operand_part}
use Rattle.fm_claims.specs.Named.{link_part, IsLink}
use Rattle.fm_claims.proofs.FurtherFollowed.{finds_none, found_and_formed, found_as}
use Rattle.fm_claims.proofs.FurtherLifts.{link_moved}
use Rattle.fm_claims.proofs.Units.{unit_columns}
use Rattle.fm_claims.proofs.chained.falls_short.Goals as goal

pub returns-in_default : goal.returns-in_default
returns-in_default c = λ r g.
    let ps = parts_in c.args.table.now in let ls = c.args.logs.now in let L = logs_of ps ls in let B = block_of ps c.args.block.now in
    let Phi = part_at ps c.args.phi in let F = parts_at ps c.args.found.now in
    let e : link_at r g B ps L Phi F (length c.args.found.now - 1) ≡ None = link_moved r g B ps L Phi F _ (length c.args.found.now - 1) None c.saturating_sub-j.ensures (c.in_default.ensures.link r g ps L) in
    finds_none r ps ls _ (rw e refl)

pub returns : goal.returns
returns c = λ r g.
    let ps = parts_in c.args.table.now in let ls = c.args.logs.now in let L = logs_of ps ls in let B = block_of ps c.args.block.now in
    let Phi = part_at ps c.args.phi in let F = parts_at ps c.args.found.now in
    let s = c.args.shown.now in
    let last = link_part ps c.in-Some.link in
    let e : link_at r g B ps L Phi F (length c.args.found.now - 1) ≡ Some last = link_moved r g B ps L Phi F _ (length c.args.found.now - 1) (Some last) c.saturating_sub-j.ensures (c.in-Some.ensures.link r g ps L) in
    let n : IsLink ps c.in-Some.link = c.in-Some.ensures.there ps c.requires.block c.requires.phi c.requires.found in
    let i = operand_part r ps c.in_ok-image.image in
    found_as r ps ls c.outside.result _ (excluded r g B ps L 0 i (unit_part r c.height-height.result) s.log s.column s.by.items)
    (rw (e, c.height-height.ensures, c.in_ok-image.ensures.part r ps) refl)
    (found_and_formed r ps ls c.outside.result _ (c.outside.ensures.names r g B ps (unit_columns r c.height-height.result) (c.in_ok-image.ensures.there r ps n) tt)
    (c.outside.ensures.formable r ps (c.in_ok-image.ensures.formable r ps) tt))
