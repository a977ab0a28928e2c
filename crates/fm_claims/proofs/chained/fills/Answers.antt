use Rattle.std.proofs.Common.{◌≡◌, length, Some, None, refl, sym, ap, ◌∙◌}
use Rattle.fm_report.specs.Parts.{times}
use Rattle.fm_judge.specs.Claims.{link_at, unit_part}
use Rattle.fm_pres.specs.Tables.{parts_in, part_at}
use Rattle.fm_pres.specs.Blocks.{block_of, parts_at}
use Rattle.fm_conditions.specs.Meanings.{logs_of, operand_part}
use Rattle.fm_conditions.specs.declared.condition.Condition.TheVariants as kinds
use Rattle.fm_conditions.specs.declared.operand.Operand as operands
use Rattle.fm_claims.specs.Named.{link_part, IsLink}
use Rattle.fm_claims.proofs.Followed.{equal_sides}
use Rattle.fm_claims.proofs.FurtherFollowed.{finds_none, finds_this}
use Rattle.fm_claims.proofs.FurtherLifts.{link_moved}
use Rattle.fm_claims.proofs.chained.fills.Goals as goal

pub returns-in_default : goal.returns-in_default
returns-in_default c = λ r g ls.
    let ps = parts_in c.args.table.now in let L = logs_of ps ls in let B = block_of ps c.args.block.now in
    let Phi = part_at ps c.args.phi in let F = parts_at ps c.args.found.now in let count = length c.args.found.now in
    let e : link_at r g B ps L Phi F count ≡ None = link_moved r g B ps L Phi F _ count None refl (c.in_default.ensures.link r g ps L) in
    finds_none r ps ls _ (rw e refl)

pub returns-in_default-part : goal.returns-in_default-part
returns-in_default-part c = λ r g ls.
    let ps = parts_in c.args.table.now in let L = logs_of ps ls in let B = block_of ps c.args.block.now in
    let Phi = part_at ps c.args.phi in let F = parts_at ps c.args.found.now in let count = length c.args.found.now in
    let last = link_part ps c.in-Some.last in
    let e_l : link_at r g B ps L Phi F count ≡ Some last = link_moved r g B ps L Phi F _ count (Some last) refl (c.in-Some.ensures.link r g ps L) in
    let e = c.in_default-part.ensures.part in
    finds_none r ps ls _ (rw (e_l, e) refl)

pub returns : goal.returns
returns c = λ r g ls.
    let ps = parts_in c.args.table.now in let L = logs_of ps ls in let B = block_of ps c.args.block.now in
    let Phi = part_at ps c.args.phi in let F = parts_at ps c.args.found.now in let count = length c.args.found.now in
    let last = link_part ps c.in-Some.last in
    let e_l : link_at r g B ps L Phi F count ≡ Some last = link_moved r g B ps L Phi F _ count (Some last) refl (c.in-Some.ensures.link r g ps L) in
    let n_l : IsLink ps c.in-Some.last = c.in-Some.ensures.there ps c.requires.block c.requires.phi c.requires.found in
    let e_w = c.in-Some-part.ensures.part in
    let e_p : operand_part r ps c.in_ok-product.product ≡ times last (part_at ps c.in-Some-part.w) =
    c.in_ok-product.ensures.part r ps ∙ ap (λ x. times x (part_at ps c.in-Some-part.w)) (c.in_ok-image.ensures.part r ps) in
    finds_this r ps ls _ (kinds.Equal c.in_ok-product.product (operands.Unit c.height-height.result))
    (rw (e_l, e_w) (equal_sides _ _ _ _ (sym e_p) (ap (unit_part r) (sym c.height-height.ensures))))
    (c.in_ok-product.ensures.there r ps (c.in_ok-image.ensures.there r ps n_l) c.in-Some-part.ensures.there, tt)
    (c.in_ok-product.ensures.formable r ps (c.in_ok-image.ensures.formable r ps) tt, tt)
