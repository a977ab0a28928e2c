use Rattle.std.proofs.Common.{◌≡◌, ◌-◌, length, Some, None, refl, sym, ap, ◌∙◌}
use Rattle.fm_report.specs.Parts.{times}
use Rattle.fm_judge.specs.Claims.{link_at}
use Rattle.fm_pres.specs.Tables.{parts_in, part_at}
use Rattle.fm_pres.specs.Blocks.{block_of, parts_at}
use Rattle.fm_conditions.specs.Meanings.{logs_of, operand_part}
use Rattle.fm_conditions.specs.declared.condition.Condition.TheVariants as kinds
use Rattle.fm_claims.specs.Named.{link_part, IsLink}
use Rattle.fm_claims.proofs.Followed.{equal_sides}
use Rattle.fm_claims.proofs.FurtherFollowed.{finds_none, finds_this}
use Rattle.fm_claims.proofs.FurtherLifts.{link_moved}
use Rattle.fm_claims.proofs.chained.closed.Goals as goal

pub returns-in_default : goal.returns-in_default
returns-in_default c = λ r g ls block phi found.
    let ps = parts_in c.args.table.now in let L = logs_of ps ls in let B = block_of ps c.args.block.now in
    let Phi = part_at ps c.args.phi in let F = parts_at ps c.args.found.now in let count = length c.args.found.now in
    let e : link_at r g B ps L Phi F (count - 1) ≡ None = link_moved r g B ps L Phi F _ (count - 1) None c.saturating_sub.ensures (c.in_default.ensures.link r g ps L) in
    finds_none r ps ls _ (rw e refl)

pub returns-in_default-link_at : goal.returns-in_default-link_at
returns-in_default-link_at c = λ r g ls block phi found.
    let ps = parts_in c.args.table.now in let L = logs_of ps ls in let B = block_of ps c.args.block.now in
    let Phi = part_at ps c.args.phi in let F = parts_at ps c.args.found.now in let count = length c.args.found.now in
    let before = link_part ps c.in-Some.before in
    let e_b : link_at r g B ps L Phi F (count - 1) ≡ Some before = link_moved r g B ps L Phi F _ (count - 1) (Some before) c.saturating_sub.ensures (c.in-Some.ensures.link r g ps L) in
    let e : link_at r g B ps L Phi F count ≡ None = link_moved r g B ps L Phi F _ count None refl (c.in_default-link_at.ensures.link r g ps L) in
    finds_none r ps ls _ (rw (e_b, e) refl)

pub returns-in_default-part : goal.returns-in_default-part
returns-in_default-part c = λ r g ls block phi found.
    let ps = parts_in c.args.table.now in let L = logs_of ps ls in let B = block_of ps c.args.block.now in
    let Phi = part_at ps c.args.phi in let F = parts_at ps c.args.found.now in let count = length c.args.found.now in
    let before = link_part ps c.in-Some.before in
    let e_b : link_at r g B ps L Phi F (count - 1) ≡ Some before = link_moved r g B ps L Phi F _ (count - 1) (Some before) c.saturating_sub.ensures (c.in-Some.ensures.link r g ps L) in
    let last = link_part ps c.in-Some-link_at.last in
    let e_l : link_at r g B ps L Phi F count ≡ Some last = link_moved r g B ps L Phi F _ count (Some last) refl (c.in-Some-link_at.ensures.link r g ps L) in
    let e = c.in_default-part.ensures.part in
    finds_none r ps ls _ (rw (e_b, e_l, e) refl)

pub returns : goal.returns
returns c = λ r g ls block phi found.
    let ps = parts_in c.args.table.now in let L = logs_of ps ls in let B = block_of ps c.args.block.now in
    let Phi = part_at ps c.args.phi in let F = parts_at ps c.args.found.now in let count = length c.args.found.now in
    let before = link_part ps c.in-Some.before in
    let e_b : link_at r g B ps L Phi F (count - 1) ≡ Some before = link_moved r g B ps L Phi F _ (count - 1) (Some before) c.saturating_sub.ensures (c.in-Some.ensures.link r g ps L) in
    let last = link_part ps c.in-Some-link_at.last in
    let e_l : link_at r g B ps L Phi F count ≡ Some last = link_moved r g B ps L Phi F _ count (Some last) refl (c.in-Some-link_at.ensures.link r g ps L) in
    let n_b : IsLink ps c.in-Some.before = c.in-Some.ensures.there ps block phi found in
    let n_l : IsLink ps c.in-Some-link_at.last = c.in-Some-link_at.ensures.there ps block phi found in
    let e_w = c.in-Some-part.ensures.part in
    let e_p : operand_part r ps c.in_ok-product.product ≡ times before (part_at ps c.in-Some-part.w) =
    c.in_ok-product.ensures.part r ps ∙ ap (λ x. times x (part_at ps c.in-Some-part.w)) (c.in_ok-image.ensures.part r ps) in
    finds_this r ps ls _ (kinds.Equal c.in_ok-last.last c.in_ok-product.product)
    (rw (e_b, e_l, e_w) (equal_sides _ _ _ _ (sym (c.in_ok-last.ensures.part r ps)) (sym e_p)))
    (c.in_ok-last.ensures.there r ps n_l, c.in_ok-product.ensures.there r ps (c.in_ok-image.ensures.there r ps n_b) c.in-Some-part.ensures.there)
    (c.in_ok-last.ensures.formable r ps, c.in_ok-product.ensures.formable r ps (c.in_ok-image.ensures.formable r ps) tt)
