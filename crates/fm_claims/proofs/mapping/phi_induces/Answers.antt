use Rattle.std.proofs.Common.{◌≡◌, suc, true, Some, None, refl, sym, ap, ◌∙◌}
use Rattle.fm_report.specs.Parts.{flip, times}
use Rattle.fm_report.specs.Sheets.{numbered}
use Rattle.fm_parts.specs.Replays.{is_number}
use Rattle.fm_pres.specs.Tables.{part_at}
use Rattle.fm_pres.specs.Blocks.{block_of, parts_at}
use Rattle.fm_conditions.specs.Meanings.{logs_of, operand_part}
use Rattle.fm_conditions.specs.declared.condition.Condition.TheVariants as kinds
use Rattle.fm_places.specs.Meanings.{goal_of}
use Rattle.fm_claims.proofs.Followed.{equal_sides, numbered_in, numbered_moved, numbers_in}
use Rattle.fm_claims.proofs.FurtherFollowed.{finds_none, finds_this}
use Rattle.fm_claims.proofs.mapping.phi_induces.Goals as goal

pub returns-in_default : goal.returns-in_default
returns-in_default c = λ q ps ls a block ids there.
    let g = c.args.goal.now in let b = c.args.block.now in let r = q.ring in let G = goal_of q ps g in let B = block_of ps b in let L = logs_of ps ls in
    let e = c.in_default.ensures.part q ps in
    finds_none r ps ls _ (rw e refl)

pub returns-in_default-nth : goal.returns-in_default-nth
returns-in_default-nth c = λ q ps ls a block ids there.
    let g = c.args.goal.now in let b = c.args.block.now in let r = q.ring in let G = goal_of q ps g in let B = block_of ps b in let L = logs_of ps ls in
    let e_z = c.in-Some.ensures.part q ps in
    let e : numbered (parts_at ps c.args.identity.now) (suc g.degree) ≡ None = numbered_moved ps _ _ _ g.degree None refl c.from.ensures (c.in_default-nth.ensures.part ps) in
    finds_none r ps ls _ (rw (e_z, e) refl)

pub returns-in_default-nth-2 : goal.returns-in_default-nth-2
returns-in_default-nth-2 c = λ q ps ls a block ids there.
    let g = c.args.goal.now in let b = c.args.block.now in let r = q.ring in let G = goal_of q ps g in let B = block_of ps b in let L = logs_of ps ls in
    let e_z = c.in-Some.ensures.part q ps in
    let e_last : numbered (parts_at ps c.args.identity.now) (suc g.degree) ≡ Some (part_at ps c.in-Some-nth.last) = numbered_moved ps _ _ _ g.degree (Some (part_at ps c.in-Some-nth.last)) refl c.from.ensures (c.in-Some-nth.ensures.part ps) in
    let e : numbered B.cocycles 1 ≡ None = numbered_in ps _ _ 1 None c.deref.ensures.value (c.in_default-nth-2.ensures.part ps) in
    finds_none r ps ls _ (rw (e_z, e_last, e) refl)

pub returns : goal.returns
returns c = λ q ps ls a block ids there.
    let g = c.args.goal.now in let b = c.args.block.now in let r = q.ring in let G = goal_of q ps g in let B = block_of ps b in let L = logs_of ps ls in
    let e_z = c.in-Some.ensures.part q ps in
    let n_z : is_number ps c.in-Some.z ≡ true = c.in-Some.ensures.there q ps a in
    let e_last : numbered (parts_at ps c.args.identity.now) (suc g.degree) ≡ Some (part_at ps c.in-Some-nth.last) = numbered_moved ps _ _ _ g.degree (Some (part_at ps c.in-Some-nth.last)) refl c.from.ensures (c.in-Some-nth.ensures.part ps) in
    let n_last : is_number ps c.in-Some-nth.last ≡ true = c.in-Some-nth.ensures.there ps ids in
    let e_y : numbered B.cocycles 1 ≡ Some (part_at ps c.in-Some-nth-2.y) = numbered_in ps _ _ 1 (Some (part_at ps c.in-Some-nth-2.y)) c.deref.ensures.value (c.in-Some-nth-2.ensures.part ps) in
    let n_y : is_number ps c.in-Some-nth-2.y ≡ true = c.in-Some-nth-2.ensures.there ps (numbers_in ps _ _ c.deref.ensures.value block.2) in
    let e_left : operand_part r ps c.in_ok-left.left ≡ times (flip (part_at ps c.in-Some-nth.last)) (part_at ps c.in-Some.z) =
    c.in_ok-left.ensures.part r ps ∙ ap (λ x. times x (part_at ps c.in-Some.z)) (c.in_ok-dual.ensures.part r ps) in
    finds_this r ps ls _ (kinds.Equal c.in_ok-left.left c.in_ok-right.right) (rw (e_z, e_last, e_y) (equal_sides _ _ _ _ (sym e_left) (sym (c.in_ok-right.ensures.part r ps))))
    (c.in_ok-left.ensures.there r ps (c.in_ok-dual.ensures.there r ps n_last) n_z, c.in_ok-right.ensures.there r ps n_y there)
    (c.in_ok-left.ensures.formable r ps (c.in_ok-dual.ensures.formable r ps tt) tt, c.in_ok-right.ensures.formable r ps tt tt)
