use Rattle.std.proofs.Common.{◌≡◌, true, [], ◌∷◌, length, Some, None, refl, sym, ap, ◌∙◌}
use Rattle.fm_report.specs.Parts.{twist}
use Rattle.fm_report.specs.Sheets.{numbered}
use Rattle.fm_parts.specs.Conditions.{preimage}
use Rattle.fm_parts.specs.Replays.{is_number}
use Rattle.fm_judge.specs.Claims.{link_at}
use Rattle.fm_pres.specs.Tables.{parts_in, part_at}
use Rattle.fm_pres.specs.Blocks.{block_of, parts_at}
use Rattle.fm_conditions.specs.Meanings.{logs_of, log_at, operand_part}
use Rattle.fm_conditions.specs.declared.condition.Condition.TheVariants as kinds
use Rattle.fm_conditions.specs.declared.operand.Operand as operands
use Rattle.fm_claims.specs.Named.{link_part, IsLink}
use Rattle.fm_claims.proofs.Followed.{numbered_in, numbers_in}
use Rattle.fm_claims.proofs.FurtherFollowed.{finds_none, finds_this, parts_count}
use Rattle.fm_claims.proofs.FurtherLifts.{link_moved}
use Rattle.fm_claims.proofs.chained.links.Goals as goal

pub returns-in_default : goal.returns-in_default
returns-in_default c = λ r g block phi found k.
    let ps = parts_in c.args.table.now in let ls = c.args.logs.now in let L = logs_of ps ls in let B = block_of ps c.args.block.now in
    let Phi = part_at ps c.args.phi in let F = parts_at ps c.args.found.now in
    let e : numbered B.morphism 1 ≡ None = numbered_in ps _ _ 1 None c.deref.ensures.value (c.in_default.ensures.part ps) in
    finds_none r ps ls _ (rw e refl)

pub returns-in_default-link_at : goal.returns-in_default-link_at
returns-in_default-link_at c = λ r g block phi found k.
    let ps = parts_in c.args.table.now in let ls = c.args.logs.now in let L = logs_of ps ls in let B = block_of ps c.args.block.now in
    let Phi = part_at ps c.args.phi in let F = parts_at ps c.args.found.now in
    let e_u : numbered B.morphism 1 ≡ Some (part_at ps c.in-Some.u) = numbered_in ps _ _ 1 (Some (part_at ps c.in-Some.u)) c.deref.ensures.value (c.in-Some.ensures.part ps) in
    let e : link_at r g B ps L Phi F (length F) ≡ None = link_moved r g B ps L Phi F _ (length F) None (sym (parts_count ps c.args.found.now)) (c.in_default-link_at.ensures.link r g ps L) in
    finds_none r ps ls _ (rw (e_u, e) refl)

pub returns-in_default-generating : goal.returns-in_default-generating
returns-in_default-generating c = λ r g block phi found k.
    let ps = parts_in c.args.table.now in let ls = c.args.logs.now in let L = logs_of ps ls in let B = block_of ps c.args.block.now in
    let Phi = part_at ps c.args.phi in let F = parts_at ps c.args.found.now in
    let s = c.args.shown.now in
    let e_u : numbered B.morphism 1 ≡ Some (part_at ps c.in-Some.u) = numbered_in ps _ _ 1 (Some (part_at ps c.in-Some.u)) c.deref.ensures.value (c.in-Some.ensures.part ps) in
    let last = link_part ps c.in-Some-link_at.last in
    let e_l : link_at r g B ps L Phi F (length F) ≡ Some last = link_moved r g B ps L Phi F _ (length F) (Some last) (sym (parts_count ps c.args.found.now)) (c.in-Some-link_at.ensures.link r g ps L) in
    let e = c.in_default-generating.ensures.generated r g B (λ log X W. preimage log (part_at ps c.in-Some.u) (twist last 1) (part_at ps c.args.k) X W) [] in
    finds_none r ps ls _ (rw (e_u, e_l) e)

pub returns : goal.returns
returns c = λ r g block phi found k.
    let ps = parts_in c.args.table.now in let ls = c.args.logs.now in let L = logs_of ps ls in let B = block_of ps c.args.block.now in
    let Phi = part_at ps c.args.phi in let F = parts_at ps c.args.found.now in
    let s = c.in-Some-generating.shown in
    let e_u : numbered B.morphism 1 ≡ Some (part_at ps c.in-Some.u) = numbered_in ps _ _ 1 (Some (part_at ps c.in-Some.u)) c.deref.ensures.value (c.in-Some.ensures.part ps) in
    let n_u : is_number ps c.in-Some.u ≡ true = c.in-Some.ensures.there ps (numbers_in ps _ _ c.deref.ensures.value block.4) in
    let last = link_part ps c.in-Some-link_at.last in
    let e_l : link_at r g B ps L Phi F (length F) ≡ Some last = link_moved r g B ps L Phi F _ (length F) (Some last) (sym (parts_count ps c.args.found.now)) (c.in-Some-link_at.ensures.link r g ps L) in
    let n_l : IsLink ps c.in-Some-link_at.last = c.in-Some-link_at.ensures.there ps block phi found in
    let e = c.in-Some-generating.ensures.generated r g B (λ log X W. preimage log (part_at ps c.in-Some.u) (twist last 1) (part_at ps c.args.k) X W) [] in
    let t = c.in-Some-generating.ensures.there in
    let e_b : operand_part r ps c.in_ok-b.b ≡ twist last 1 = c.in_ok-b.ensures.part r ps ∙ ap (λ x. twist x 1) (c.in_ok-image.ensures.part r ps) in
    finds_this r ps ls _ (kinds.Preimage s.log (operands.Part c.in-Some.u) c.in_ok-b.b c.args.k s.x s.w)
    (rw (e_u, e_l) (e ∙ ap (λ x. Some (preimage (log_at L s.log) (part_at ps c.in-Some.u) x (part_at ps c.args.k) (part_at ps s.x) (part_at ps s.w) ∷ [])) (sym e_b)))
    (t.0, n_u, c.in_ok-b.ensures.there r ps (c.in_ok-image.ensures.there r ps n_l), k, t.1, t.2)
    (tt, c.in_ok-b.ensures.formable r ps (c.in_ok-image.ensures.formable r ps))
