use Rattle.std.proofs.Common.{◌≡◌, suc, true, [], ◌∷◌, Some, None, refl, sym, ap, ◌∙◌}
use Rattle.fm_report.specs.Sheets.{numbered}
use Rattle.fm_parts.specs.Replays.{is_number}
use Rattle.fm_judge.specs.Places as places
use Rattle.fm_pres.specs.Tables.{part_at}
use Rattle.fm_pres.specs.Blocks.{block_of}
use Rattle.fm_conditions.specs.Meanings.{logs_of}
use Rattle.fm_lines.specs.declared.row.Row.TheVariants as rows
use Rattle.fm_places.specs.declared.place.Place.TheVariants as program
use Rattle.fm_places.specs.Meanings.{goal_of}
use Rattle.fm_claims.proofs.Followed.{numbered_in, numbers_in, unnamed, claimed}
use Rattle.fm_claims.proofs.Placed as placed
use Rattle.fm_claims.proofs.Resolved.{lift_after}
use Rattle.fm_claims.proofs.resolving.later_lift.Goals as goal

pub returns-in_default : goal.returns-in_default
returns-in_default c = λ q ps ls k h.
    let g = c.args.goal.now in let b = c.args.block.now in let r = q.ring in let G = goal_of q ps g in let B = block_of ps b in let L = logs_of ps ls in
    let e : numbered B.differentials (suc c.args.i) ≡ None = numbered_in ps _ _ (suc c.args.i) None c.deref.ensures.value (c.in_default.ensures.part ps) in
    unnamed q ps ls g b (program.Lift c.args.j) (rows.Theta c.args.j k) (rows.Theta c.args.j k) refl
    (placed.theta_says r G B ps L c.args.j) (places.after_lift G (suc c.args.j))
    (placed.on_theta r G B ps L c.args.j c.args.j k refl) (lift_after r G B ps L c.args.i c.args.j c.requires.j ∙ rw e refl)

pub returns-in_default-nth : goal.returns-in_default-nth
returns-in_default-nth c = λ q ps ls k h.
    let g = c.args.goal.now in let b = c.args.block.now in let r = q.ring in let G = goal_of q ps g in let B = block_of ps b in let L = logs_of ps ls in
    let e_d : numbered B.differentials (suc c.args.i) ≡ Some (part_at ps c.in-Some.d) = numbered_in ps _ _ (suc c.args.i) (Some (part_at ps c.in-Some.d)) c.deref.ensures.value (c.in-Some.ensures.part ps) in
    let e : numbered B.lift (suc c.args.i) ≡ None = numbered_in ps _ _ (suc c.args.i) None c.deref-2.ensures.value (c.in_default-nth.ensures.part ps) in
    unnamed q ps ls g b (program.Lift c.args.j) (rows.Theta c.args.j k) (rows.Theta c.args.j k) refl
    (placed.theta_says r G B ps L c.args.j) (places.after_lift G (suc c.args.j))
    (placed.on_theta r G B ps L c.args.j c.args.j k refl) (lift_after r G B ps L c.args.i c.args.j c.requires.j ∙ rw (e_d, e) refl)

pub returns-in_default-nth-2 : goal.returns-in_default-nth-2
returns-in_default-nth-2 c = λ q ps ls k h.
    let g = c.args.goal.now in let b = c.args.block.now in let r = q.ring in let G = goal_of q ps g in let B = block_of ps b in let L = logs_of ps ls in
    let e_d : numbered B.differentials (suc c.args.i) ≡ Some (part_at ps c.in-Some.d) = numbered_in ps _ _ (suc c.args.i) (Some (part_at ps c.in-Some.d)) c.deref.ensures.value (c.in-Some.ensures.part ps) in
    let e_before : numbered B.lift (suc c.args.i) ≡ Some (part_at ps c.in-Some-nth.before) =
    numbered_in ps _ _ (suc c.args.i) (Some (part_at ps c.in-Some-nth.before)) c.deref-2.ensures.value (c.in-Some-nth.ensures.part ps) in
    let e : numbered B.lift (suc c.args.j) ≡ None = numbered_in ps _ _ (suc c.args.j) None c.deref-3.ensures.value (c.in_default-nth-2.ensures.part ps) in
    unnamed q ps ls g b (program.Lift c.args.j) (rows.Theta c.args.j k) (rows.Theta c.args.j k) refl
    (placed.theta_says r G B ps L c.args.j) (places.after_lift G (suc c.args.j))
    (placed.on_theta r G B ps L c.args.j c.args.j k refl) (lift_after r G B ps L c.args.i c.args.j c.requires.j ∙ rw (e_d, e_before, e) refl)

pub returns : goal.returns
returns c = λ q ps ls k h.
    let g = c.args.goal.now in let b = c.args.block.now in let r = q.ring in let G = goal_of q ps g in let B = block_of ps b in let L = logs_of ps ls in
    let e_d : numbered B.differentials (suc c.args.i) ≡ Some (part_at ps c.in-Some.d) = numbered_in ps _ _ (suc c.args.i) (Some (part_at ps c.in-Some.d)) c.deref.ensures.value (c.in-Some.ensures.part ps) in
    let n_d : is_number ps c.in-Some.d ≡ true = c.in-Some.ensures.there ps (numbers_in ps _ _ c.deref.ensures.value h.0) in
    let e_before : numbered B.lift (suc c.args.i) ≡ Some (part_at ps c.in-Some-nth.before) =
    numbered_in ps _ _ (suc c.args.i) (Some (part_at ps c.in-Some-nth.before)) c.deref-2.ensures.value (c.in-Some-nth.ensures.part ps) in
    let n_before : is_number ps c.in-Some-nth.before ≡ true = c.in-Some-nth.ensures.there ps (numbers_in ps _ _ c.deref-2.ensures.value h.1) in
    let e_theta : numbered B.lift (suc c.args.j) ≡ Some (part_at ps c.in-Some-nth-2.theta) =
    numbered_in ps _ _ (suc c.args.j) (Some (part_at ps c.in-Some-nth-2.theta)) c.deref-3.ensures.value (c.in-Some-nth-2.ensures.part ps) in
    let n_theta : is_number ps c.in-Some-nth-2.theta ≡ true = c.in-Some-nth-2.ensures.there ps (numbers_in ps _ _ c.deref-3.ensures.value h.1) in
    claimed q ps ls g b (program.Lift c.args.j) (rows.Theta c.args.j k) (rows.Theta c.args.j k) refl
    (placed.theta_says r G B ps L c.args.j) (places.after_lift G (suc c.args.j))
    (placed.on_theta r G B ps L c.args.j c.args.j k refl) c.claim_one.result _ c.after_lift.result
    (c.claim_one.ensures r ps ls g.aim (c.in_ok-condition.ensures.testable r ps ls n_d n_before n_theta) (c.in_ok-condition.ensures.formable r ps) (c.after_lift.ensures.there ps))
    (lift_after r G B ps L c.args.i c.args.j c.requires.j ∙ rw (e_d, e_before, e_theta) (ap (λ x. Some (x ∷ [])) (sym (c.in_ok-condition.ensures.same r ps ls))))
    (c.after_lift.ensures.place q ps ∙ ap (places.after_lift G) c.requires.after)
