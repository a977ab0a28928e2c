use Rattle.std.proofs.Common.{◌≡◌, true, Some, None, refl}
use Rattle.fm_report.specs.Sheets.{numbered}
use Rattle.fm_parts.specs.Replays.{is_number}
use Rattle.fm_judge.specs.Places as places
use Rattle.fm_pres.specs.Tables.{part_at}
use Rattle.fm_pres.specs.Blocks.{block_of}
use Rattle.fm_conditions.specs.Meanings.{logs_of}
use Rattle.fm_lines.specs.declared.row.Row.TheVariants as rows
use Rattle.fm_places.specs.declared.place.Place.TheVariants as program
use Rattle.fm_places.specs.Meanings.{goal_of}
use Rattle.fm_claims.proofs.Followed.{numbered_in, numbers_in, unnamed, claimed}
use Rattle.fm_claims.proofs.Placed as placed
use Rattle.fm_claims.proofs.resolving.first_lift.Goals as goal

pub returns-in_default : goal.returns-in_default
returns-in_default c = λ q ps ls k h.
    let g = c.args.goal.now in let b = c.args.block.now in let r = q.ring in let G = goal_of q ps g in let B = block_of ps b in let L = logs_of ps ls in
    let e : numbered B.lift 1 ≡ None = numbered_in ps _ _ 1 None c.deref.ensures.value (c.in_default.ensures.part ps) in
    unnamed q ps ls g b (program.Lift 0) (rows.Theta 0 k) (rows.Theta 0 k) refl (placed.theta_says r G B ps L 0) (places.after_lift G 1) (placed.on_theta r G B ps L 0 0 k refl) (rw e refl)

pub returns : goal.returns
returns c = λ q ps ls k h.
    let g = c.args.goal.now in let b = c.args.block.now in let r = q.ring in let G = goal_of q ps g in let B = block_of ps b in let L = logs_of ps ls in
    let e_t : numbered B.lift 1 ≡ Some (part_at ps c.in-Some.theta) = numbered_in ps _ _ 1 (Some (part_at ps c.in-Some.theta)) c.deref.ensures.value (c.in-Some.ensures.part ps) in
    let n_t : is_number ps c.in-Some.theta ≡ true = c.in-Some.ensures.there ps (numbers_in ps _ _ c.deref.ensures.value h.1) in
    claimed q ps ls g b (program.Lift 0) (rows.Theta 0 k) (rows.Theta 0 k) refl
    (placed.theta_says r G B ps L 0) (places.after_lift G 1)
    (placed.on_theta r G B ps L 0 0 k refl) c.claim_one.result _ c.after_lift.result
    (c.claim_one.ensures r ps ls g.aim (n_t, tt) (tt, tt) (c.after_lift.ensures.there ps))
    (rw e_t refl) (c.after_lift.ensures.place q ps)
