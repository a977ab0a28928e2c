use Rattle.std.proofs.Common.{◌≡◌, suc, true, Some, None, refl, ap, ◌∙◌}
use Rattle.fm_report.specs.Sheets.{numbered}
use Rattle.fm_parts.specs.Replays.{is_number}
use Rattle.fm_judge.specs.Places as places
use Rattle.fm_pres.specs.Tables.{parts_in, part_at}
use Rattle.fm_pres.specs.Blocks.{block_of}
use Rattle.fm_conditions.specs.Meanings.{logs_of}
use Rattle.fm_lines.specs.declared.row.Row.TheVariants as rows
use Rattle.fm_places.specs.declared.place.Place.TheVariants as program
use Rattle.fm_places.specs.Meanings.{goal_of}
use Rattle.fm_claims.proofs.Followed.{numbered_in, numbers_in, unnamed, claimed}
use Rattle.fm_claims.proofs.Placed as placed
use Rattle.fm_claims.proofs.Resolved.{differential_after}
use Rattle.fm_claims.proofs.resolving.later_differential.Goals as goal

pub returns-in_default : goal.returns-in_default
returns-in_default c = λ q ls k.
    let ps = parts_in c.args.table.now in let g = c.args.goal.now in let b = c.args.block.now in let r = q.ring in let G = goal_of q ps g in let B = block_of ps b in let L = logs_of ps ls in
    let e : numbered B.differentials (suc c.args.i) ≡ None = numbered_in ps _ _ (suc c.args.i) None c.deref.ensures.value (c.in_default.ensures.part ps) in
    unnamed q ps ls g b (program.Differential c.args.j) (rows.D c.args.after k) (rows.D c.args.after k) refl
    (placed.d_says r G B ps L c.args.j) (places.after_differential G (suc c.args.j))
    (placed.on_d r G B ps L c.args.j c.args.after k c.requires.after) (differential_after r G B ps L c.args.i c.args.j c.requires.j ∙ rw e refl)

pub returns-in_default-nth : goal.returns-in_default-nth
returns-in_default-nth c = λ q ls k.
    let ps = parts_in c.args.table.now in let g = c.args.goal.now in let b = c.args.block.now in let r = q.ring in let G = goal_of q ps g in let B = block_of ps b in let L = logs_of ps ls in
    let e_a : numbered B.differentials (suc c.args.i) ≡ Some (part_at ps c.in-Some.a) = numbered_in ps _ _ (suc c.args.i) (Some (part_at ps c.in-Some.a)) c.deref.ensures.value (c.in-Some.ensures.part ps) in
    let e : numbered B.differentials (suc c.args.j) ≡ None = numbered_in ps _ _ (suc c.args.j) None c.deref-2.ensures.value (c.in_default-nth.ensures.part ps) in
    unnamed q ps ls g b (program.Differential c.args.j) (rows.D c.args.after k) (rows.D c.args.after k) refl
    (placed.d_says r G B ps L c.args.j) (places.after_differential G (suc c.args.j))
    (placed.on_d r G B ps L c.args.j c.args.after k c.requires.after)
    (differential_after r G B ps L c.args.i c.args.j c.requires.j ∙ rw (e_a, e) refl)

pub returns : goal.returns
returns c = λ q ls k.
    let ps = parts_in c.args.table.now in let g = c.args.goal.now in let b = c.args.block.now in let r = q.ring in let G = goal_of q ps g in let B = block_of ps b in let L = logs_of ps ls in
    let e_a : numbered B.differentials (suc c.args.i) ≡ Some (part_at ps c.in-Some.a) = numbered_in ps _ _ (suc c.args.i) (Some (part_at ps c.in-Some.a)) c.deref.ensures.value (c.in-Some.ensures.part ps) in
    let n_a : is_number ps c.in-Some.a ≡ true = c.in-Some.ensures.there ps (numbers_in ps _ _ c.deref.ensures.value c.requires.block.0) in
    let e_b : numbered B.differentials (suc c.args.j) ≡ Some (part_at ps c.in-Some-nth.b) =
    numbered_in ps _ _ (suc c.args.j) (Some (part_at ps c.in-Some-nth.b)) c.deref-2.ensures.value (c.in-Some-nth.ensures.part ps) in
    let n_b : is_number ps c.in-Some-nth.b ≡ true = c.in-Some-nth.ensures.there ps (numbers_in ps _ _ c.deref-2.ensures.value c.requires.block.0) in
    claimed q ps ls g b (program.Differential c.args.j) (rows.D c.args.after k) (rows.D c.args.after k) refl
    (placed.d_says r G B ps L c.args.j) (places.after_differential G (suc c.args.j))
    (placed.on_d r G B ps L c.args.j c.args.after k c.requires.after) c.claim_agreeing.result _ c.after_differential-next.result
    (c.claim_agreeing.ensures r ps ls g.aim (n_a, n_b) tt (c.after_differential-next.ensures.there ps))
    (differential_after r G B ps L c.args.i c.args.j c.requires.j ∙ rw (e_a, e_b, c.told_rank-told.ensures q ps, c.from-rank.ensures, c.columns.ensures, c.requires.after) refl)
    (c.after_differential-next.ensures.place q ps ∙ ap (places.after_differential G) c.requires.after)
