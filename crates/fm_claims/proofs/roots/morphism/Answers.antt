use Rattle.std.proofs.Common.{◌≡◌, suc, true, [], ◌∷◌, Some, None, refl, sym, ap}
use Rattle.fm_report.specs.Sheets.{numbered}
use Rattle.fm_parts.specs.Replays.{is_number}
use Rattle.fm_judge.specs.Places as places
use Rattle.fm_pres.specs.Tables.{part_at}
use Rattle.fm_pres.specs.Blocks.{block_of}
use Rattle.fm_conditions.specs.Meanings.{logs_of}
use Rattle.fm_lines.specs.declared.row.Row.TheVariants as rows
use Rattle.fm_places.specs.declared.place.Place.TheVariants as program
use Rattle.fm_places.specs.Meanings.{goal_of}
use Rattle.fm_claims.proofs.Followed.{numbered_in, numbers_in, unnamed, claimed}
use Rattle.fm_claims.proofs.Placed as placed
use Rattle.fm_claims.proofs.Rows as others
use Rattle.fm_claims.proofs.Followed.{numbered_moved}
use Rattle.fm_claims.proofs.roots.morphism.Goals as goal

pub returns-in_default : goal.returns-in_default
returns-in_default c = λ q ps ls h.
    let g = c.args.goal.now in let b = c.args.block.now in let r = q.ring in let G = goal_of q ps g in let B = block_of ps b in let L = logs_of ps ls in
    record { claim = others.not_morphism r G B ps L c.args.row.now c.in_default.not-Morphism; sound = tt }

pub returns-in_default-nth : goal.returns-in_default-nth
returns-in_default-nth c = λ q ps ls h.
    let g = c.args.goal.now in let b = c.args.block.now in let r = q.ring in let G = goal_of q ps g in let B = block_of ps b in let L = logs_of ps ls in
    let e : numbered B.cocycles 1 ≡ None = numbered_in ps _ _ 1 None c.deref.ensures.value (c.in_default-nth.ensures.part ps) in
    unnamed q ps ls g b program.Morphism c.args.row.now (rows.Morphism c.in-Morphism.part) c.in-Morphism.is (placed.morphism_says r G B ps L) (places.after_morphism G.aim) (placed.on_morphism r G B ps L c.in-Morphism.part) (rw e refl)

pub returns-in_default-nth-2 : goal.returns-in_default-nth-2
returns-in_default-nth-2 c = λ q ps ls h.
    let g = c.args.goal.now in let b = c.args.block.now in let r = q.ring in let G = goal_of q ps g in let B = block_of ps b in let L = logs_of ps ls in
    let e_z : numbered B.cocycles 1 ≡ Some (part_at ps c.in-Some.z) = numbered_in ps _ _ 1 (Some (part_at ps c.in-Some.z)) c.deref.ensures.value (c.in-Some.ensures.part ps) in
    let e : numbered B.lift (suc c.args.goal.now.degree) ≡ None = numbered_moved ps _ _ _ c.args.goal.now.degree None c.deref-2.ensures.value c.from.ensures (c.in_default-nth-2.ensures.part ps) in
    unnamed q ps ls g b program.Morphism c.args.row.now (rows.Morphism c.in-Morphism.part) c.in-Morphism.is (placed.morphism_says r G B ps L) (places.after_morphism G.aim) (placed.on_morphism r G B ps L c.in-Morphism.part) (rw (e_z, e) refl)

pub returns-in_default-nth-3 : goal.returns-in_default-nth-3
returns-in_default-nth-3 c = λ q ps ls h.
    let g = c.args.goal.now in let b = c.args.block.now in let r = q.ring in let G = goal_of q ps g in let B = block_of ps b in let L = logs_of ps ls in
    let e_z : numbered B.cocycles 1 ≡ Some (part_at ps c.in-Some.z) = numbered_in ps _ _ 1 (Some (part_at ps c.in-Some.z)) c.deref.ensures.value (c.in-Some.ensures.part ps) in
    let e_t : numbered B.lift (suc c.args.goal.now.degree) ≡ Some (part_at ps c.in-Some-nth.theta) = numbered_moved ps _ _ _ c.args.goal.now.degree (Some (part_at ps c.in-Some-nth.theta)) c.deref-2.ensures.value c.from.ensures (c.in-Some-nth.ensures.part ps) in
    let e : numbered B.morphism 1 ≡ None = numbered_in ps _ _ 1 None c.deref-3.ensures.value (c.in_default-nth-3.ensures.part ps) in
    unnamed q ps ls g b program.Morphism c.args.row.now (rows.Morphism c.in-Morphism.part) c.in-Morphism.is (placed.morphism_says r G B ps L) (places.after_morphism G.aim) (placed.on_morphism r G B ps L c.in-Morphism.part) (rw (e_z, e_t, e) refl)

pub returns : goal.returns
returns c = λ q ps ls h.
    let g = c.args.goal.now in let b = c.args.block.now in let r = q.ring in let G = goal_of q ps g in let B = block_of ps b in let L = logs_of ps ls in
    let e_z : numbered B.cocycles 1 ≡ Some (part_at ps c.in-Some.z) = numbered_in ps _ _ 1 (Some (part_at ps c.in-Some.z)) c.deref.ensures.value (c.in-Some.ensures.part ps) in
    let n_z : is_number ps c.in-Some.z ≡ true = c.in-Some.ensures.there ps (numbers_in ps _ _ c.deref.ensures.value h.2) in
    let e_t : numbered B.lift (suc c.args.goal.now.degree) ≡ Some (part_at ps c.in-Some-nth.theta) = numbered_moved ps _ _ _ c.args.goal.now.degree (Some (part_at ps c.in-Some-nth.theta)) c.deref-2.ensures.value c.from.ensures (c.in-Some-nth.ensures.part ps) in
    let n_t : is_number ps c.in-Some-nth.theta ≡ true = c.in-Some-nth.ensures.there ps (numbers_in ps _ _ c.deref-2.ensures.value h.1) in
    let e_u : numbered B.morphism 1 ≡ Some (part_at ps c.in-Some-nth-2.u) = numbered_in ps _ _ 1 (Some (part_at ps c.in-Some-nth-2.u)) c.deref-3.ensures.value (c.in-Some-nth-2.ensures.part ps) in
    let n_u : is_number ps c.in-Some-nth-2.u ≡ true = c.in-Some-nth-2.ensures.there ps (numbers_in ps _ _ c.deref-3.ensures.value h.4) in
    claimed q ps ls g b program.Morphism c.args.row.now (rows.Morphism c.in-Morphism.part) c.in-Morphism.is (placed.morphism_says r G B ps L) (places.after_morphism G.aim) (placed.on_morphism r G B ps L c.in-Morphism.part) c.claim_one.result _ c.after_morphism.result
    (c.claim_one.ensures r ps ls g.aim (c.in_ok-condition.ensures.testable r ps ls n_z n_t n_u) (c.in_ok-condition.ensures.formable r ps) (c.after_morphism.ensures.there ps))
    (rw (e_z, e_t, e_u) (ap (λ x. Some (x ∷ [])) (sym (c.in_ok-condition.ensures.same r ps ls)))) (c.after_morphism.ensures.place q ps)
