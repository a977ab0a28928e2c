use Rattle.std.proofs.Common.{◌≡◌, suc, true, Some, None, refl}
use Rattle.fm_report.specs.Sheets.{numbered}
use Rattle.fm_parts.specs.Replays.{is_number}
use Rattle.fm_judge.specs.Places as places
use Rattle.fm_pres.specs.Tables.{parts_in, part_at}
use Rattle.fm_pres.specs.Blocks.{block_of}
use Rattle.fm_conditions.specs.Meanings.{logs_of}
use Rattle.fm_lines.specs.declared.row.Row.TheVariants as rows
use Rattle.fm_places.specs.declared.place.Place.TheVariants as program
use Rattle.fm_places.specs.Meanings.{goal_of}
use Rattle.fm_claims.proofs.Followed.{numbered_in, numbers_in, misplaced, unnamed, claimed}
use Rattle.fm_claims.proofs.Placed as placed
use Rattle.fm_claims.proofs.Followed.{numbered_moved}
use Rattle.fm_claims.proofs.roots.stable.Goals as goal

pub returns-then-number-s : goal.returns-then-number-s
returns-then-number-s c = λ q ls.
    let ps = parts_in c.args.table.now in let g = c.args.goal.now in let b = c.args.block.now in let r = q.ring in let G = goal_of q ps g in let B = block_of ps b in let L = logs_of ps ls in
    misplaced q ps ls g b (program.Turn c.args.s) (rows.Stable c.args.number c.args.w) (rows.Stable c.args.number c.args.w) refl (placed.off_stable r G B ps L c.args.s c.args.number c.args.w c.if-number-s.true)

pub returns-in_default : goal.returns-in_default
returns-in_default c = λ q ls.
    let ps = parts_in c.args.table.now in let g = c.args.goal.now in let b = c.args.block.now in let r = q.ring in let G = goal_of q ps g in let B = block_of ps b in let L = logs_of ps ls in
    let e : numbered B.kernels (suc c.args.s) ≡ None = numbered_in ps _ _ (suc c.args.s) None c.deref.ensures.value (c.in_default.ensures.part ps) in
    unnamed q ps ls g b (program.Turn c.args.s) (rows.Stable c.args.number c.args.w) (rows.Stable c.args.number c.args.w) refl (placed.stable_says r G B ps L c.args.s c.args.w) (places.after_stable G.aim c.args.s) (placed.on_stable r G B ps L c.args.s c.args.number c.args.w c.if-number-s.false) (rw e refl)

pub returns-in_default-nth : goal.returns-in_default-nth
returns-in_default-nth c = λ q ls.
    let ps = parts_in c.args.table.now in let g = c.args.goal.now in let b = c.args.block.now in let r = q.ring in let G = goal_of q ps g in let B = block_of ps b in let L = logs_of ps ls in
    let e_k : numbered B.kernels (suc c.args.s) ≡ Some (part_at ps c.in-Some.k) = numbered_in ps _ _ (suc c.args.s) (Some (part_at ps c.in-Some.k)) c.deref.ensures.value (c.in-Some.ensures.part ps) in
    let e : numbered B.kernels (suc (suc c.args.s)) ≡ None = numbered_moved ps _ _ _ (suc c.args.s) None c.deref-2.ensures.value c.in_ok-after.ensures (c.in_default-nth.ensures.part ps) in
    unnamed q ps ls g b (program.Turn c.args.s) (rows.Stable c.args.number c.args.w) (rows.Stable c.args.number c.args.w) refl (placed.stable_says r G B ps L c.args.s c.args.w) (places.after_stable G.aim c.args.s) (placed.on_stable r G B ps L c.args.s c.args.number c.args.w c.if-number-s.false) (rw (e_k, e) refl)

pub returns-in_default-part : goal.returns-in_default-part
returns-in_default-part c = λ q ls.
    let ps = parts_in c.args.table.now in let g = c.args.goal.now in let b = c.args.block.now in let r = q.ring in let G = goal_of q ps g in let B = block_of ps b in let L = logs_of ps ls in
    let e_k : numbered B.kernels (suc c.args.s) ≡ Some (part_at ps c.in-Some.k) = numbered_in ps _ _ (suc c.args.s) (Some (part_at ps c.in-Some.k)) c.deref.ensures.value (c.in-Some.ensures.part ps) in
    let e_c : numbered B.kernels (suc (suc c.args.s)) ≡ Some (part_at ps c.in-Some-nth.c) = numbered_moved ps _ _ _ (suc c.args.s) (Some (part_at ps c.in-Some-nth.c)) c.deref-2.ensures.value c.in_ok-after.ensures (c.in-Some-nth.ensures.part ps) in
    let e : numbered ps c.args.w ≡ None = c.in_default-part.ensures.part in
    unnamed q ps ls g b (program.Turn c.args.s) (rows.Stable c.args.number c.args.w) (rows.Stable c.args.number c.args.w) refl (placed.stable_says r G B ps L c.args.s c.args.w) (places.after_stable G.aim c.args.s) (placed.on_stable r G B ps L c.args.s c.args.number c.args.w c.if-number-s.false) (rw (e_k, e_c, e) refl)

pub returns : goal.returns
returns c = λ q ls.
    let ps = parts_in c.args.table.now in let g = c.args.goal.now in let b = c.args.block.now in let r = q.ring in let G = goal_of q ps g in let B = block_of ps b in let L = logs_of ps ls in
    let e_k : numbered B.kernels (suc c.args.s) ≡ Some (part_at ps c.in-Some.k) = numbered_in ps _ _ (suc c.args.s) (Some (part_at ps c.in-Some.k)) c.deref.ensures.value (c.in-Some.ensures.part ps) in
    let n_k : is_number ps c.in-Some.k ≡ true = c.in-Some.ensures.there ps (numbers_in ps _ _ c.deref.ensures.value c.requires.block.3) in
    let e_c : numbered B.kernels (suc (suc c.args.s)) ≡ Some (part_at ps c.in-Some-nth.c) = numbered_moved ps _ _ _ (suc c.args.s) (Some (part_at ps c.in-Some-nth.c)) c.deref-2.ensures.value c.in_ok-after.ensures (c.in-Some-nth.ensures.part ps) in
    let n_c : is_number ps c.in-Some-nth.c ≡ true = c.in-Some-nth.ensures.there ps (numbers_in ps _ _ c.deref-2.ensures.value c.requires.block.3) in
    let e_w : numbered ps c.args.w ≡ Some (part_at ps c.in-Some-part.w) = c.in-Some-part.ensures.part in
    claimed q ps ls g b (program.Turn c.args.s) (rows.Stable c.args.number c.args.w) (rows.Stable c.args.number c.args.w) refl (placed.stable_says r G B ps L c.args.s c.args.w) (places.after_stable G.aim c.args.s) (placed.on_stable r G B ps L c.args.s c.args.number c.args.w c.if-number-s.false) c.claim_agreeing.result _ c.after_stable-next.result
    (c.claim_agreeing.ensures r ps ls g.aim (n_c, c.in_ok-product.ensures.there r ps n_k c.in-Some-part.ensures.there) (tt, c.in_ok-product.ensures.formable r ps tt tt) (c.after_stable-next.ensures.there ps))
    (rw (e_k, e_c, e_w) (rw (c.in_ok-product.ensures.part r ps, c.told_moves.ensures q ps) refl)) (c.after_stable-next.ensures.place q ps)
