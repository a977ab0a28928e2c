use Rattle.std.proofs.Common.{◌≡◌, suc, true, Some, None, refl, sym, ◌∙◌}
use Rattle.fm_report.specs.Sheets.{numbered}
use Rattle.fm_parts.specs.Replays.{is_number}
use Rattle.fm_judge.specs.Places as places
use Rattle.fm_pres.specs.Tables.{parts_in, part_at}
use Rattle.fm_pres.specs.Blocks.{block_of}
use Rattle.fm_conditions.specs.Meanings.{logs_of}
use Rattle.fm_lines.specs.declared.row.Row.TheVariants as rows
use Rattle.fm_places.specs.declared.place.Place.TheVariants as program
use Rattle.fm_places.specs.Meanings.{goal_of}
use Rattle.fm_claims.proofs.Followed.{numbered_in, numbers_in, equal_sides, misplaced, unnamed, claimed}
use Rattle.fm_claims.proofs.Placed as placed
use Rattle.fm_claims.proofs.Rows as others
use Rattle.fm_claims.proofs.deciding.dies.Goals as goal

pub returns-in_default : goal.returns-in_default
returns-in_default c = λ q ls.
    let ps = parts_in c.args.table.now in let g = c.args.goal.now in let b = c.args.block.now in let r = q.ring in let G = goal_of q ps g in let B = block_of ps b in let L = logs_of ps ls in
    record { claim = others.not_dies r G B ps L (part_at ps c.args.w) c.args.t c.args.m c.args.row.now c.in_default.not-Dies; sound = tt }

pub returns-then-number-m : goal.returns-then-number-m
returns-then-number-m c = λ q ls.
    let ps = parts_in c.args.table.now in let g = c.args.goal.now in let b = c.args.block.now in let r = q.ring in let G = goal_of q ps g in let B = block_of ps b in let L = logs_of ps ls in
    misplaced q ps ls g b (program.Dies c.args.w c.args.t c.args.m) c.args.row.now (rows.Dies c.in-Dies.number c.in-Dies.x) c.in-Dies.is (placed.off_dies r G B ps L (part_at ps c.args.w) c.args.t c.args.m c.in-Dies.number c.in-Dies.x c.if-number-m.true)

pub returns-in_default-nth : goal.returns-in_default-nth
returns-in_default-nth c = λ q ls.
    let ps = parts_in c.args.table.now in let g = c.args.goal.now in let b = c.args.block.now in let r = q.ring in let G = goal_of q ps g in let B = block_of ps b in let L = logs_of ps ls in
    let e : numbered B.kernels (suc c.args.m) ≡ None = numbered_in ps _ _ (suc c.args.m) None c.deref.ensures.value (c.in_default-nth.ensures.part ps) in
    unnamed q ps ls g b (program.Dies c.args.w c.args.t c.args.m) c.args.row.now (rows.Dies c.in-Dies.number c.in-Dies.x) c.in-Dies.is (placed.dies_says r G B ps L (part_at ps c.args.w) c.args.m c.in-Dies.x) places.end (placed.on_dies r G B ps L (part_at ps c.args.w) c.args.t c.args.m c.in-Dies.number c.in-Dies.x c.if-number-m.false) (rw e refl)

pub returns-in_default-part : goal.returns-in_default-part
returns-in_default-part c = λ q ls.
    let ps = parts_in c.args.table.now in let g = c.args.goal.now in let b = c.args.block.now in let r = q.ring in let G = goal_of q ps g in let B = block_of ps b in let L = logs_of ps ls in
    let e_k : numbered B.kernels (suc c.args.m) ≡ Some (part_at ps c.in-Some.k) = numbered_in ps _ _ (suc c.args.m) (Some (part_at ps c.in-Some.k)) c.deref.ensures.value (c.in-Some.ensures.part ps) in
    let e : numbered ps c.in-Dies.x ≡ None = c.in_default-part.ensures.part in
    unnamed q ps ls g b (program.Dies c.args.w c.args.t c.args.m) c.args.row.now (rows.Dies c.in-Dies.number c.in-Dies.x) c.in-Dies.is (placed.dies_says r G B ps L (part_at ps c.args.w) c.args.m c.in-Dies.x) places.end (placed.on_dies r G B ps L (part_at ps c.args.w) c.args.t c.args.m c.in-Dies.number c.in-Dies.x c.if-number-m.false) (rw (e_k, e) refl)

pub returns : goal.returns
returns c = λ q ls.
    let ps = parts_in c.args.table.now in let g = c.args.goal.now in let b = c.args.block.now in let r = q.ring in let G = goal_of q ps g in let B = block_of ps b in let L = logs_of ps ls in
    let e_k : numbered B.kernels (suc c.args.m) ≡ Some (part_at ps c.in-Some.k) = numbered_in ps _ _ (suc c.args.m) (Some (part_at ps c.in-Some.k)) c.deref.ensures.value (c.in-Some.ensures.part ps) in
    let n_k : is_number ps c.in-Some.k ≡ true = c.in-Some.ensures.there ps (numbers_in ps _ _ c.deref.ensures.value c.requires.block.3) in
    let e_x : numbered ps c.in-Dies.x ≡ Some (part_at ps c.in-Some-part.x) = c.in-Some-part.ensures.part in
    claimed q ps ls g b (program.Dies c.args.w c.args.t c.args.m) c.args.row.now (rows.Dies c.in-Dies.number c.in-Dies.x) c.in-Dies.is (placed.dies_says r G B ps L (part_at ps c.args.w) c.args.m c.in-Dies.x) places.end (placed.on_dies r G B ps L (part_at ps c.args.w) c.args.t c.args.m c.in-Dies.number c.in-Dies.x c.if-number-m.false) c.claim_one.result _ program.End
    (c.claim_one.ensures r ps ls g.aim (c.requires.w, c.in_ok-product.ensures.there r ps (c.in_ok-twist.ensures.there r ps n_k) c.in-Some-part.ensures.there) (tt, c.in_ok-product.ensures.formable r ps (c.in_ok-twist.ensures.formable r ps tt) tt) tt)
    (rw (e_k, e_x) (equal_sides _ _ _ _ refl (sym (c.in_ok-product.ensures.part r ps ∙ rw (c.in_ok-twist.ensures.part r ps, c.stage.ensures q ps) refl)))) (refl)
