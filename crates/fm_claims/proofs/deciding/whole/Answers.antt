use Rattle.std.proofs.Common.{◌≡◌, suc, true, Some, None, refl, sym, ap}
use Rattle.fm_report.specs.Sheets.{numbered}
use Rattle.fm_parts.specs.Replays.{is_number}
use Rattle.fm_judge.specs.Claims.{unit_part}
use Rattle.fm_judge.specs.Places as places
use Rattle.fm_pres.specs.Tables.{parts_in, part_at}
use Rattle.fm_pres.specs.Blocks.{block_of}
use Rattle.fm_conditions.specs.Meanings.{logs_of}
use Rattle.fm_lines.specs.declared.row.Row.TheVariants as rows
use Rattle.fm_places.specs.declared.place.Place.TheVariants as program
use Rattle.fm_places.specs.Meanings.{goal_of}
use Rattle.fm_claims.proofs.Followed.{numbered_in, numbers_in, equal_sides, unnamed, claimed}
use Rattle.fm_claims.proofs.Placed as placed
use Rattle.fm_claims.proofs.Rows as others
use Rattle.fm_claims.proofs.deciding.whole.Goals as goal

pub returns-in_default : goal.returns-in_default
returns-in_default c = λ q ls g.
    let ps = parts_in c.args.table.now in let b = c.args.block.now in let r = q.ring in let G = goal_of q ps g in let B = block_of ps b in let L = logs_of ps ls in
    record { claim = others.not_whole r G B ps L c.args.t c.args.row.now c.in_default.not-Whole; sound = tt }

pub returns-in_default-nth : goal.returns-in_default-nth
returns-in_default-nth c = λ q ls g.
    let ps = parts_in c.args.table.now in let b = c.args.block.now in let r = q.ring in let G = goal_of q ps g in let B = block_of ps b in let L = logs_of ps ls in
    let e : numbered B.kernels (suc c.args.t) ≡ None = numbered_in ps _ _ (suc c.args.t) None c.deref.ensures.value (c.in_default-nth.ensures.part ps) in
    unnamed q ps ls g b (program.Whole c.args.t) c.args.row.now (rows.Whole c.in-Whole.w) c.in-Whole.is (placed.whole_says r G B ps L c.args.t c.in-Whole.w) places.end (placed.on_whole r G B ps L c.args.t c.in-Whole.w) (rw e refl)

pub returns-in_default-part : goal.returns-in_default-part
returns-in_default-part c = λ q ls g.
    let ps = parts_in c.args.table.now in let b = c.args.block.now in let r = q.ring in let G = goal_of q ps g in let B = block_of ps b in let L = logs_of ps ls in
    let e_k : numbered B.kernels (suc c.args.t) ≡ Some (part_at ps c.in-Some.k) = numbered_in ps _ _ (suc c.args.t) (Some (part_at ps c.in-Some.k)) c.deref.ensures.value (c.in-Some.ensures.part ps) in
    let e : numbered ps c.in-Whole.w ≡ None = c.in_default-part.ensures.part in
    unnamed q ps ls g b (program.Whole c.args.t) c.args.row.now (rows.Whole c.in-Whole.w) c.in-Whole.is (placed.whole_says r G B ps L c.args.t c.in-Whole.w) places.end (placed.on_whole r G B ps L c.args.t c.in-Whole.w) (rw (e_k, e) refl)

pub returns : goal.returns
returns c = λ q ls g.
    let ps = parts_in c.args.table.now in let b = c.args.block.now in let r = q.ring in let G = goal_of q ps g in let B = block_of ps b in let L = logs_of ps ls in
    let e_k : numbered B.kernels (suc c.args.t) ≡ Some (part_at ps c.in-Some.k) = numbered_in ps _ _ (suc c.args.t) (Some (part_at ps c.in-Some.k)) c.deref.ensures.value (c.in-Some.ensures.part ps) in
    let n_k : is_number ps c.in-Some.k ≡ true = c.in-Some.ensures.there ps (numbers_in ps _ _ c.deref.ensures.value c.requires.block.3) in
    let e_w : numbered ps c.in-Whole.w ≡ Some (part_at ps c.in-Some-part.w) = c.in-Some-part.ensures.part in
    claimed q ps ls g b (program.Whole c.args.t) c.args.row.now (rows.Whole c.in-Whole.w) c.in-Whole.is (placed.whole_says r G B ps L c.args.t c.in-Whole.w) places.end (placed.on_whole r G B ps L c.args.t c.in-Whole.w) c.claim_one.result _ program.End
    (c.claim_one.ensures r ps ls g.aim (c.in_ok-product.ensures.there r ps n_k c.in-Some-part.ensures.there, tt) (c.in_ok-product.ensures.formable r ps tt tt, tt) tt)
    (rw (e_k, e_w) (equal_sides _ _ _ _ (sym (c.in_ok-product.ensures.part r ps)) (ap (unit_part r) (sym c.rows.ensures)))) (refl)
