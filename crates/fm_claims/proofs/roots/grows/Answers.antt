use Rattle.std.proofs.Common.{◌≡◌, suc, ◌≤◌, true, [], ◌∷◌, Some, None, refl, sym, ap}
use Rattle.fm_report.specs.Sheets.{numbered}
use Rattle.fm_parts.specs.Conditions.{outside}
use Rattle.fm_parts.specs.Replays.{is_number}
use Rattle.fm_judge.specs.Claims.{excluded}
use Rattle.fm_judge.specs.Places as places
use Rattle.fm_pres.specs.Tables.{parts_in, part_at}
use Rattle.fm_pres.specs.Blocks.{block_of}
use Rattle.fm_conditions.specs.Meanings.{logs_of, log_at}
use Rattle.fm_lines.specs.declared.row.Row.TheVariants as rows
use Rattle.fm_places.specs.declared.place.Place.TheVariants as program
use Rattle.fm_places.specs.Meanings.{goal_of}
use Rattle.fm_claims.proofs.Followed.{numbered_in, numbers_in, misplaced, unnamed, claimed}
use Rattle.fm_claims.proofs.Placed as placed
use Rattle.fm_claims.proofs.Followed.{excluded_in}
use Rattle.fm_claims.proofs.Followed.{numbered_moved}
use Rattle.fm_claims.proofs.roots.grows.Goals as goal

pub returns-then-number-s : goal.returns-then-number-s
returns-then-number-s c = λ q g.
    let ls = c.args.logs.now in let ps = parts_in c.args.table.now in let b = c.args.block.now in let r = q.ring in let G = goal_of q ps g in let B = block_of ps b in let L = logs_of ps ls in
    misplaced q ps ls g b (program.Turn c.args.s) (rows.Grows c.args.number c.args.shown.now) (rows.Grows c.args.number c.args.shown.now) refl (placed.off_grows r G B ps L c.args.s c.args.number c.args.shown.now c.if-number-s.true)

pub returns-in_default : goal.returns-in_default
returns-in_default c = λ q g.
    let ls = c.args.logs.now in let ps = parts_in c.args.table.now in let b = c.args.block.now in let r = q.ring in let G = goal_of q ps g in let B = block_of ps b in let L = logs_of ps ls in
    let e : numbered B.kernels (suc c.args.s) ≡ None = numbered_in ps _ _ (suc c.args.s) None c.deref.ensures.value (c.in_default.ensures.part ps) in
    unnamed q ps ls g b (program.Turn c.args.s) (rows.Grows c.args.number c.args.shown.now) (rows.Grows c.args.number c.args.shown.now) refl (placed.grows_says r G B ps L c.args.s c.args.shown.now) (places.chain (suc c.args.s)) (placed.on_grows r G B ps L c.args.s c.args.number c.args.shown.now c.if-number-s.false) (rw e refl)

pub returns-in_default-nth : goal.returns-in_default-nth
returns-in_default-nth c = λ q g.
    let ls = c.args.logs.now in let ps = parts_in c.args.table.now in let b = c.args.block.now in let r = q.ring in let G = goal_of q ps g in let B = block_of ps b in let L = logs_of ps ls in
    let e_k : numbered B.kernels (suc c.args.s) ≡ Some (part_at ps c.in-Some.k) = numbered_in ps _ _ (suc c.args.s) (Some (part_at ps c.in-Some.k)) c.deref.ensures.value (c.in-Some.ensures.part ps) in
    let e : numbered B.kernels (suc (suc c.args.s)) ≡ None = numbered_moved ps _ _ _ (suc c.args.s) None c.deref-2.ensures.value c.in_ok-after.ensures (c.in_default-nth.ensures.part ps) in
    unnamed q ps ls g b (program.Turn c.args.s) (rows.Grows c.args.number c.args.shown.now) (rows.Grows c.args.number c.args.shown.now) refl (placed.grows_says r G B ps L c.args.s c.args.shown.now) (places.chain (suc c.args.s)) (placed.on_grows r G B ps L c.args.s c.args.number c.args.shown.now c.if-number-s.false) (rw (e_k, e) refl)

pub returns-in_default-2 : goal.returns-in_default-2
returns-in_default-2 c = λ q g.
    let ls = c.args.logs.now in let ps = parts_in c.args.table.now in let b = c.args.block.now in let r = q.ring in let G = goal_of q ps g in let B = block_of ps b in let L = logs_of ps ls in
    let e_k : numbered B.kernels (suc c.args.s) ≡ Some (part_at ps c.in-Some.k) = numbered_in ps _ _ (suc c.args.s) (Some (part_at ps c.in-Some.k)) c.deref.ensures.value (c.in-Some.ensures.part ps) in
    let e_c : numbered B.kernels (suc (suc c.args.s)) ≡ Some (part_at ps c.in-Some-nth.c) = numbered_moved ps _ _ _ (suc c.args.s) (Some (part_at ps c.in-Some-nth.c)) c.deref-2.ensures.value c.in_ok-after.ensures (c.in-Some-nth.ensures.part ps) in
    let e : excluded r G B ps L 0 (part_at ps c.in-Some.k) (part_at ps c.in-Some-nth.c) c.args.shown.now.log c.args.shown.now.column c.args.shown.now.by.items ≡ None = excluded_in r G B ps L 0 (part_at ps c.in-Some.k) (part_at ps c.in-Some-nth.c) c.args.shown.now.log c.args.shown.now.column _ _ None c.deref-3.ensures.value (rw c.in_default-2.is at (c.in_ok-x.ensures.excluded ps r G B 0 (part_at ps c.in-Some.k) (part_at ps c.in-Some-nth.c) (sym c.columns-count.ensures))) in
    unnamed q ps ls g b (program.Turn c.args.s) (rows.Grows c.args.number c.args.shown.now) (rows.Grows c.args.number c.args.shown.now) refl (placed.grows_says r G B ps L c.args.s c.args.shown.now) (places.chain (suc c.args.s)) (placed.on_grows r G B ps L c.args.s c.args.number c.args.shown.now c.if-number-s.false) (rw (e_k, e_c) e)

pub returns : goal.returns
returns c = λ q g.
    let ls = c.args.logs.now in let ps = parts_in c.args.table.now in let b = c.args.block.now in let r = q.ring in let G = goal_of q ps g in let B = block_of ps b in let L = logs_of ps ls in
    let e_k : numbered B.kernels (suc c.args.s) ≡ Some (part_at ps c.in-Some.k) = numbered_in ps _ _ (suc c.args.s) (Some (part_at ps c.in-Some.k)) c.deref.ensures.value (c.in-Some.ensures.part ps) in
    let n_k : is_number ps c.in-Some.k ≡ true = c.in-Some.ensures.there ps (numbers_in ps _ _ c.deref.ensures.value c.requires.block.3) in
    let e_c : numbered B.kernels (suc (suc c.args.s)) ≡ Some (part_at ps c.in-Some-nth.c) = numbered_moved ps _ _ _ (suc c.args.s) (Some (part_at ps c.in-Some-nth.c)) c.deref-2.ensures.value c.in_ok-after.ensures (c.in-Some-nth.ensures.part ps) in
    let n_c : is_number ps c.in-Some-nth.c ≡ true = c.in-Some-nth.ensures.there ps (numbers_in ps _ _ c.deref-2.ensures.value c.requires.block.3) in
    let e : excluded r G B ps L 0 (part_at ps c.in-Some.k) (part_at ps c.in-Some-nth.c) c.args.shown.now.log c.args.shown.now.column c.args.shown.now.by.items ≡ Some (outside (log_at L c.in-Some-2.x.log) 0 (part_at ps c.in-Some.k) (part_at ps c.in-Some-nth.c) c.in-Some-2.x.column c.in-Some-2.x.by.items ∷ []) = excluded_in r G B ps L 0 (part_at ps c.in-Some.k) (part_at ps c.in-Some-nth.c) c.args.shown.now.log c.args.shown.now.column _ _ (Some (outside (log_at L c.in-Some-2.x.log) 0 (part_at ps c.in-Some.k) (part_at ps c.in-Some-nth.c) c.in-Some-2.x.column c.in-Some-2.x.by.items ∷ [])) c.deref-3.ensures.value (rw c.in-Some-2.is at (c.in_ok-x.ensures.excluded ps r G B 0 (part_at ps c.in-Some.k) (part_at ps c.in-Some-nth.c) (sym c.columns-count.ensures))) in
    let t : (is_number ls c.in-Some-2.x.log ≡ true) × (1 ≤ c.in-Some-2.x.column) = rw c.in-Some-2.is at c.in_ok-x.ensures.there in
    claimed q ps ls g b (program.Turn c.args.s) (rows.Grows c.args.number c.args.shown.now) (rows.Grows c.args.number c.args.shown.now) refl (placed.grows_says r G B ps L c.args.s c.args.shown.now) (places.chain (suc c.args.s)) (placed.on_grows r G B ps L c.args.s c.args.number c.args.shown.now c.if-number-s.false) c.claim_one.result _ (program.Chain c.in_ok-after.after)
    (c.claim_one.ensures r ps ls g.aim (t.0, n_k, n_c, t.1) (tt, tt) tt)
    (rw (e_k, e_c) e) (ap places.chain c.in_ok-after.ensures)
