use Rattle.std.proofs.Common.{◌≡◌, suc, [], ◌∷◌, Some, None, ap, ◌∙◌}
use Rattle.fm_judge.specs.Places as places
use Rattle.fm_pres.specs.Tables.{parts_in, part_at}
use Rattle.fm_pres.specs.Blocks.{block_of}
use Rattle.fm_conditions.specs.Meanings.{condition_of, logs_of}
use Rattle.fm_lines.specs.declared.row.Row.TheVariants as rows
use Rattle.fm_places.specs.declared.place.Place.TheVariants as program
use Rattle.fm_places.specs.Meanings.{goal_of}
use Rattle.fm_claims.proofs.Followed.{misplaced, unnamed, claimed}
use Rattle.fm_claims.proofs.Placed as placed
use Rattle.fm_claims.proofs.Rows as others
use Rattle.fm_judge.specs.Claims.{lives_before}
use Rattle.fm_claims.specs.Kernels.{outside_kernel}
use Rattle.fm_claims.proofs.Lives.{outside_in, before_repeat, after_repeat, after_repeat_none}
use Rattle.fm_claims.proofs.deciding.lives.Goals as goal

pub returns-in_default : goal.returns-in_default
returns-in_default c = λ q.
    let ls = c.args.logs.now in let ps = parts_in c.args.table.now in let g = c.args.goal.now in let b = c.args.block.now in let r = q.ring in let G = goal_of q ps g in let B = block_of ps b in let L = logs_of ps ls in
    record { claim = others.not_lives r G B ps L (part_at ps c.args.w) c.args.t c.args.k c.args.row.now c.in_default.not-Lives; sound = tt }

pub returns-then-number-k : goal.returns-then-number-k
returns-then-number-k c = λ q.
    let ls = c.args.logs.now in let ps = parts_in c.args.table.now in let g = c.args.goal.now in let b = c.args.block.now in let r = q.ring in let G = goal_of q ps g in let B = block_of ps b in let L = logs_of ps ls in
    misplaced q ps ls g b (program.Lives c.args.w c.args.t c.args.k) c.args.row.now (rows.Lives c.in-Lives.number c.in-Lives.log c.in-Lives.by) c.in-Lives.is (placed.off_lives r G B ps L (part_at ps c.args.w) c.args.t c.args.k c.in-Lives.number c.in-Lives.log c.in-Lives.by c.if-number-k.true)

pub returns-in_default-2 : goal.returns-in_default-2
returns-in_default-2 c = λ q.
    let ls = c.args.logs.now in let ps = parts_in c.args.table.now in let g = c.args.goal.now in let b = c.args.block.now in let r = q.ring in let G = goal_of q ps g in let B = block_of ps b in let L = logs_of ps ls in
    let e : outside_kernel r G B ps L (part_at ps c.args.w) c.args.k c.in-Lives.log c.in-Lives.by.items ≡ None = outside_in r G B ps L (part_at ps c.args.w) c.args.k c.in-Lives.log _ _ _ c.deref.ensures.value (rw c.in_default-2.is at (c.in_ok-condition.ensures.same q)) in
    unnamed q ps ls g b (program.Lives c.args.w c.args.t c.args.k) c.args.row.now (rows.Lives c.in-Lives.number c.in-Lives.log c.in-Lives.by) c.in-Lives.is (lives_before r G B ps L (part_at ps c.args.w) c.args.t c.args.k c.in-Lives.log c.in-Lives.by.items) (places.dies (part_at ps c.args.w) c.args.t (suc c.args.k)) (placed.on_lives r G B ps L (part_at ps c.args.w) c.args.t c.args.k c.in-Lives.number c.in-Lives.log c.in-Lives.by c.if-number-k.false) (before_repeat r G B ps L (part_at ps c.args.w) c.args.t c.args.k c.in-Lives.log c.in-Lives.by.items c.if-k-t.true ∙ e)

pub returns-then-k-t : goal.returns-then-k-t
returns-then-k-t c = λ q.
    let ls = c.args.logs.now in let ps = parts_in c.args.table.now in let g = c.args.goal.now in let b = c.args.block.now in let r = q.ring in let G = goal_of q ps g in let B = block_of ps b in let L = logs_of ps ls in
    let e : outside_kernel r G B ps L (part_at ps c.args.w) c.args.k c.in-Lives.log c.in-Lives.by.items ≡ Some (condition_of r ps L c.in-Some.condition ∷ []) = outside_in r G B ps L (part_at ps c.args.w) c.args.k c.in-Lives.log _ _ _ c.deref.ensures.value (rw c.in-Some.is at (c.in_ok-condition.ensures.same q)) in
    claimed q ps ls g b (program.Lives c.args.w c.args.t c.args.k) c.args.row.now (rows.Lives c.in-Lives.number c.in-Lives.log c.in-Lives.by) c.in-Lives.is (lives_before r G B ps L (part_at ps c.args.w) c.args.t c.args.k c.in-Lives.log c.in-Lives.by.items) (places.dies (part_at ps c.args.w) c.args.t (suc c.args.k)) (placed.on_lives r G B ps L (part_at ps c.args.w) c.args.t c.args.k c.in-Lives.number c.in-Lives.log c.in-Lives.by c.if-number-k.false) c.claim_one.result _ (program.Dies c.args.w c.args.t c.in_ok-after.after)
    (c.claim_one.ensures r ps ls g.aim (rw c.in-Some.is at (c.in_ok-condition.ensures.testable r)) (rw c.in-Some.is at (c.in_ok-condition.ensures.formable r)) c.requires.w)
    (before_repeat r G B ps L (part_at ps c.args.w) c.args.t c.args.k c.in-Lives.log c.in-Lives.by.items c.if-k-t.true ∙ e) (ap (places.dies (part_at ps c.args.w) c.args.t) c.in_ok-after.ensures)

pub returns-in_default-3 : goal.returns-in_default-3
returns-in_default-3 c = λ q.
    let ls = c.args.logs.now in let ps = parts_in c.args.table.now in let g = c.args.goal.now in let b = c.args.block.now in let r = q.ring in let G = goal_of q ps g in let B = block_of ps b in let L = logs_of ps ls in
    let e : outside_kernel r G B ps L (part_at ps c.args.w) c.args.t c.in-Lives.log c.in-Lives.by.items ≡ None = outside_in r G B ps L (part_at ps c.args.w) c.args.t c.in-Lives.log _ _ _ c.deref-2.ensures.value (rw c.in_default-3.is at (c.in_ok-_condition.ensures.same q)) in
    unnamed q ps ls g b (program.Lives c.args.w c.args.t c.args.k) c.args.row.now (rows.Lives c.in-Lives.number c.in-Lives.log c.in-Lives.by) c.in-Lives.is (lives_before r G B ps L (part_at ps c.args.w) c.args.t c.args.k c.in-Lives.log c.in-Lives.by.items) (places.dies (part_at ps c.args.w) c.args.t (suc c.args.k)) (placed.on_lives r G B ps L (part_at ps c.args.w) c.args.t c.args.k c.in-Lives.number c.in-Lives.log c.in-Lives.by c.if-number-k.false) (after_repeat_none r G B ps L (part_at ps c.args.w) c.args.t c.args.k c.in-Lives.log c.in-Lives.by.items c.if-k-t.false e)

pub returns : goal.returns
returns c = λ q.
    let ls = c.args.logs.now in let ps = parts_in c.args.table.now in let g = c.args.goal.now in let b = c.args.block.now in let r = q.ring in let G = goal_of q ps g in let B = block_of ps b in let L = logs_of ps ls in
    let e : outside_kernel r G B ps L (part_at ps c.args.w) c.args.t c.in-Lives.log c.in-Lives.by.items ≡ Some (condition_of r ps L c.in-Some-2._condition ∷ []) = outside_in r G B ps L (part_at ps c.args.w) c.args.t c.in-Lives.log _ _ _ c.deref-2.ensures.value (rw c.in-Some-2.is at (c.in_ok-_condition.ensures.same q)) in
    claimed q ps ls g b (program.Lives c.args.w c.args.t c.args.k) c.args.row.now (rows.Lives c.in-Lives.number c.in-Lives.log c.in-Lives.by) c.in-Lives.is (lives_before r G B ps L (part_at ps c.args.w) c.args.t c.args.k c.in-Lives.log c.in-Lives.by.items) (places.dies (part_at ps c.args.w) c.args.t (suc c.args.k)) (placed.on_lives r G B ps L (part_at ps c.args.w) c.args.t c.args.k c.in-Lives.number c.in-Lives.log c.in-Lives.by c.if-number-k.false) c.claim_one-2.result _ (program.Dies c.args.w c.args.t c.in_ok-after.after)
    (c.claim_one-2.ensures r ps ls g.aim tt tt c.requires.w)
    (after_repeat r G B ps L (part_at ps c.args.w) c.args.t c.args.k c.in-Lives.log c.in-Lives.by.items _ c.if-k-t.false e) (ap (places.dies (part_at ps c.args.w) c.args.t) c.in_ok-after.ensures)
