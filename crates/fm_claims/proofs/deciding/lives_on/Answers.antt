use Rattle.std.proofs.Common.{◌≡◌, [], ◌∷◌, Some, None, refl}
use Rattle.fm_judge.specs.Places as places
use Rattle.fm_pres.specs.Tables.{parts_in, part_at}
use Rattle.fm_pres.specs.Blocks.{block_of}
use Rattle.fm_conditions.specs.Meanings.{condition_of, logs_of}
use Rattle.fm_lines.specs.declared.row.Row.TheVariants as rows
use Rattle.fm_places.specs.declared.place.Place.TheVariants as program
use Rattle.fm_places.specs.Meanings.{goal_of}
use Rattle.fm_claims.proofs.Followed.{misplaced, unnamed, claimed}
use Rattle.fm_claims.proofs.Placed as placed
use Rattle.fm_claims.proofs.Rows as others
use Rattle.fm_claims.specs.Kernels.{outside_kernel}
use Rattle.fm_claims.proofs.Lives.{outside_in}
use Rattle.fm_claims.proofs.deciding.lives_on.Goals as goal

pub returns-in_default : goal.returns-in_default
returns-in_default c = λ q.
    let ls = c.args.logs.now in let ps = parts_in c.args.table.now in let g = c.args.goal.now in let b = c.args.block.now in let r = q.ring in let G = goal_of q ps g in let B = block_of ps b in let L = logs_of ps ls in
    record { claim = others.not_lives_on r G B ps L (part_at ps c.args.w) c.args.t c.args.row.now c.in_default.not-Lives; sound = tt }

pub returns-then-number-t : goal.returns-then-number-t
returns-then-number-t c = λ q.
    let ls = c.args.logs.now in let ps = parts_in c.args.table.now in let g = c.args.goal.now in let b = c.args.block.now in let r = q.ring in let G = goal_of q ps g in let B = block_of ps b in let L = logs_of ps ls in
    misplaced q ps ls g b (program.LivesOn c.args.w c.args.t) c.args.row.now (rows.Lives c.in-Lives.number c.in-Lives.log c.in-Lives.by) c.in-Lives.is (placed.off_lives_on r G B ps L (part_at ps c.args.w) c.args.t c.in-Lives.number c.in-Lives.log c.in-Lives.by c.if-number-t.true)

pub returns-in_default-2 : goal.returns-in_default-2
returns-in_default-2 c = λ q.
    let ls = c.args.logs.now in let ps = parts_in c.args.table.now in let g = c.args.goal.now in let b = c.args.block.now in let r = q.ring in let G = goal_of q ps g in let B = block_of ps b in let L = logs_of ps ls in
    let e : outside_kernel r G B ps L (part_at ps c.args.w) c.args.t c.in-Lives.log c.in-Lives.by.items ≡ None = outside_in r G B ps L (part_at ps c.args.w) c.args.t c.in-Lives.log _ _ _ c.deref.ensures.value (rw c.in_default-2.is at (c.in_ok-condition.ensures.same q)) in
    unnamed q ps ls g b (program.LivesOn c.args.w c.args.t) c.args.row.now (rows.Lives c.in-Lives.number c.in-Lives.log c.in-Lives.by) c.in-Lives.is (placed.lives_on_says r G B ps L (part_at ps c.args.w) c.args.t c.in-Lives.log c.in-Lives.by.items) places.end (placed.on_lives_on r G B ps L (part_at ps c.args.w) c.args.t c.in-Lives.number c.in-Lives.log c.in-Lives.by c.if-number-t.false) (e)

pub returns : goal.returns
returns c = λ q.
    let ls = c.args.logs.now in let ps = parts_in c.args.table.now in let g = c.args.goal.now in let b = c.args.block.now in let r = q.ring in let G = goal_of q ps g in let B = block_of ps b in let L = logs_of ps ls in
    let e : outside_kernel r G B ps L (part_at ps c.args.w) c.args.t c.in-Lives.log c.in-Lives.by.items ≡ Some (condition_of r ps L c.in-Some.condition ∷ []) = outside_in r G B ps L (part_at ps c.args.w) c.args.t c.in-Lives.log _ _ _ c.deref.ensures.value (rw c.in-Some.is at (c.in_ok-condition.ensures.same q)) in
    claimed q ps ls g b (program.LivesOn c.args.w c.args.t) c.args.row.now (rows.Lives c.in-Lives.number c.in-Lives.log c.in-Lives.by) c.in-Lives.is (placed.lives_on_says r G B ps L (part_at ps c.args.w) c.args.t c.in-Lives.log c.in-Lives.by.items) places.end (placed.on_lives_on r G B ps L (part_at ps c.args.w) c.args.t c.in-Lives.number c.in-Lives.log c.in-Lives.by c.if-number-t.false) c.claim_one.result _ program.End
    (c.claim_one.ensures r ps ls g.aim (rw c.in-Some.is at (c.in_ok-condition.ensures.testable r)) (rw c.in-Some.is at (c.in_ok-condition.ensures.formable r)) tt)
    (e) (refl)
