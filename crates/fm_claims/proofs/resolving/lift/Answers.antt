use Rattle.std.proofs.Common.{refl, ap, ◌∙◌}
use Rattle.fm_pres.specs.Blocks.{block_of}
use Rattle.fm_conditions.specs.Meanings.{logs_of}
use Rattle.fm_lines.specs.declared.row.Row.TheVariants as rows
use Rattle.fm_places.specs.declared.place.Place.TheVariants as program
use Rattle.fm_places.specs.Meanings.{goal_of}
use Rattle.fm_claims.proofs.Followed.{misplaced, follows_so}
use Rattle.fm_claims.proofs.Placed as placed
use Rattle.fm_claims.proofs.Rows as others
use Rattle.fm_claims.proofs.resolving.lift.Goals as goal

pub returns-in_default : goal.returns-in_default
returns-in_default c = λ q ps ls h.
    let g = c.args.goal.now in let b = c.args.block.now in let r = q.ring in let G = goal_of q ps g in let B = block_of ps b in let L = logs_of ps ls in
    record { claim = others.not_lift r G B ps L c.args.j c.args.row.now c.in_default.not-Theta; sound = tt }

pub returns-then-number-j : goal.returns-then-number-j
returns-then-number-j c = λ q ps ls h.
    let g = c.args.goal.now in let b = c.args.block.now in let r = q.ring in let G = goal_of q ps g in let B = block_of ps b in let L = logs_of ps ls in
    misplaced q ps ls g b (program.Lift c.args.j) c.args.row.now (rows.Theta c.in-Theta.number c.in-Theta.part) c.in-Theta.is
    (placed.off_theta r G B ps L c.args.j c.in-Theta.number c.in-Theta.part c.if-number-j.true)

pub returns-then-j-eq0 : goal.returns-then-j-eq0
returns-then-j-eq0 c = λ q ps ls h.
    let g = c.args.goal.now in let b = c.args.block.now in
    follows_so q ps ls g b (program.Lift c.args.j) (program.Lift 0) c.args.row.now (rows.Theta 0 c.in-Theta.part) c.first_lift.result
    (ap program.Lift c.if-j-eq0.true) (c.in-Theta.is ∙ ap (λ n. rows.Theta n c.in-Theta.part) (c.if-number-j.false ∙ c.if-j-eq0.true)) (c.first_lift.ensures q ps ls c.in-Theta.part h)

pub returns : goal.returns
returns c = λ q ps ls h.
    let g = c.args.goal.now in let b = c.args.block.now in
    follows_so q ps ls g b (program.Lift c.args.j) (program.Lift c.args.j) c.args.row.now (rows.Theta c.args.j c.in-Theta.part) c.later_lift.result
    refl (c.in-Theta.is ∙ ap (λ n. rows.Theta n c.in-Theta.part) c.if-number-j.false) (c.later_lift.ensures q ps ls c.in-Theta.part h)
