use Rattle.std.proofs.Common.{suc, refl, sym, ap, ◌∙◌}
use Rattle.fm_pres.specs.Tables.{parts_in}
use Rattle.fm_pres.specs.Blocks.{block_of}
use Rattle.fm_conditions.specs.Meanings.{logs_of}
use Rattle.fm_lines.specs.declared.row.Row.TheVariants as rows
use Rattle.fm_places.specs.declared.place.Place.TheVariants as program
use Rattle.fm_places.specs.Meanings.{goal_of}
use Rattle.fm_claims.proofs.Followed.{misplaced, follows_so}
use Rattle.fm_claims.proofs.Placed as placed
use Rattle.fm_claims.proofs.Rows as others
use Rattle.fm_claims.proofs.resolving.differential.Goals as goal

pub returns-in_default : goal.returns-in_default
returns-in_default c = λ ls.
    let q = c.args.problem.now in let ps = parts_in c.args.table.now in let g = c.args.goal.now in let b = c.args.block.now in let r = q.ring in let G = goal_of q ps g in let B = block_of ps b in let L = logs_of ps ls in
    record { claim = others.not_differential r G B ps L c.args.j c.args.row.now c.in_default.not-D; sound = tt }

pub returns-then-number-after : goal.returns-then-number-after
returns-then-number-after c = λ ls.
    let q = c.args.problem.now in let ps = parts_in c.args.table.now in let g = c.args.goal.now in let b = c.args.block.now in let r = q.ring in let G = goal_of q ps g in let B = block_of ps b in let L = logs_of ps ls in
    misplaced q ps ls g b (program.Differential c.args.j) c.args.row.now (rows.D c.in-D.number c.in-D.part) c.in-D.is
    (placed.off_d r G B ps L c.args.j c.in-D.number c.in-D.part (λ e. c.if-number-after.true (e ∙ sym c.in_ok-after.ensures)))

pub returns-then-j-eq0 : goal.returns-then-j-eq0
returns-then-j-eq0 c = λ ls.
    let q = c.args.problem.now in let ps = parts_in c.args.table.now in let g = c.args.goal.now in let b = c.args.block.now in
    follows_so q ps ls g b (program.Differential c.args.j) (program.Differential 0) c.args.row.now (rows.D 1 c.in-D.part) c.first_differential.result
    (ap program.Differential c.if-j-eq0.true) (c.in-D.is ∙ ap (λ n. rows.D n c.in-D.part) (c.if-number-after.false ∙ c.in_ok-after.ensures ∙ ap suc c.if-j-eq0.true)) (c.first_differential.ensures ls c.in-D.part)

pub returns : goal.returns
returns c = λ ls.
    let q = c.args.problem.now in let ps = parts_in c.args.table.now in let g = c.args.goal.now in let b = c.args.block.now in
    follows_so q ps ls g b (program.Differential c.args.j) (program.Differential c.args.j) c.args.row.now (rows.D c.in_ok-after.after c.in-D.part) c.later_differential.result
    refl (c.in-D.is ∙ ap (λ n. rows.D n c.in-D.part) c.if-number-after.false) (c.later_differential.ensures q ls c.in-D.part)
