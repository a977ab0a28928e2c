use Rattle.std.proofs.Common.{refl}
use Rattle.fm_pres.specs.Tables.{parts_in}
use Rattle.fm_pres.specs.Blocks.{block_of}
use Rattle.fm_conditions.specs.Meanings.{logs_of}
use Rattle.fm_lines.specs.declared.row.Row.TheVariants as rows
use Rattle.fm_places.specs.declared.place.Place.TheVariants as program
use Rattle.fm_places.specs.Meanings.{goal_of}
use Rattle.fm_claims.proofs.Rows as others
use Rattle.fm_claims.proofs.Followed.{follows_so}
use Rattle.fm_claims.proofs.roots.turn.Goals as goal

pub returns-in-Grows : goal.returns-in-Grows
returns-in-Grows c = λ q.
    let ls = c.args.logs.now in let ps = parts_in c.args.table.now in let g = c.args.goal.now in let b = c.args.block.now in
    follows_so q ps ls g b (program.Turn c.args.s) (program.Turn c.args.s) c.args.row.now (rows.Grows c.in-Grows.number c.in-Grows.shown) c.grows.result refl c.in-Grows.is (c.grows.ensures q g)

pub returns-in-Stable : goal.returns-in-Stable
returns-in-Stable c = λ q.
    let ls = c.args.logs.now in let ps = parts_in c.args.table.now in let g = c.args.goal.now in let b = c.args.block.now in
    follows_so q ps ls g b (program.Turn c.args.s) (program.Turn c.args.s) c.args.row.now (rows.Stable c.in-Stable.number c.in-Stable.w) c.stable.result refl c.in-Stable.is (c.stable.ensures q ls)

pub returns-in_default : goal.returns-in_default
returns-in_default c = λ q.
    let ls = c.args.logs.now in let ps = parts_in c.args.table.now in let g = c.args.goal.now in let b = c.args.block.now in let r = q.ring in let G = goal_of q ps g in let B = block_of ps b in let L = logs_of ps ls in
    record { claim = others.not_turn r G B ps L c.args.s c.args.row.now c.in_default.not-Grows c.in_default.not-Stable; sound = tt }
