use Rattle.std.proofs.Common.{[], ◌∷◌, Some, None, refl, sym, ap, ◌∙◌}
use Rattle.fm_parts.specs.Conditions.{equal}
use Rattle.fm_judge.specs.Claims.{row_part}
use Rattle.fm_judge.specs.Places as places
use Rattle.fm_pres.specs.Tables.{parts_in, part_at}
use Rattle.fm_pres.specs.Blocks.{block_of}
use Rattle.fm_conditions.specs.Meanings.{logs_of}
use Rattle.fm_lines.specs.declared.row.Row.TheVariants as rows
use Rattle.fm_places.specs.declared.place.Place.TheVariants as program
use Rattle.fm_places.specs.Meanings.{goal_of}
use Rattle.fm_claims.proofs.Followed.{equal_sides, misplaced, unnamed, claimed}
use Rattle.fm_claims.proofs.Placed as placed
use Rattle.fm_claims.proofs.Rows as others
use Rattle.fm_claims.proofs.membership.ideal_row.Goals as goal

pub returns-in_default : goal.returns-in_default
returns-in_default c = λ ls b.
    let q = c.args.problem.now in let ps = parts_in c.args.table.now in let g = c.args.goal.now in let r = q.ring in let G = goal_of q ps g in let B = block_of ps b in let L = logs_of ps ls in
    record { claim = others.not_ideal_row r G B ps L c.args.row.now c.in_default.not-D; sound = tt }

pub returns-then-number-ne1 : goal.returns-then-number-ne1
returns-then-number-ne1 c = λ ls b.
    let q = c.args.problem.now in let ps = parts_in c.args.table.now in let g = c.args.goal.now in let r = q.ring in let G = goal_of q ps g in let B = block_of ps b in let L = logs_of ps ls in
    misplaced q ps ls g b program.IdealRow c.args.row.now (rows.D c.in-D.number c.in-D.d) c.in-D.is (placed.off_row r G B ps L c.in-D.number c.in-D.d c.if-number-ne1.true)

pub returns-in_default-part : goal.returns-in_default-part
returns-in_default-part c = λ ls b.
    let q = c.args.problem.now in let ps = parts_in c.args.table.now in let g = c.args.goal.now in let r = q.ring in let G = goal_of q ps g in let B = block_of ps b in let L = logs_of ps ls in
    unnamed q ps ls g b program.IdealRow c.args.row.now (rows.D c.in-D.number c.in-D.d) c.in-D.is None places.end (placed.no_row r G B ps L c.in-D.number c.in-D.d c.if-number-ne1.false c.in_default-part.ensures.part) refl

pub returns : goal.returns
returns c = λ ls b.
    let q = c.args.problem.now in let ps = parts_in c.args.table.now in let g = c.args.goal.now in let r = q.ring in let G = goal_of q ps g in let B = block_of ps b in let L = logs_of ps ls in
    claimed q ps ls g b program.IdealRow c.args.row.now (rows.D c.in-D.number c.in-D.d) c.in-D.is (Some (equal (part_at ps c.in-Some.d) (row_part G.generators) ∷ [])) (places.after_row G.aim (part_at ps c.in-Some.d)) (placed.on_row r G B ps L c.in-D.number c.in-D.d (part_at ps c.in-Some.d) c.if-number-ne1.false c.in-Some.ensures.part) c.claim_one.result _ c.after_row.result
    (c.claim_one.ensures r ps ls g.aim (c.in-Some.ensures.there, c.in_ok-generators.ensures.there ps) (tt, c.in_ok-generators.ensures.formable r ps) (c.after_row.ensures.there ps c.in-Some.ensures.there))
    (equal_sides _ _ _ _ refl (sym (c.in_ok-generators.ensures.part r ps ∙ ap row_part c.generators.ensures))) (c.after_row.ensures.place q ps)
