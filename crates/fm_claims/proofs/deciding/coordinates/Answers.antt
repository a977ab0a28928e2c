use Rattle.std.proofs.Common.{◌≡◌, true, [], ◌∷◌, Some, None, refl, sym, ap, ◌∙◌}
use Rattle.fm_report.specs.Sheets.{numbered}
use Rattle.fm_parts.specs.Replays.{is_number}
use Rattle.fm_judge.specs.Places as places
use Rattle.fm_pres.specs.Tables.{parts_in, part_at}
use Rattle.fm_pres.specs.Blocks.{block_of}
use Rattle.fm_conditions.specs.Meanings.{logs_of}
use Rattle.fm_lines.specs.declared.row.Row.TheVariants as rows
use Rattle.fm_places.specs.declared.place.Place.TheVariants as program
use Rattle.fm_places.specs.Meanings.{goal_of}
use Rattle.fm_claims.proofs.Followed.{numbered_in, numbers_in, unnamed, claimed}
use Rattle.fm_claims.proofs.Placed as placed
use Rattle.fm_claims.proofs.Rows as others
use Rattle.fm_claims.proofs.deciding.coordinates.Goals as goal

pub returns-in_default : goal.returns-in_default
returns-in_default c = λ ls.
    let q = c.args.problem.now in let ps = parts_in c.args.table.now in let g = c.args.goal.now in let b = c.args.block.now in let r = q.ring in let G = goal_of q ps g in let B = block_of ps b in let L = logs_of ps ls in
    record { claim = others.not_coordinates r G B ps L c.args.t c.args.row.now c.in_default.not-Coordinates; sound = tt }

pub returns-in_default-part : goal.returns-in_default-part
returns-in_default-part c = λ ls.
    let q = c.args.problem.now in let ps = parts_in c.args.table.now in let g = c.args.goal.now in let b = c.args.block.now in let r = q.ring in let G = goal_of q ps g in let B = block_of ps b in let L = logs_of ps ls in
    unnamed q ps ls g b (program.Coordinates c.args.t) c.args.row.now (rows.Coordinates c.in-Coordinates.number) c.in-Coordinates.is None places.end (placed.no_coordinates r G B ps L c.args.t c.in-Coordinates.number c.in_default-part.ensures.part) refl

pub returns-in_default-nth : goal.returns-in_default-nth
returns-in_default-nth c = λ ls.
    let q = c.args.problem.now in let ps = parts_in c.args.table.now in let g = c.args.goal.now in let b = c.args.block.now in let r = q.ring in let G = goal_of q ps g in let B = block_of ps b in let L = logs_of ps ls in
    let e : numbered B.cocycles 1 ≡ None = numbered_in ps _ _ 1 None c.deref.ensures.value (c.in_default-nth.ensures.part ps) in
    unnamed q ps ls g b (program.Coordinates c.args.t) c.args.row.now (rows.Coordinates c.in-Coordinates.number) c.in-Coordinates.is (placed.coordinates_say r G B ps L (part_at ps c.in-Some.w)) (places.after_coordinates G.aim (part_at ps c.in-Some.w) c.args.t) (placed.on_coordinates r G B ps L c.args.t c.in-Coordinates.number (part_at ps c.in-Some.w) c.in-Some.ensures.part) (rw e refl)

pub returns : goal.returns
returns c = λ ls.
    let q = c.args.problem.now in let ps = parts_in c.args.table.now in let g = c.args.goal.now in let b = c.args.block.now in let r = q.ring in let G = goal_of q ps g in let B = block_of ps b in let L = logs_of ps ls in
    let e_z : numbered B.cocycles 1 ≡ Some (part_at ps c.in-Some-nth.z) = numbered_in ps _ _ 1 (Some (part_at ps c.in-Some-nth.z)) c.deref.ensures.value (c.in-Some-nth.ensures.part ps) in
    let n_z : is_number ps c.in-Some-nth.z ≡ true = c.in-Some-nth.ensures.there ps (numbers_in ps _ _ c.deref.ensures.value c.requires.block.2) in
    claimed q ps ls g b (program.Coordinates c.args.t) c.args.row.now (rows.Coordinates c.in-Coordinates.number) c.in-Coordinates.is (placed.coordinates_say r G B ps L (part_at ps c.in-Some.w)) (places.after_coordinates G.aim (part_at ps c.in-Some.w) c.args.t) (placed.on_coordinates r G B ps L c.args.t c.in-Coordinates.number (part_at ps c.in-Some.w) c.in-Some.ensures.part) c.claim_one.result _ c.after_coordinates.result
    (c.claim_one.ensures r ps ls g.aim (c.in_ok-condition.ensures.testable r ps ls n_z c.in-Some.ensures.there (c.in_ok-class.ensures.there ps)) (c.in_ok-condition.ensures.formable r ps (c.in_ok-class.ensures.formable r ps)) (c.after_coordinates.ensures.there ps c.in-Some.ensures.there))
    (rw e_z (ap (λ x. Some (x ∷ [])) (sym (c.in_ok-condition.ensures.same r ps ls ∙ rw (c.stage.ensures q ps, c.in_ok-class.ensures.part r ps, c.class.ensures.same q ps) refl)))) (c.after_coordinates.ensures.place q ps)

pub column-requires : goal.column-requires
column-requires c = c.class.ensures.over c.args.problem.now (parts_in c.args.table.now) c.requires.goal.1
