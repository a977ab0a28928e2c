use Rattle.std.proofs.Common.{◌≡◌, Some, None, refl, sym, ap, ◌∙◌, subst}
use Rattle.fm_vec.specs.Components.{AreOver}
use Rattle.fm_report.specs.Sheets.{numbered}
use Rattle.fm_judge.specs.Claims.{column_part}
use Rattle.fm_judge.specs.Places as places
use Rattle.fm_pres.specs.Tables.{parts_in, part_at}
use Rattle.fm_pres.specs.Blocks.{block_of}
use Rattle.fm_conditions.specs.Meanings.{logs_of}
use Rattle.fm_lines.specs.declared.row.Row.TheVariants as rows
use Rattle.fm_places.specs.declared.place.Place.TheVariants as program
use Rattle.fm_places.specs.Meanings.{goal_of}
use Rattle.fm_claims.proofs.Followed.{equal_sides, unnamed, claimed}
use Rattle.fm_claims.proofs.Placed as placed
use Rattle.fm_claims.proofs.Rows as others
use Rattle.fm_claims.proofs.membership.cofactors.Goals as goal

pub returns-in_default : goal.returns-in_default
returns-in_default c = λ ls b.
    let q = c.args.problem.now in let ps = parts_in c.args.table.now in let g = c.args.goal.now in let r = q.ring in let G = goal_of q ps g in let B = block_of ps b in let L = logs_of ps ls in
    record { claim = others.not_cofactors r G B ps L (part_at ps c.args.d) c.args.row.now c.in_default.not-Cofactors; sound = tt }

pub returns-in_default-part : goal.returns-in_default-part
returns-in_default-part c = λ ls b.
    let q = c.args.problem.now in let ps = parts_in c.args.table.now in let g = c.args.goal.now in let r = q.ring in let G = goal_of q ps g in let B = block_of ps b in let L = logs_of ps ls in
    let e : numbered ps c.in-Cofactors.x ≡ None = c.in_default-part.ensures.part in
    unnamed q ps ls g b (program.Cofactors c.args.d) c.args.row.now (rows.Cofactors c.in-Cofactors.x) c.in-Cofactors.is (placed.cofactors_say r G B ps L (part_at ps c.args.d) c.in-Cofactors.x) places.end (placed.on_cofactors r G B ps L (part_at ps c.args.d) c.in-Cofactors.x) (rw e refl)

pub returns : goal.returns
returns c = λ ls b.
    let q = c.args.problem.now in let ps = parts_in c.args.table.now in let g = c.args.goal.now in let r = q.ring in let G = goal_of q ps g in let B = block_of ps b in let L = logs_of ps ls in
    let e : numbered ps c.in-Cofactors.x ≡ Some (part_at ps c.in-Some.x) = c.in-Some.ensures.part in
    claimed q ps ls g b (program.Cofactors c.args.d) c.args.row.now (rows.Cofactors c.in-Cofactors.x) c.in-Cofactors.is (placed.cofactors_say r G B ps L (part_at ps c.args.d) c.in-Cofactors.x) places.end (placed.on_cofactors r G B ps L (part_at ps c.args.d) c.in-Cofactors.x) c.claim_one.result _ program.End
    (c.claim_one.ensures r ps ls g.aim (c.in_ok-product.ensures.there r ps c.requires.d c.in-Some.ensures.there, c.in_ok-f-2.ensures.there ps) (c.in_ok-product.ensures.formable r ps tt tt, c.in_ok-f-2.ensures.formable r ps) tt)
    (rw e (equal_sides _ _ _ _ (sym (c.in_ok-product.ensures.part r ps)) (sym (c.in_ok-f-2.ensures.part r ps ∙ ap column_part (c.deref.ensures.value ∙ c.in_ok-f.ensures.same q ps))))) (refl)

pub column-requires : goal.column-requires
column-requires c =
    let q = c.args.problem.now in
    subst (AreOver q.ring) (sym c.deref.ensures.value) (c.in_ok-f.ensures.over q (parts_in c.args.table.now) c.requires.goal.1)
