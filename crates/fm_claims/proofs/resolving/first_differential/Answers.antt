use Rattle.std.proofs.Common.{◌≡◌, true, Some, None, refl, sym, ap, ◌∙◌, Ok}
use Rattle.fm_report.specs.Sheets.{numbered}
use Rattle.fm_parts.specs.Replays.{is_number}
use Rattle.fm_judge.specs.Places as places
use Rattle.fm_pres.specs.Tables.{parts_in, part_at}
use Rattle.fm_pres.specs.Blocks.{block_of}
use Rattle.fm_conditions.specs.Meanings.{logs_of}
use Rattle.fm_lines.specs.declared.row.Row.TheVariants as rows
use Rattle.fm_places.specs.declared.place.Place.TheVariants as program
use Rattle.fm_places.specs.Meanings.{goal_of}
use Rattle.fm_claims.proofs.Followed.{numbered_in, numbers_in, unnamed, claimed}
use Rattle.fm_claims.proofs.Placed as placed
use Rattle.fm_claims.proofs.resolving.first_differential.Goals as goal

pub returns-in_default : goal.returns-in_default
returns-in_default c = λ ls k.
    let q = c.args.problem.now in let ps = parts_in c.args.table.now in let g = c.args.goal.now in let b = c.args.block.now in let r = q.ring in let G = goal_of q ps g in let B = block_of ps b in let L = logs_of ps ls in
    let e : numbered B.differentials 1 ≡ None = numbered_in ps _ _ 1 None c.deref.ensures.value (c.in_default.ensures.part ps) in
    unnamed q ps ls g b (program.Differential 0) (rows.D 1 k) (rows.D 1 k) refl (placed.d_says r G B ps L 0) (places.after_differential G 1) (placed.on_d r G B ps L 0 1 k refl) (rw e refl)

pub returns : goal.returns
returns c = λ ls k.
    let q = c.args.problem.now in let ps = parts_in c.args.table.now in let g = c.args.goal.now in let b = c.args.block.now in let r = q.ring in let G = goal_of q ps g in let B = block_of ps b in let L = logs_of ps ls in
    let e_d : numbered B.differentials 1 ≡ Some (part_at ps c.in-Some.d) = numbered_in ps _ _ 1 (Some (part_at ps c.in-Some.d)) c.deref.ensures.value (c.in-Some.ensures.part ps) in
    let n_d : is_number ps c.in-Some.d ≡ true = c.in-Some.ensures.there ps (numbers_in ps _ _ c.deref.ensures.value c.requires.block.0) in
    claimed q ps ls g b (program.Differential 0) (rows.D 1 k) (rows.D 1 k) refl
    (placed.d_says r G B ps L 0) (places.after_differential G 1)
    (placed.on_d r G B ps L 0 1 k refl) {E = Unit {0}} (Ok c.claim_all.result) _ c.after_differential.result
    (c.claim_all.ensures r ps ls g.aim (c.in_ok-push_agreeing.ensures.testable r ps ls (c.in_ok-conditions.ensures.testable r ps ls (n_d, c.in_ok-generators.ensures.there ps)))
    (c.in_ok-push_agreeing.ensures.formable r ps ls (c.in_ok-conditions.ensures.formable r ps ls (tt, c.in_ok-generators.ensures.formable r ps))) (c.after_differential.ensures.there ps))
    (rw e_d (sym (ap Some (c.in_ok-push_agreeing.ensures.same r ps ls ∙ rw (c.in_ok-conditions.ensures.same r ps ls, c.in_ok-generators.ensures.part r ps, c.generators.ensures, c.told_rank.ensures q ps, c.told_rank-2.ensures q ps, c.from-rank.ensures, c.columns.ensures) refl))))
    (c.after_differential.ensures.place q ps)
