use Rattle.std.proofs.Common.{◌≡◌, ◌≤◌, true, [], ◌∷◌, Some, None, refl, sym, ap, ◌∙◌, subst}
use Rattle.fm_vec.specs.Components.{AreOver}
use Rattle.fm_parts.specs.Conditions.{outside}
use Rattle.fm_parts.specs.Replays.{is_number}
use Rattle.fm_judge.specs.Claims.{column_part, excluded, member_of}
use Rattle.fm_judge.specs.Places as places
use Rattle.fm_pres.specs.Tables.{parts_in, part_at}
use Rattle.fm_pres.specs.Blocks.{block_of}
use Rattle.fm_conditions.specs.Meanings.{logs_of, log_at}
use Rattle.fm_lines.specs.declared.row.Row.TheVariants as rows
use Rattle.fm_places.specs.declared.place.Place.TheVariants as program
use Rattle.fm_places.specs.Meanings.{goal_of}
use Rattle.fm_claims.proofs.Followed.{unnamed, claimed}
use Rattle.fm_claims.proofs.Placed as placed
use Rattle.fm_claims.proofs.Rows as others
use Rattle.fm_claims.proofs.Followed.{excluded_in}
use Rattle.fm_claims.proofs.membership.foreign.Goals as goal

pub returns-in_default : goal.returns-in_default
returns-in_default c = λ b.
    let q = c.args.problem.now in let ls = c.args.logs.now in let ps = parts_in c.args.table.now in let g = c.args.goal.now in let r = q.ring in let G = goal_of q ps g in let B = block_of ps b in let L = logs_of ps ls in
    record { claim = others.not_foreign r G B ps L (part_at ps c.args.d) c.args.row.now c.in_default.not-Foreign; sound = tt }

pub returns-in_default-2 : goal.returns-in_default-2
returns-in_default-2 c = λ b.
    let q = c.args.problem.now in let ls = c.args.logs.now in let ps = parts_in c.args.table.now in let g = c.args.goal.now in let r = q.ring in let G = goal_of q ps g in let B = block_of ps b in let L = logs_of ps ls in
    let e : excluded r G B ps L 0 (part_at ps c.args.d) (column_part (member_of G.aim)) c.in-Foreign.log 1 c.in-Foreign.by.items ≡ None = excluded_in r G B ps L 0 (part_at ps c.args.d) (column_part (member_of G.aim)) c.in-Foreign.log 1 _ _ None c.deref-2.ensures.value (rw c.in_default-2.is at (c.in_ok-x.ensures.excluded ps r G B 0 (part_at ps c.args.d) (column_part (member_of G.aim)) refl)) in
    unnamed q ps ls g b (program.Foreign c.args.d) c.args.row.now (rows.Foreign c.in-Foreign.log c.in-Foreign.by) c.in-Foreign.is (excluded r G B ps L 0 (part_at ps c.args.d) (column_part (member_of G.aim)) c.in-Foreign.log 1 c.in-Foreign.by.items) places.end (placed.on_foreign r G B ps L (part_at ps c.args.d) c.in-Foreign.log c.in-Foreign.by) (e)

pub returns : goal.returns
returns c = λ b.
    let q = c.args.problem.now in let ls = c.args.logs.now in let ps = parts_in c.args.table.now in let g = c.args.goal.now in let r = q.ring in let G = goal_of q ps g in let B = block_of ps b in let L = logs_of ps ls in
    let e : excluded r G B ps L 0 (part_at ps c.args.d) (column_part (member_of G.aim)) c.in-Foreign.log 1 c.in-Foreign.by.items ≡ Some (outside (log_at L c.in-Some.x.log) 0 (part_at ps c.args.d) (column_part (member_of G.aim)) c.in-Some.x.column c.in-Some.x.by.items ∷ []) = excluded_in r G B ps L 0 (part_at ps c.args.d) (column_part (member_of G.aim)) c.in-Foreign.log 1 _ _ (Some (outside (log_at L c.in-Some.x.log) 0 (part_at ps c.args.d) (column_part (member_of G.aim)) c.in-Some.x.column c.in-Some.x.by.items ∷ [])) c.deref-2.ensures.value (rw c.in-Some.is at (c.in_ok-x.ensures.excluded ps r G B 0 (part_at ps c.args.d) (column_part (member_of G.aim)) refl)) in
    let t : (is_number ls c.in-Some.x.log ≡ true) × (1 ≤ c.in-Some.x.column) = rw c.in-Some.is at c.in_ok-x.ensures.there in
    claimed q ps ls g b (program.Foreign c.args.d) c.args.row.now (rows.Foreign c.in-Foreign.log c.in-Foreign.by) c.in-Foreign.is (excluded r G B ps L 0 (part_at ps c.args.d) (column_part (member_of G.aim)) c.in-Foreign.log 1 c.in-Foreign.by.items) places.end (placed.on_foreign r G B ps L (part_at ps c.args.d) c.in-Foreign.log c.in-Foreign.by) c.claim_one.result _ program.End
    (c.claim_one.ensures r ps ls g.aim (t.0, c.requires.d, c.in_ok-f-2.ensures.there ps, t.1) (tt, c.in_ok-f-2.ensures.formable r ps) tt)
    (e ∙ ap (λ V. Some (outside (log_at L c.in-Some.x.log) 0 (part_at ps c.args.d) V c.in-Some.x.column c.in-Some.x.by.items ∷ [])) (sym (c.in_ok-f-2.ensures.part r ps ∙ ap column_part (c.deref.ensures.value ∙ c.in_ok-f.ensures.same q ps)))) (refl)

pub column-requires : goal.column-requires
column-requires c =
    let q = c.args.problem.now in
    subst (AreOver q.ring) (sym c.deref.ensures.value) (c.in_ok-f.ensures.over q (parts_in c.args.table.now) c.requires.goal.1)
