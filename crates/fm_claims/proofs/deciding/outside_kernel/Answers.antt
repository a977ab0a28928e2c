use Rattle.std.proofs.Common.{◌≡◌, suc, [], ◌∷◌, Some, refl, sym, ◌∙◌}
use Rattle.fm_report.specs.Sheets.{numbered}
use Rattle.fm_parts.specs.Conditions.{outside}
use Rattle.fm_judge.specs.Claims.{excluded, stage_of}
use Rattle.fm_pres.specs.Blocks.{block_of}
use Rattle.fm_pres.specs.Tables.{parts_in, part_at}
use Rattle.fm_conditions.specs.Meanings.{logs_of, log_at}
use Rattle.fm_places.specs.Meanings.{goal_of}
use Rattle.fm_claims.proofs.Followed.{numbered_in}
use Rattle.fm_claims.proofs.deciding.outside_kernel.Goals as goal

pub returns-in_default-2-clause-same : goal.returns-in_default-2-clause-same
returns-in_default-2-clause-same c = λ q.
    let ps = parts_in c.args.table.now in let r = q.ring in let G = goal_of q ps c.args.goal.now in let B = block_of ps c.args.block.now in
    let e_k : numbered B.kernels (suc c.args.s) ≡ Some (part_at ps c.in-Some.k) = numbered_in ps _ _ (suc c.args.s) (Some (part_at ps c.in-Some.k)) c.deref.ensures.value (c.in-Some.ensures.part ps) in
    rw e_k (rw c.in_default-2.is at (c.in_ok-x.ensures.excluded ps r G B (stage_of G.aim) (part_at ps c.in-Some.k) (part_at ps c.args.w) (sym c.columns.ensures)))

pub returns-clause-same : goal.returns-clause-same
returns-clause-same c = λ q.
    let ps = parts_in c.args.table.now in let r = q.ring in let G = goal_of q ps c.args.goal.now in let B = block_of ps c.args.block.now in let L = logs_of ps c.args.logs.now in
    let e_k : numbered B.kernels (suc c.args.s) ≡ Some (part_at ps c.in-Some.k) = numbered_in ps _ _ (suc c.args.s) (Some (part_at ps c.in-Some.k)) c.deref.ensures.value (c.in-Some.ensures.part ps) in
    let e : excluded r G B ps L (stage_of G.aim) (part_at ps c.in-Some.k) (part_at ps c.args.w) c.args.log 1 c.args.by.now
    ≡ Some (outside (log_at L c.in-Some-2.x.log) (stage_of G.aim) (part_at ps c.in-Some.k) (part_at ps c.args.w) c.in-Some-2.x.column c.in-Some-2.x.by.items ∷ []) =
    rw c.in-Some-2.is at (c.in_ok-x.ensures.excluded ps r G B (stage_of G.aim) (part_at ps c.in-Some.k) (part_at ps c.args.w) (sym c.columns.ensures)) in
    rw e_k (e ∙ rw (c.stage.ensures q ps) refl)
