use Rattle.std.proofs.Common.{◌≡◌, suc, true, ◌∷◌, Some, None, refl, ◌∙◌}
use Rattle.fm_report.specs.Parts.{Part, flip}
use Rattle.fm_report.specs.Sheets.{numbered}
use Rattle.fm_parts.specs.Conditions.{Log, kernel}
use Rattle.fm_parts.specs.Shapes.{columns_of}
use Rattle.fm_parts.specs.Replays.{is_number}
use Rattle.fm_judge.specs.Claims.{agreeing, generated}
use Rattle.fm_judge.specs.Goals.{told_generators}
use Rattle.fm_judge.specs.Places as places
use Rattle.fm_pres.specs.Tables.{parts_in, part_at}
use Rattle.fm_pres.specs.Blocks.{block_of}
use Rattle.fm_conditions.specs.Meanings.{logs_of, log_at}
use Rattle.fm_lines.specs.declared.row.Row.TheVariants as rows
use Rattle.fm_places.specs.declared.place.Place.TheVariants as program
use Rattle.fm_places.specs.Meanings.{goal_of}
use Rattle.fm_claims.proofs.Followed.{numbered_in, numbered_moved, numbers_in, unnamed, claimed}
use Rattle.fm_claims.proofs.Placed as placed
use Rattle.fm_claims.proofs.Rows as others
use Rattle.fm_claims.proofs.roots.cocycles.Goals as goal

pub returns-in_default : goal.returns-in_default
returns-in_default c = λ q.
    let ls = c.args.logs.now in let ps = parts_in c.args.table.now in let g = c.args.goal.now in let b = c.args.block.now in let r = q.ring in let G = goal_of q ps g in let B = block_of ps b in let L = logs_of ps ls in
    record { claim = others.not_cocycles r G B ps L c.args.row.now c.in_default.not-Cocycles; sound = tt }

pub returns-in_default-nth : goal.returns-in_default-nth
returns-in_default-nth c = λ q.
    let ls = c.args.logs.now in let ps = parts_in c.args.table.now in let g = c.args.goal.now in let b = c.args.block.now in let r = q.ring in let G = goal_of q ps g in let B = block_of ps b in let L = logs_of ps ls in
    let e : numbered B.differentials (suc g.degree) ≡ None = numbered_moved ps _ _ _ g.degree None c.deref.ensures.value c.from.ensures (c.in_default-nth.ensures.part ps) in
    unnamed q ps ls g b program.Cocycles c.args.row.now (rows.Cocycles c.in-Cocycles.part c.in-Cocycles.shown) c.in-Cocycles.is (placed.cocycles_say r G B ps L c.in-Cocycles.shown) places.relations (placed.on_cocycles r G B ps L c.in-Cocycles.part c.in-Cocycles.shown) (rw e refl)

pub returns-in_default-nth-2 : goal.returns-in_default-nth-2
returns-in_default-nth-2 c = λ q.
    let ls = c.args.logs.now in let ps = parts_in c.args.table.now in let g = c.args.goal.now in let b = c.args.block.now in let r = q.ring in let G = goal_of q ps g in let B = block_of ps b in let L = logs_of ps ls in
    let e_d : numbered B.differentials (suc g.degree) ≡ Some (part_at ps c.in-Some.d) = numbered_moved ps _ _ _ g.degree (Some (part_at ps c.in-Some.d)) c.deref.ensures.value c.from.ensures (c.in-Some.ensures.part ps) in
    let e : numbered B.cocycles 1 ≡ None = numbered_in ps _ _ 1 None c.deref-2.ensures.value (c.in_default-nth-2.ensures.part ps) in
    unnamed q ps ls g b program.Cocycles c.args.row.now (rows.Cocycles c.in-Cocycles.part c.in-Cocycles.shown) c.in-Cocycles.is (placed.cocycles_say r G B ps L c.in-Cocycles.shown) places.relations (placed.on_cocycles r G B ps L c.in-Cocycles.part c.in-Cocycles.shown) (rw (e_d, e) refl)

pub returns-in_default-generating : goal.returns-in_default-generating
returns-in_default-generating c = λ q.
    let ls = c.args.logs.now in let ps = parts_in c.args.table.now in let g = c.args.goal.now in let b = c.args.block.now in let r = q.ring in let G = goal_of q ps g in let B = block_of ps b in let L = logs_of ps ls in
    let e_d : numbered B.differentials (suc g.degree) ≡ Some (part_at ps c.in-Some.d) = numbered_moved ps _ _ _ g.degree (Some (part_at ps c.in-Some.d)) c.deref.ensures.value c.from.ensures (c.in-Some.ensures.part ps) in
    let e_z : numbered B.cocycles 1 ≡ Some (part_at ps c.in-Some-nth.z) = numbered_in ps _ _ 1 (Some (part_at ps c.in-Some-nth.z)) c.deref-2.ensures.value (c.in-Some-nth.ensures.part ps) in
    let e_s : generated r G B ps L (λ (log : Log) (X W : Part). kernel log (flip (part_at ps c.in-Some.d)) (part_at ps c.in-Some-nth.z) X W) c.in-Cocycles.shown.log c.in-Cocycles.shown.x c.in-Cocycles.shown.w (agreeing (told_generators G.aim) (columns_of (part_at ps c.in-Some-nth.z))) ≡ None = c.in_default-generating.ensures.generated r G B (λ (log : Log) (X W : Part). kernel log (flip (part_at ps c.in-Some.d)) (part_at ps c.in-Some-nth.z) X W) (agreeing (told_generators G.aim) (columns_of (part_at ps c.in-Some-nth.z))) in
    unnamed q ps ls g b program.Cocycles c.args.row.now (rows.Cocycles c.in-Cocycles.part c.in-Cocycles.shown) c.in-Cocycles.is (placed.cocycles_say r G B ps L c.in-Cocycles.shown) places.relations (placed.on_cocycles r G B ps L c.in-Cocycles.part c.in-Cocycles.shown) (rw (e_d, e_z) e_s)

pub returns : goal.returns
returns c = λ q.
    let ls = c.args.logs.now in let ps = parts_in c.args.table.now in let g = c.args.goal.now in let b = c.args.block.now in let r = q.ring in let G = goal_of q ps g in let B = block_of ps b in let L = logs_of ps ls in
    let e_d : numbered B.differentials (suc g.degree) ≡ Some (part_at ps c.in-Some.d) = numbered_moved ps _ _ _ g.degree (Some (part_at ps c.in-Some.d)) c.deref.ensures.value c.from.ensures (c.in-Some.ensures.part ps) in
    let n_d : is_number ps c.in-Some.d ≡ true = c.in-Some.ensures.there ps (numbers_in ps _ _ c.deref.ensures.value c.requires.block.0) in
    let e_z : numbered B.cocycles 1 ≡ Some (part_at ps c.in-Some-nth.z) = numbered_in ps _ _ 1 (Some (part_at ps c.in-Some-nth.z)) c.deref-2.ensures.value (c.in-Some-nth.ensures.part ps) in
    let n_z : is_number ps c.in-Some-nth.z ≡ true = c.in-Some-nth.ensures.there ps (numbers_in ps _ _ c.deref-2.ensures.value c.requires.block.2) in
    let e_s : generated r G B ps L (λ (log : Log) (X W : Part). kernel log (flip (part_at ps c.in-Some.d)) (part_at ps c.in-Some-nth.z) X W) c.in-Cocycles.shown.log c.in-Cocycles.shown.x c.in-Cocycles.shown.w (agreeing (told_generators G.aim) (columns_of (part_at ps c.in-Some-nth.z))) ≡ Some (kernel (log_at L c.in-Some-generating.s.log) (flip (part_at ps c.in-Some.d)) (part_at ps c.in-Some-nth.z) (part_at ps c.in-Some-generating.s.x) (part_at ps c.in-Some-generating.s.w) ∷ agreeing (told_generators G.aim) (columns_of (part_at ps c.in-Some-nth.z))) = c.in-Some-generating.ensures.generated r G B (λ (log : Log) (X W : Part). kernel log (flip (part_at ps c.in-Some.d)) (part_at ps c.in-Some-nth.z) X W) (agreeing (told_generators G.aim) (columns_of (part_at ps c.in-Some-nth.z))) in
    let t : (is_number ls c.in-Some-generating.s.log ≡ true) × (is_number ps c.in-Some-generating.s.x ≡ true) × (is_number ps c.in-Some-generating.s.w ≡ true) = c.in-Some-generating.ensures.there in
    claimed q ps ls g b program.Cocycles c.args.row.now (rows.Cocycles c.in-Cocycles.part c.in-Cocycles.shown) c.in-Cocycles.is (placed.cocycles_say r G B ps L c.in-Cocycles.shown) places.relations (placed.on_cocycles r G B ps L c.in-Cocycles.part c.in-Cocycles.shown) c.claim_agreeing.result _ program.Relations
    (c.claim_agreeing.ensures r ps ls g.aim (t.0, c.in_ok-a.ensures.there r ps n_d, n_z, t.1, t.2) (c.in_ok-a.ensures.formable r ps tt) tt)
    (rw (e_d, e_z) (e_s ∙ rw (c.in_ok-a.ensures.part r ps, c.told_generators-told.ensures q ps, c.from-count.ensures, c.columns.ensures) refl)) refl
