use Rattle.std.proofs.Common.{◌≡◌, true, ◌∷◌, Some, None, refl, ◌∙◌}
use Rattle.fm_report.specs.Parts.{Part}
use Rattle.fm_report.specs.Sheets.{numbered}
use Rattle.fm_parts.specs.Conditions.{Log, preimage}
use Rattle.fm_parts.specs.Shapes.{columns_of}
use Rattle.fm_parts.specs.Replays.{is_number}
use Rattle.fm_judge.specs.Claims.{agreeing, codifferential, generated}
use Rattle.fm_judge.specs.Goals.{told_relations}
use Rattle.fm_judge.specs.Places as places
use Rattle.fm_pres.specs.Tables.{parts_in, part_at}
use Rattle.fm_pres.specs.Blocks.{block_of}
use Rattle.fm_conditions.specs.Meanings.{CanBeFormed, IsOperand, operand_part, logs_of, log_at}
use Rattle.fm_lines.specs.declared.row.Row.TheVariants as rows
use Rattle.fm_places.specs.declared.place.Place.TheVariants as program
use Rattle.fm_places.specs.Meanings.{goal_of}
use Rattle.fm_claims.proofs.Followed.{codifferential_in, numbered_in, numbers_in, unnamed, claimed}
use Rattle.fm_claims.proofs.Placed as placed
use Rattle.fm_claims.proofs.Rows as others
use Rattle.fm_claims.proofs.roots.relations.Goals as goal

pub returns-in_default : goal.returns-in_default
returns-in_default c =
    let q = c.args.problem.now in let ls = c.args.logs.now in let ps = parts_in c.args.table.now in let g = c.args.goal.now in let b = c.args.block.now in let r = q.ring in let G = goal_of q ps g in let B = block_of ps b in let L = logs_of ps ls in
    record { claim = others.not_relations r G B ps L c.args.row.now c.in_default.not-Relations; sound = tt }

pub returns-in_default-nth : goal.returns-in_default-nth
returns-in_default-nth c =
    let q = c.args.problem.now in let ls = c.args.logs.now in let ps = parts_in c.args.table.now in let g = c.args.goal.now in let b = c.args.block.now in let r = q.ring in let G = goal_of q ps g in let B = block_of ps b in let L = logs_of ps ls in
    let e : numbered B.cocycles 1 ≡ None = numbered_in ps _ _ 1 None c.deref.ensures.value (c.in_default-nth.ensures.part ps) in
    unnamed q ps ls g b program.Relations c.args.row.now (rows.Relations c.in-Relations.part c.in-Relations.shown) c.in-Relations.is (placed.relations_say r G B ps L c.in-Relations.shown) places.morphism (placed.on_relations r G B ps L c.in-Relations.part c.in-Relations.shown) (rw e refl)

pub returns-in_default-2 : goal.returns-in_default-2
returns-in_default-2 c =
    let q = c.args.problem.now in let ls = c.args.logs.now in let ps = parts_in c.args.table.now in let g = c.args.goal.now in let b = c.args.block.now in let r = q.ring in let G = goal_of q ps g in let B = block_of ps b in let L = logs_of ps ls in
    let e_z : numbered B.cocycles 1 ≡ Some (part_at ps c.in-Some.z) = numbered_in ps _ _ 1 (Some (part_at ps c.in-Some.z)) c.deref.ensures.value (c.in-Some.ensures.part ps) in
    let e : codifferential r B.differentials g.degree ≡ None = codifferential_in r ps _ _ g.degree None c.deref-2.ensures.value (rw c.in_default-2.is at (c.in_ok-d.ensures.part ps)) in
    unnamed q ps ls g b program.Relations c.args.row.now (rows.Relations c.in-Relations.part c.in-Relations.shown) c.in-Relations.is (placed.relations_say r G B ps L c.in-Relations.shown) places.morphism (placed.on_relations r G B ps L c.in-Relations.part c.in-Relations.shown) (rw (e_z, e) refl)

pub returns-in_default-nth-2 : goal.returns-in_default-nth-2
returns-in_default-nth-2 c =
    let q = c.args.problem.now in let ls = c.args.logs.now in let ps = parts_in c.args.table.now in let g = c.args.goal.now in let b = c.args.block.now in let r = q.ring in let G = goal_of q ps g in let B = block_of ps b in let L = logs_of ps ls in
    let e_z : numbered B.cocycles 1 ≡ Some (part_at ps c.in-Some.z) = numbered_in ps _ _ 1 (Some (part_at ps c.in-Some.z)) c.deref.ensures.value (c.in-Some.ensures.part ps) in
    let e_d : codifferential r B.differentials g.degree ≡ Some (operand_part r ps c.in-Some-2.d) = codifferential_in r ps _ _ g.degree (Some (operand_part r ps c.in-Some-2.d)) c.deref-2.ensures.value (rw c.in-Some-2.is at (c.in_ok-d.ensures.part ps)) in
    let e : numbered B.kernels 1 ≡ None = numbered_in ps _ _ 1 None c.deref-3.ensures.value (c.in_default-nth-2.ensures.part ps) in
    unnamed q ps ls g b program.Relations c.args.row.now (rows.Relations c.in-Relations.part c.in-Relations.shown) c.in-Relations.is (placed.relations_say r G B ps L c.in-Relations.shown) places.morphism (placed.on_relations r G B ps L c.in-Relations.part c.in-Relations.shown) (rw (e_z, e_d, e) refl)

pub returns-in_default-generating : goal.returns-in_default-generating
returns-in_default-generating c =
    let q = c.args.problem.now in let ls = c.args.logs.now in let ps = parts_in c.args.table.now in let g = c.args.goal.now in let b = c.args.block.now in let r = q.ring in let G = goal_of q ps g in let B = block_of ps b in let L = logs_of ps ls in
    let e_z : numbered B.cocycles 1 ≡ Some (part_at ps c.in-Some.z) = numbered_in ps _ _ 1 (Some (part_at ps c.in-Some.z)) c.deref.ensures.value (c.in-Some.ensures.part ps) in
    let e_d : codifferential r B.differentials g.degree ≡ Some (operand_part r ps c.in-Some-2.d) = codifferential_in r ps _ _ g.degree (Some (operand_part r ps c.in-Some-2.d)) c.deref-2.ensures.value (rw c.in-Some-2.is at (c.in_ok-d.ensures.part ps)) in
    let e_n : numbered B.kernels 1 ≡ Some (part_at ps c.in-Some-nth.n) = numbered_in ps _ _ 1 (Some (part_at ps c.in-Some-nth.n)) c.deref-3.ensures.value (c.in-Some-nth.ensures.part ps) in
    let e_s : generated r G B ps L (λ (log : Log) (X W : Part). preimage log (part_at ps c.in-Some.z) (operand_part r ps c.in-Some-2.d) (part_at ps c.in-Some-nth.n) X W) c.in-Relations.shown.log c.in-Relations.shown.x c.in-Relations.shown.w (agreeing (told_relations G.aim) (columns_of (part_at ps c.in-Some-nth.n))) ≡ None = c.in_default-generating.ensures.generated r G B (λ (log : Log) (X W : Part). preimage log (part_at ps c.in-Some.z) (operand_part r ps c.in-Some-2.d) (part_at ps c.in-Some-nth.n) X W) (agreeing (told_relations G.aim) (columns_of (part_at ps c.in-Some-nth.n))) in
    unnamed q ps ls g b program.Relations c.args.row.now (rows.Relations c.in-Relations.part c.in-Relations.shown) c.in-Relations.is (placed.relations_say r G B ps L c.in-Relations.shown) places.morphism (placed.on_relations r G B ps L c.in-Relations.part c.in-Relations.shown) (rw (e_z, e_d, e_n) e_s)

pub returns : goal.returns
returns c =
    let q = c.args.problem.now in let ls = c.args.logs.now in let ps = parts_in c.args.table.now in let g = c.args.goal.now in let b = c.args.block.now in let r = q.ring in let G = goal_of q ps g in let B = block_of ps b in let L = logs_of ps ls in
    let e_z : numbered B.cocycles 1 ≡ Some (part_at ps c.in-Some.z) = numbered_in ps _ _ 1 (Some (part_at ps c.in-Some.z)) c.deref.ensures.value (c.in-Some.ensures.part ps) in
    let n_z : is_number ps c.in-Some.z ≡ true = c.in-Some.ensures.there ps (numbers_in ps _ _ c.deref.ensures.value c.requires.block.2) in
    let e_d : codifferential r B.differentials g.degree ≡ Some (operand_part r ps c.in-Some-2.d) = codifferential_in r ps _ _ g.degree (Some (operand_part r ps c.in-Some-2.d)) c.deref-2.ensures.value (rw c.in-Some-2.is at (c.in_ok-d.ensures.part ps)) in
    let n_d : IsOperand r ps c.in-Some-2.d = rw c.in-Some-2.is at (c.in_ok-d.ensures.there ps (numbers_in ps _ _ c.deref-2.ensures.value c.requires.block.0)) in
    let f_d : CanBeFormed r ps c.in-Some-2.d = rw c.in-Some-2.is at (c.in_ok-d.ensures.formable r ps) in
    let e_n : numbered B.kernels 1 ≡ Some (part_at ps c.in-Some-nth.n) = numbered_in ps _ _ 1 (Some (part_at ps c.in-Some-nth.n)) c.deref-3.ensures.value (c.in-Some-nth.ensures.part ps) in
    let n_n : is_number ps c.in-Some-nth.n ≡ true = c.in-Some-nth.ensures.there ps (numbers_in ps _ _ c.deref-3.ensures.value c.requires.block.3) in
    let e_s : generated r G B ps L (λ (log : Log) (X W : Part). preimage log (part_at ps c.in-Some.z) (operand_part r ps c.in-Some-2.d) (part_at ps c.in-Some-nth.n) X W) c.in-Relations.shown.log c.in-Relations.shown.x c.in-Relations.shown.w (agreeing (told_relations G.aim) (columns_of (part_at ps c.in-Some-nth.n))) ≡ Some (preimage (log_at L c.in-Some-generating.s.log) (part_at ps c.in-Some.z) (operand_part r ps c.in-Some-2.d) (part_at ps c.in-Some-nth.n) (part_at ps c.in-Some-generating.s.x) (part_at ps c.in-Some-generating.s.w) ∷ agreeing (told_relations G.aim) (columns_of (part_at ps c.in-Some-nth.n))) = c.in-Some-generating.ensures.generated r G B (λ (log : Log) (X W : Part). preimage log (part_at ps c.in-Some.z) (operand_part r ps c.in-Some-2.d) (part_at ps c.in-Some-nth.n) X W) (agreeing (told_relations G.aim) (columns_of (part_at ps c.in-Some-nth.n))) in
    let t : (is_number ls c.in-Some-generating.s.log ≡ true) × (is_number ps c.in-Some-generating.s.x ≡ true) × (is_number ps c.in-Some-generating.s.w ≡ true) = c.in-Some-generating.ensures.there in
    claimed q ps ls g b program.Relations c.args.row.now (rows.Relations c.in-Relations.part c.in-Relations.shown) c.in-Relations.is (placed.relations_say r G B ps L c.in-Relations.shown) places.morphism (placed.on_relations r G B ps L c.in-Relations.part c.in-Relations.shown) c.claim_agreeing.result _ program.Morphism
    (c.claim_agreeing.ensures r ps ls g.aim (t.0, n_z, n_d, n_n, t.1, t.2) (tt, f_d) tt)
    (rw (e_z, e_d, e_n) (e_s ∙ rw (c.told_relations-told.ensures q ps, c.from-count.ensures, c.columns.ensures) refl)) refl
