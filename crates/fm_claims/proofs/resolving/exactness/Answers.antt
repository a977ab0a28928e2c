use Rattle.std.proofs.Common.{◌≡◌, suc, true, [], ◌∷◌, Some, None, refl, sym, ap, ◌∙◌}
use Rattle.fm_report.specs.Parts.{Part}
use Rattle.fm_report.specs.Sheets.{numbered}
use Rattle.fm_parts.specs.Conditions.{Log, kernel}
use Rattle.fm_parts.specs.Replays.{is_number}
use Rattle.fm_judge.specs.Claims.{generated}
use Rattle.fm_judge.specs.Places as places
use Rattle.fm_pres.specs.Tables.{parts_in, part_at}
use Rattle.fm_pres.specs.Blocks.{block_of}
use Rattle.fm_conditions.specs.Meanings.{logs_of, log_at}
use Rattle.fm_lines.specs.declared.row.Row.TheVariants as rows
use Rattle.fm_places.specs.declared.place.Place.TheVariants as program
use Rattle.fm_places.specs.Meanings.{goal_of}
use Rattle.fm_claims.proofs.Followed.{numbered_in, numbers_in, misplaced, unnamed, claimed, numbered_moved}
use Rattle.fm_claims.proofs.Placed as placed
use Rattle.fm_claims.proofs.Rows as others
use Rattle.fm_claims.proofs.resolving.exactness.Goals as goal

pub returns-in_default : goal.returns-in_default
returns-in_default c = λ q.
    let ls = c.args.logs.now in let ps = parts_in c.args.table.now in let g = c.args.goal.now in let b = c.args.block.now in let r = q.ring in let G = goal_of q ps g in let B = block_of ps b in let L = logs_of ps ls in
    record { claim = others.not_exactness r G B ps L c.args.j c.args.row.now c.in_default.not-Exact; sound = tt }

pub returns-then-number-after : goal.returns-then-number-after
returns-then-number-after c = λ q.
    let ls = c.args.logs.now in let ps = parts_in c.args.table.now in let g = c.args.goal.now in let b = c.args.block.now in let r = q.ring in let G = goal_of q ps g in let B = block_of ps b in let L = logs_of ps ls in
    misplaced q ps ls g b (program.Exactness c.args.j) c.args.row.now (rows.Exact c.in-Exact.number c.in-Exact.shown) c.in-Exact.is
    (placed.off_exact r G B ps L c.args.j c.in-Exact.number c.in-Exact.shown (λ e. c.if-number-after.true (e ∙ sym c.in_ok-after.ensures)))

pub returns-in_default-nth : goal.returns-in_default-nth
returns-in_default-nth c = λ q.
    let ls = c.args.logs.now in let ps = parts_in c.args.table.now in let g = c.args.goal.now in let b = c.args.block.now in let r = q.ring in let G = goal_of q ps g in let B = block_of ps b in let L = logs_of ps ls in
    let e : numbered B.differentials (suc c.args.j) ≡ None = numbered_in ps _ _ (suc c.args.j) None c.deref.ensures.value (c.in_default-nth.ensures.part ps) in
    unnamed q ps ls g b (program.Exactness c.args.j) c.args.row.now (rows.Exact c.in-Exact.number c.in-Exact.shown) c.in-Exact.is
    (placed.exact_says r G B ps L c.args.j c.in-Exact.shown) (places.after_exact G (suc c.args.j))
    (placed.on_exact r G B ps L c.args.j c.in-Exact.number c.in-Exact.shown (c.if-number-after.false ∙ c.in_ok-after.ensures)) (rw e refl)

pub returns-in_default-nth-2 : goal.returns-in_default-nth-2
returns-in_default-nth-2 c = λ q.
    let ls = c.args.logs.now in let ps = parts_in c.args.table.now in let g = c.args.goal.now in let b = c.args.block.now in let r = q.ring in let G = goal_of q ps g in let B = block_of ps b in let L = logs_of ps ls in
    let e_a : numbered B.differentials (suc c.args.j) ≡ Some (part_at ps c.in-Some.a) = numbered_in ps _ _ (suc c.args.j) (Some (part_at ps c.in-Some.a)) c.deref.ensures.value (c.in-Some.ensures.part ps) in
    let e : numbered B.differentials (suc (suc c.args.j)) ≡ None =
    numbered_moved ps _ _ _ (suc c.args.j) None c.deref-2.ensures.value c.in_ok-after.ensures (c.in_default-nth-2.ensures.part ps) in
    unnamed q ps ls g b (program.Exactness c.args.j) c.args.row.now (rows.Exact c.in-Exact.number c.in-Exact.shown) c.in-Exact.is
    (placed.exact_says r G B ps L c.args.j c.in-Exact.shown) (places.after_exact G (suc c.args.j))
    (placed.on_exact r G B ps L c.args.j c.in-Exact.number c.in-Exact.shown (c.if-number-after.false ∙ c.in_ok-after.ensures)) (rw (e_a, e) refl)

pub returns-in_default-generating : goal.returns-in_default-generating
returns-in_default-generating c = λ q.
    let ls = c.args.logs.now in let ps = parts_in c.args.table.now in let g = c.args.goal.now in let b = c.args.block.now in let r = q.ring in let G = goal_of q ps g in let B = block_of ps b in let L = logs_of ps ls in
    let e_a : numbered B.differentials (suc c.args.j) ≡ Some (part_at ps c.in-Some.a) = numbered_in ps _ _ (suc c.args.j) (Some (part_at ps c.in-Some.a)) c.deref.ensures.value (c.in-Some.ensures.part ps) in
    let e_c : numbered B.differentials (suc (suc c.args.j)) ≡ Some (part_at ps c.in-Some-nth.c) =
    numbered_moved ps _ _ _ (suc c.args.j) (Some (part_at ps c.in-Some-nth.c)) c.deref-2.ensures.value c.in_ok-after.ensures (c.in-Some-nth.ensures.part ps) in
    let says = λ (log : Log) (X W : Part). kernel log (part_at ps c.in-Some.a) (part_at ps c.in-Some-nth.c) X W in
    let e_s : generated r G B ps L says c.in-Exact.shown.log c.in-Exact.shown.x c.in-Exact.shown.w [] ≡ None =
    c.in_default-generating.ensures.generated r G B says [] in
    unnamed q ps ls g b (program.Exactness c.args.j) c.args.row.now (rows.Exact c.in-Exact.number c.in-Exact.shown) c.in-Exact.is
    (placed.exact_says r G B ps L c.args.j c.in-Exact.shown) (places.after_exact G (suc c.args.j))
    (placed.on_exact r G B ps L c.args.j c.in-Exact.number c.in-Exact.shown (c.if-number-after.false ∙ c.in_ok-after.ensures)) (rw (e_a, e_c) e_s)

pub returns : goal.returns
returns c = λ q.
    let ls = c.args.logs.now in let ps = parts_in c.args.table.now in let g = c.args.goal.now in let b = c.args.block.now in let r = q.ring in let G = goal_of q ps g in let B = block_of ps b in let L = logs_of ps ls in
    let e_a : numbered B.differentials (suc c.args.j) ≡ Some (part_at ps c.in-Some.a) = numbered_in ps _ _ (suc c.args.j) (Some (part_at ps c.in-Some.a)) c.deref.ensures.value (c.in-Some.ensures.part ps) in
    let n_a : is_number ps c.in-Some.a ≡ true = c.in-Some.ensures.there ps (numbers_in ps _ _ c.deref.ensures.value c.requires.block.0) in
    let e_c : numbered B.differentials (suc (suc c.args.j)) ≡ Some (part_at ps c.in-Some-nth.c) =
    numbered_moved ps _ _ _ (suc c.args.j) (Some (part_at ps c.in-Some-nth.c)) c.deref-2.ensures.value c.in_ok-after.ensures (c.in-Some-nth.ensures.part ps) in
    let n_c : is_number ps c.in-Some-nth.c ≡ true = c.in-Some-nth.ensures.there ps (numbers_in ps _ _ c.deref-2.ensures.value c.requires.block.0) in
    let says = λ (log : Log) (X W : Part). kernel log (part_at ps c.in-Some.a) (part_at ps c.in-Some-nth.c) X W in
    let e_s : generated r G B ps L says c.in-Exact.shown.log c.in-Exact.shown.x c.in-Exact.shown.w []
    ≡ Some (says (log_at L c.in-Some-generating.s.log) (part_at ps c.in-Some-generating.s.x) (part_at ps c.in-Some-generating.s.w) ∷ []) =
    c.in-Some-generating.ensures.generated r G B says [] in
    let t : (is_number ls c.in-Some-generating.s.log ≡ true) × (is_number ps c.in-Some-generating.s.x ≡ true) × (is_number ps c.in-Some-generating.s.w ≡ true) = c.in-Some-generating.ensures.there in
    claimed q ps ls g b (program.Exactness c.args.j) c.args.row.now (rows.Exact c.in-Exact.number c.in-Exact.shown) c.in-Exact.is
    (placed.exact_says r G B ps L c.args.j c.in-Exact.shown) (places.after_exact G (suc c.args.j))
    (placed.on_exact r G B ps L c.args.j c.in-Exact.number c.in-Exact.shown (c.if-number-after.false ∙ c.in_ok-after.ensures))
    c.claim_one.result _ c.after_exact.result
    (c.claim_one.ensures r ps ls g.aim (t.0, n_a, n_c, t.1, t.2) tt (c.after_exact.ensures.there ps))
    (rw (e_a, e_c) e_s) (c.after_exact.ensures.place q ps ∙ ap (places.after_exact G) c.in_ok-after.ensures)
