use Rattle.std.proofs.Common.{◌≡◌, suc, true, [], ◌∷◌, Some, None, refl, sym, ◌∙◌}
use Rattle.fm_report.specs.Parts.{Part, twist}
use Rattle.fm_report.specs.Sheets.{numbered}
use Rattle.fm_parts.specs.Conditions.{Log, preimage}
use Rattle.fm_parts.specs.Replays.{is_number}
use Rattle.fm_judge.specs.Claims.{generated}
use Rattle.fm_judge.specs.Places as places
use Rattle.fm_pres.specs.Tables.{parts_in, part_at}
use Rattle.fm_pres.specs.Blocks.{block_of}
use Rattle.fm_conditions.specs.Meanings.{logs_of, log_at}
use Rattle.fm_lines.specs.declared.row.Row.TheVariants as rows
use Rattle.fm_places.specs.declared.place.Place.TheVariants as program
use Rattle.fm_places.specs.Meanings.{goal_of}
use Rattle.fm_claims.proofs.Followed.{numbered_in, numbered_moved, numbers_in, misplaced, unnamed, claimed}
use Rattle.fm_claims.proofs.Placed as placed
use Rattle.fm_claims.proofs.Rows as others
use Rattle.fm_claims.proofs.roots.chain.Goals as goal

pub returns-in_default : goal.returns-in_default
returns-in_default c = λ q g.
    let ls = c.args.logs.now in let ps = parts_in c.args.table.now in let b = c.args.block.now in let r = q.ring in let G = goal_of q ps g in let B = block_of ps b in let L = logs_of ps ls in
    record { claim = others.not_chain r G B ps L c.args.s c.args.row.now c.in_default.not-Chain; sound = tt }

pub returns-then-number-after : goal.returns-then-number-after
returns-then-number-after c = λ q g.
    let ls = c.args.logs.now in let ps = parts_in c.args.table.now in let b = c.args.block.now in let r = q.ring in let G = goal_of q ps g in let B = block_of ps b in let L = logs_of ps ls in
    misplaced q ps ls g b (program.Chain c.args.s) c.args.row.now (rows.Chain c.in-Chain.number c.in-Chain.part c.in-Chain.shown) c.in-Chain.is (placed.off_chain r G B ps L c.args.s c.in-Chain.number c.in-Chain.part c.in-Chain.shown (λ e. c.if-number-after.true (e ∙ sym c.in_ok-after.ensures)))

pub returns-in_default-nth : goal.returns-in_default-nth
returns-in_default-nth c = λ q g.
    let ls = c.args.logs.now in let ps = parts_in c.args.table.now in let b = c.args.block.now in let r = q.ring in let G = goal_of q ps g in let B = block_of ps b in let L = logs_of ps ls in
    let e : numbered B.morphism 1 ≡ None = numbered_in ps _ _ 1 None c.deref.ensures.value (c.in_default-nth.ensures.part ps) in
    unnamed q ps ls g b (program.Chain c.args.s) c.args.row.now (rows.Chain c.in-Chain.number c.in-Chain.part c.in-Chain.shown) c.in-Chain.is (placed.chain_says r G B ps L c.args.s c.in-Chain.shown) (places.turn c.args.s) (placed.on_chain r G B ps L c.args.s c.in-Chain.number c.in-Chain.part c.in-Chain.shown (c.if-number-after.false ∙ c.in_ok-after.ensures)) (rw e refl)

pub returns-in_default-nth-2 : goal.returns-in_default-nth-2
returns-in_default-nth-2 c = λ q g.
    let ls = c.args.logs.now in let ps = parts_in c.args.table.now in let b = c.args.block.now in let r = q.ring in let G = goal_of q ps g in let B = block_of ps b in let L = logs_of ps ls in
    let e_u : numbered B.morphism 1 ≡ Some (part_at ps c.in-Some.u) = numbered_in ps _ _ 1 (Some (part_at ps c.in-Some.u)) c.deref.ensures.value (c.in-Some.ensures.part ps) in
    let e : numbered B.kernels (suc c.args.s) ≡ None = numbered_in ps _ _ (suc c.args.s) None c.deref-2.ensures.value (c.in_default-nth-2.ensures.part ps) in
    unnamed q ps ls g b (program.Chain c.args.s) c.args.row.now (rows.Chain c.in-Chain.number c.in-Chain.part c.in-Chain.shown) c.in-Chain.is (placed.chain_says r G B ps L c.args.s c.in-Chain.shown) (places.turn c.args.s) (placed.on_chain r G B ps L c.args.s c.in-Chain.number c.in-Chain.part c.in-Chain.shown (c.if-number-after.false ∙ c.in_ok-after.ensures)) (rw (e_u, e) refl)

pub returns-in_default-nth-3 : goal.returns-in_default-nth-3
returns-in_default-nth-3 c = λ q g.
    let ls = c.args.logs.now in let ps = parts_in c.args.table.now in let b = c.args.block.now in let r = q.ring in let G = goal_of q ps g in let B = block_of ps b in let L = logs_of ps ls in
    let e_u : numbered B.morphism 1 ≡ Some (part_at ps c.in-Some.u) = numbered_in ps _ _ 1 (Some (part_at ps c.in-Some.u)) c.deref.ensures.value (c.in-Some.ensures.part ps) in
    let e_k : numbered B.kernels (suc c.args.s) ≡ Some (part_at ps c.in-Some-nth.k) = numbered_in ps _ _ (suc c.args.s) (Some (part_at ps c.in-Some-nth.k)) c.deref-2.ensures.value (c.in-Some-nth.ensures.part ps) in
    let e : numbered B.kernels (suc (suc c.args.s)) ≡ None = numbered_moved ps _ _ _ (suc c.args.s) None c.deref-3.ensures.value c.in_ok-after.ensures (c.in_default-nth-3.ensures.part ps) in
    unnamed q ps ls g b (program.Chain c.args.s) c.args.row.now (rows.Chain c.in-Chain.number c.in-Chain.part c.in-Chain.shown) c.in-Chain.is (placed.chain_says r G B ps L c.args.s c.in-Chain.shown) (places.turn c.args.s) (placed.on_chain r G B ps L c.args.s c.in-Chain.number c.in-Chain.part c.in-Chain.shown (c.if-number-after.false ∙ c.in_ok-after.ensures)) (rw (e_u, e_k, e) refl)

pub returns-in_default-generating : goal.returns-in_default-generating
returns-in_default-generating c = λ q g.
    let ls = c.args.logs.now in let ps = parts_in c.args.table.now in let b = c.args.block.now in let r = q.ring in let G = goal_of q ps g in let B = block_of ps b in let L = logs_of ps ls in
    let e_u : numbered B.morphism 1 ≡ Some (part_at ps c.in-Some.u) = numbered_in ps _ _ 1 (Some (part_at ps c.in-Some.u)) c.deref.ensures.value (c.in-Some.ensures.part ps) in
    let e_k : numbered B.kernels (suc c.args.s) ≡ Some (part_at ps c.in-Some-nth.k) = numbered_in ps _ _ (suc c.args.s) (Some (part_at ps c.in-Some-nth.k)) c.deref-2.ensures.value (c.in-Some-nth.ensures.part ps) in
    let e_c : numbered B.kernels (suc (suc c.args.s)) ≡ Some (part_at ps c.in-Some-nth-2.c) = numbered_moved ps _ _ _ (suc c.args.s) (Some (part_at ps c.in-Some-nth-2.c)) c.deref-3.ensures.value c.in_ok-after.ensures (c.in-Some-nth-2.ensures.part ps) in
    let e_s : generated r G B ps L (λ (log : Log) (X W : Part). preimage log (part_at ps c.in-Some.u) (twist (part_at ps c.in-Some-nth.k) 1) (part_at ps c.in-Some-nth-2.c) X W) c.in-Chain.shown.log c.in-Chain.shown.x c.in-Chain.shown.w [] ≡ None = c.in_default-generating.ensures.generated r G B (λ (log : Log) (X W : Part). preimage log (part_at ps c.in-Some.u) (twist (part_at ps c.in-Some-nth.k) 1) (part_at ps c.in-Some-nth-2.c) X W) [] in
    unnamed q ps ls g b (program.Chain c.args.s) c.args.row.now (rows.Chain c.in-Chain.number c.in-Chain.part c.in-Chain.shown) c.in-Chain.is (placed.chain_says r G B ps L c.args.s c.in-Chain.shown) (places.turn c.args.s) (placed.on_chain r G B ps L c.args.s c.in-Chain.number c.in-Chain.part c.in-Chain.shown (c.if-number-after.false ∙ c.in_ok-after.ensures)) (rw (e_u, e_k, e_c) e_s)

pub returns : goal.returns
returns c = λ q g.
    let ls = c.args.logs.now in let ps = parts_in c.args.table.now in let b = c.args.block.now in let r = q.ring in let G = goal_of q ps g in let B = block_of ps b in let L = logs_of ps ls in
    let e_u : numbered B.morphism 1 ≡ Some (part_at ps c.in-Some.u) = numbered_in ps _ _ 1 (Some (part_at ps c.in-Some.u)) c.deref.ensures.value (c.in-Some.ensures.part ps) in
    let n_u : is_number ps c.in-Some.u ≡ true = c.in-Some.ensures.there ps (numbers_in ps _ _ c.deref.ensures.value c.requires.block.4) in
    let e_k : numbered B.kernels (suc c.args.s) ≡ Some (part_at ps c.in-Some-nth.k) = numbered_in ps _ _ (suc c.args.s) (Some (part_at ps c.in-Some-nth.k)) c.deref-2.ensures.value (c.in-Some-nth.ensures.part ps) in
    let n_k : is_number ps c.in-Some-nth.k ≡ true = c.in-Some-nth.ensures.there ps (numbers_in ps _ _ c.deref-2.ensures.value c.requires.block.3) in
    let e_c : numbered B.kernels (suc (suc c.args.s)) ≡ Some (part_at ps c.in-Some-nth-2.c) = numbered_moved ps _ _ _ (suc c.args.s) (Some (part_at ps c.in-Some-nth-2.c)) c.deref-3.ensures.value c.in_ok-after.ensures (c.in-Some-nth-2.ensures.part ps) in
    let n_c : is_number ps c.in-Some-nth-2.c ≡ true = c.in-Some-nth-2.ensures.there ps (numbers_in ps _ _ c.deref-3.ensures.value c.requires.block.3) in
    let e_s : generated r G B ps L (λ (log : Log) (X W : Part). preimage log (part_at ps c.in-Some.u) (twist (part_at ps c.in-Some-nth.k) 1) (part_at ps c.in-Some-nth-2.c) X W) c.in-Chain.shown.log c.in-Chain.shown.x c.in-Chain.shown.w [] ≡ Some (preimage (log_at L c.in-Some-generating.g.log) (part_at ps c.in-Some.u) (twist (part_at ps c.in-Some-nth.k) 1) (part_at ps c.in-Some-nth-2.c) (part_at ps c.in-Some-generating.g.x) (part_at ps c.in-Some-generating.g.w) ∷ []) = c.in-Some-generating.ensures.generated r G B (λ (log : Log) (X W : Part). preimage log (part_at ps c.in-Some.u) (twist (part_at ps c.in-Some-nth.k) 1) (part_at ps c.in-Some-nth-2.c) X W) [] in
    let t : (is_number ls c.in-Some-generating.g.log ≡ true) × (is_number ps c.in-Some-generating.g.x ≡ true) × (is_number ps c.in-Some-generating.g.w ≡ true) = c.in-Some-generating.ensures.there in
    claimed q ps ls g b (program.Chain c.args.s) c.args.row.now (rows.Chain c.in-Chain.number c.in-Chain.part c.in-Chain.shown) c.in-Chain.is (placed.chain_says r G B ps L c.args.s c.in-Chain.shown) (places.turn c.args.s) (placed.on_chain r G B ps L c.args.s c.in-Chain.number c.in-Chain.part c.in-Chain.shown (c.if-number-after.false ∙ c.in_ok-after.ensures)) c.claim_one.result _ (program.Turn c.args.s)
    (c.claim_one.ensures r ps ls g.aim (t.0, n_u, c.in_ok-b.ensures.there r ps n_k, n_c, t.1, t.2) (tt, c.in_ok-b.ensures.formable r ps tt) tt)
    (rw (e_u, e_k, e_c) (e_s ∙ rw (c.in_ok-b.ensures.part r ps) refl)) refl
