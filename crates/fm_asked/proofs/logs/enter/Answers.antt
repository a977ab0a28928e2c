use Rattle.std.proofs.Common.{◌≤◌, ◌∙◌, List, Err, length, refl, sym, ap, subst, arith}
use Rattle.fm_complete.specs.Bases.{entry_value}
use Rattle.fm_complete.specs.Divisions.{terms_of}
use Rattle.fm_complete.specs.declared.entry.Entry.{Entry}
use Rattle.fm_vec.specs.Vectors.{VectorValue}
use Rattle.fm_parts.specs.Replays.{BadEntry, Reason, replay_entry}
use Rattle.fm_replay.specs.Kept.{Entered}
use Rattle.fm_replay.specs.Refusals.{reason_of}
use Rattle.fm_replay.specs.declared.refusal.Refusal.{Refusal}
use Rattle.fm_asked.specs.Narrowing.{MOST}
use Rattle.fm_asked.proofs.NarrowedEntries.{entry_is, inputs_few, members_few}
use Rattle.fm_asked.proofs.logs.enter.Goals as goal

pub returns-in-Ok-enter-clause-entered : goal.returns-in-Ok-enter-clause-entered
returns-in-Ok-enter-clause-entered c w e s kept =
    let p = c.args.log.now.replay in
    let vs = c.args.log.now.inputs.items in
    let entry : Entry = record { start = c.args.start; by = c.in-Ok.by; keep = c.args.keep } in
    let h = c.if-members.false in
    let low : length c.members.result.now ≤ MOST = omega (arith, h) in
    let few = members_few p.members s.members (length c.members.result.now) kept.members (ap length c.members.ensures.members) low in
    let told = entry_is p.ring (terms_of vs) s few (inputs_few vs c.requires.few) w c.args.by.now c.args.keep entry e c.in-Ok.ensures refl
    ∙ ap (λ (us : List VectorValue). replay_entry p.ring (terms_of us) s (entry_value entry)) (sym c.deref.ensures.value) in
    let x = c.in-Ok-enter.ensures.enters s kept in
    (x.0, told ∙ x.1, x.2)

pub returns-clause-entered : goal.returns-clause-entered
returns-clause-entered c w e s kept =
    let p = c.args.log.now.replay in
    let vs = c.args.log.now.inputs.items in
    let entry : Entry = record { start = c.args.start; by = c.in-Ok.by; keep = c.args.keep } in
    let h = c.if-members.false in
    let low : length c.members.result.now ≤ MOST = omega (arith, h) in
    let few = members_few p.members s.members (length c.members.result.now) kept.members (ap length c.members.ensures.members) low in
    let told = entry_is p.ring (terms_of vs) s few (inputs_few vs c.requires.few) w c.args.by.now c.args.keep entry e c.in-Ok.ensures refl
    ∙ ap (λ (us : List VectorValue). replay_entry p.ring (terms_of us) s (entry_value entry)) (sym c.deref.ensures.value) in
    told
    ∙ subst (λ (x : Refusal). Entered {X = Unit {0}} c.enter.new.self (Err x) (replay_entry p.ring (terms_of c.deref.result.now) s (entry_value entry)))
    c.in-Err-Bad.field-0-is (c.in-Err-Bad.ensures.enters s kept)
    ∙ ap (λ (r : Reason). Err r) (sym (c.why.ensures ∙ ap (reason_of BadEntry) c.in-Err-Bad.fault-is))
