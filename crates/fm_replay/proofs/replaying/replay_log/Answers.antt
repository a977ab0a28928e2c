use Rattle.std.proofs.Common.{◌∙◌, ◌++◌, ◌-◌, List, Err, length, map, sym, ap, subst, arith}
use Rattle.fm_complete.specs.declared.entry.Entry.{Entry}
use Rattle.fm_complete.specs.Bases.{entry_value}
use Rattle.fm_complete.specs.Divisions.{terms_of}
use Rattle.fm_parts.specs.Replays.{BadEntry, replay_entry}
use Rattle.fm_replay.specs.Kept.{ReplayValue, Entered}
use Rattle.fm_replay.specs.declared.refusal.Fault.{Fault}
use Rattle.fm_replay.specs.declared.refusal.Refusal.{Refusal}
use Rattle.fm_replay.specs.Endings.{is_exponents}
use Rattle.fm_replay.specs.Refusals.{reason_of}
use Rattle.fm_replay.proofs.LogSteps.{IsUnderWay, begins, goes_on, is_bad, replayed_count}
use Rattle.fm_replay.proofs.replaying.replay_log.Goals as goal

pub entries-init : goal.entries-init
entries-init c =
    let r = c.args.ring in
    let inputs = terms_of c.args.inputs.now in
    let log = map entry_value c.args.log.now in
    record {
      under_way = subst (IsUnderWay r inputs log log) (sym c.new-replay.ensures) (begins r inputs log c.args.rows);
      ring = ap (λ (v : ReplayValue). v.ring) c.new-replay.ensures;
      rows = ap (λ (v : ReplayValue). v.rows) c.new-replay.ensures;
      shorter = omega arith;
    }

pub returns-in-Err-Bad : goal.returns-in-Err-Bad
returns-in-Err-Bad c =
    let r = c.args.ring in
    let inputs = terms_of c.args.inputs.now in
    let log = map entry_value c.args.log.now in
    let e = entry_value c.in-Some.entry.now in
    let later = map entry_value c.in-Some.later.now in
    let w = subst (λ (es : List Entry). IsUnderWay r inputs log (map entry_value es) c.entries.replay) c.in-Some.ensures.cases.0 c.entries.invariant.under_way in
    is_bad r inputs log e later c.entries.replay w (length c.args.log.now - length c.entries.left.now) (reason_of BadEntry c.in-Err-Bad.fault) c.passes_bound.result
    (replayed_count entry_value c.args.log.now c.entries.left.now w.before (w.is ∙ ap (λ (es : List Entry). w.before ++ map entry_value es) (sym c.in-Some.ensures.cases.0)))
    (sym (ap (λ q. replay_entry q inputs w.replay e) c.entries.invariant.ring)
    ∙ subst (λ (x : Refusal). Entered {X = Unit {0}} c.enter.new.self (Err x) (replay_entry c.entries.replay.ring inputs w.replay e)) c.in-Err-Bad.field-0-is (c.in-Err-Bad.ensures.enters w.replay w.kept))
    (c.passes_bound.ensures ∙ ap (λ (f : Fault). is_exponents (reason_of BadEntry f)) c.in-Err-Bad.fault-is)

pub entries-preserved : goal.entries-preserved
entries-preserved c =
    let r = c.args.ring in
    let inputs = terms_of c.args.inputs.now in
    let log = map entry_value c.args.log.now in
    let e = entry_value c.in-Some.entry.now in
    let later = map entry_value c.in-Some.later.now in
    let w = subst (λ (es : List Entry). IsUnderWay r inputs log (map entry_value es) c.entries.replay) c.in-Some.ensures.cases.0 c.entries.invariant.under_way in
    let x = c.in-Ok.ensures.enters w.replay w.kept in
    let shorter = c.entries.invariant.shorter in
    let first = ap (λ (es : List Entry). length es) c.in-Some.ensures.cases.0 in
    record {
      under_way = goes_on r inputs log e later c.entries.replay w c.enter.new.self (x.0, sym (ap (λ q. replay_entry q inputs w.replay e) c.entries.invariant.ring) ∙ x.1, x.2);
      ring = c.in-Ok.ensures.shape.0 ∙ c.entries.invariant.ring;
      rows = c.in-Ok.ensures.shape.1 ∙ c.entries.invariant.rows;
      shorter = omega (arith, shorter, first);
    }
