use Rattle.std.proofs.Common.{subst}
use Rattle.fm_complete.specs.Divisions.{terms_of}
use Rattle.fm_replay.specs.Kept.{Entered}
use Rattle.fm_replay.proofs.Entries.{input_entry, pair_entry, skip_entry}
use Rattle.fm_replay.proofs.replay.Replay.enter.Goals as goal

pub returns-in-Input-clause-enters : goal.returns-in-Input-clause-enters
returns-in-Input-clause-enters c s kept =
    subst (λ said. Entered c.enter_input.new.self c.enter_input.result said)
    (input_entry c.args.self.now.ring (terms_of c.args.inputs.now) s c.args.entry.now c.in-Input.k c.deref.result.now c.in-Input.is c.deref.ensures.value)
    (c.enter_input.ensures.enters s kept)

pub returns-in-Pair-clause-enters : goal.returns-in-Pair-clause-enters
returns-in-Pair-clause-enters c s kept =
    let inputs = terms_of c.args.inputs.now in
    subst (λ said. Entered c.enter_pair.new.self c.enter_pair.result said)
    (pair_entry c.args.self.now.ring inputs s c.args.entry.now c.in-Pair.a c.in-Pair.b c.deref-in-Pair.result.now c.in-Pair.is c.deref-in-Pair.ensures.value)
    (c.enter_pair.ensures.enters inputs s kept)

pub returns-in-Skip-clause-enters : goal.returns-in-Skip-clause-enters
returns-in-Skip-clause-enters c s kept =
    let inputs = terms_of c.args.inputs.now in
    subst (λ said. Entered c.enter_skip.new.self c.enter_skip.result said)
    (skip_entry c.args.self.now.ring inputs s c.args.entry.now c.in-Skip.a c.in-Skip.b c.in-Skip.k c.in-Skip.is)
    (c.enter_skip.ensures.enters inputs s kept)
