use Rattle.fm_replay.specs.Kept.{after_input}
use Rattle.fm_replay.proofs.replay.Replay.enter_input.Goals as goal

pub returns-in-Ok-take_input-clause-enters : goal.returns-in-Ok-take_input-clause-enters
returns-in-Ok-take_input-clause-enters c s kept = (after_input s c.args.k c.in-Ok.member, c.in-Ok.ensures.finds s kept, c.in-Ok-take_input.ensures.adds s kept)
