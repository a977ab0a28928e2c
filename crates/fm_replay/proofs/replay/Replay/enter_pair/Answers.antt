use Rattle.fm_replay.specs.Kept.{after_pair}
use Rattle.fm_replay.proofs.replay.Replay.enter_pair.Goals as goal

pub returns-in-Ok-treat_pair-clause-enters : goal.returns-in-Ok-treat_pair-clause-enters
returns-in-Ok-treat_pair-clause-enters c inputs s kept =
    (after_pair s c.args.a c.args.b c.in-Ok.member, c.in-Ok.ensures.finds inputs s kept, c.in-Ok-treat_pair.ensures.adds s kept)
