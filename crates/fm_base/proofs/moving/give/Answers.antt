use Rattle.fm_base.proofs.Moves.{given}
use Rattle.fm_base.proofs.moving.give.Goals as goal

pub returns : goal.returns
returns c = given c.args.at _ c.args.bytes.now _ _ c.requires.there c.copy_from_slice.ensures.after
