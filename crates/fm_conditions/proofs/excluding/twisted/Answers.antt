use Rattle.std.proofs.Common.{◌+◌}
use Rattle.fm_conditions.proofs.AboveZeros.{members_shape}
use Rattle.fm_conditions.proofs.excluding.twisted.Goals as goal

pub returns-in-Ok-clause-shape : goal.returns-in-Ok-clause-shape
returns-in-Ok-clause-shape c = let s = c.args.size in members_shape s.ring (s.rows + s.width) c.in-Ok.members.items c.in-Ok.ensures.members
