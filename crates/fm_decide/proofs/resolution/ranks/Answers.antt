use Rattle.fm_decide.proofs.Differentials.{ranks_done}
use Rattle.fm_decide.proofs.resolution.ranks.Goals as goal

pub returns-in_default : goal.returns-in_default
returns-in_default c = ranks_done c.args.x.now.first.matrix.ring c.args.x.now _ _ c.in_default.ensures.cases c.generators.invariant
