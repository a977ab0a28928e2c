use Rattle.std.proofs.Common.{sym}
use Rattle.fm_places.proofs.Aims as aims
use Rattle.fm_claims.proofs.told.told_rank.Goals as goal

pub returns-in_default : goal.returns-in_default
returns-in_default c = λ q ps. sym (aims.rank_other q ps c.args.aim.now c.args.j c.in_default.not-Resolution)
