use Rattle.std.proofs.Common.{sym}
use Rattle.fm_places.proofs.Aims as aims
use Rattle.fm_claims.proofs.told.class.Goals as goal

pub returns-in_default-clause-same : goal.returns-in_default-clause-same
returns-in_default-clause-same c = λ q ps. sym (aims.class_other q ps c.args.aim.now c.in_default.not-Dying c.in_default.not-Living)
