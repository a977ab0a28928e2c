use Rattle.std.proofs.Common.{sym}
use Rattle.fm_places.proofs.Aims as aims
use Rattle.fm_places.proofs.after.first_place.Goals as goal

pub returns-in_default-clause-place : goal.returns-in_default-clause-place
returns-in_default-clause-place c = λ q ps. sym (aims.first_other q ps c.args.aim.now c.in_default.not-Membership)
