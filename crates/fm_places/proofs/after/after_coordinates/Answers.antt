use Rattle.std.proofs.Common.{sym}
use Rattle.fm_places.proofs.Aims as aims
use Rattle.fm_pres.specs.Tables.{part_at}
use Rattle.fm_places.proofs.after.after_coordinates.Goals as goal

pub returns-in_default-clause-place : goal.returns-in_default-clause-place
returns-in_default-clause-place c = λ q ps. sym (aims.coordinates_other q ps c.args.aim.now (part_at ps c.args.w) c.args.t c.in_default.not-Dying)
