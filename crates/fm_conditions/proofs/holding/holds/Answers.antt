use Rattle.std.proofs.Common.{refl}
use Rattle.fm_parts.specs.Conditions.{holds}
use Rattle.fm_pres.specs.Tables.{parts_in}
use Rattle.fm_conditions.proofs.holding.holds.Goals as goal

pub generates_kernel-requires-clause-log : goal.generates_kernel-requires-clause-log
generates_kernel-requires-clause-log c = c.numbered.ensures.kept c.args.table.now.ring (parts_in c.args.table.now) c.requires.logs

pub generates_preimage-requires-clause-log : goal.generates_preimage-requires-clause-log
generates_preimage-requires-clause-log c = c.numbered-in-Preimage.ensures.kept c.args.table.now.ring (parts_in c.args.table.now) c.requires.logs

pub lies_outside-requires-clause-log : goal.lies_outside-requires-clause-log
lies_outside-requires-clause-log c = c.numbered-in-Outside.ensures.kept c.args.table.now.ring (parts_in c.args.table.now) c.requires.logs

pub returns-in-Follows-clause-judges : goal.returns-in-Follows-clause-judges
unfolding holds
returns-in-Follows-clause-judges c = rw c.in-Follows.is refl

pub returns-in-Agrees-clause-judges : goal.returns-in-Agrees-clause-judges
unfolding holds
returns-in-Agrees-clause-judges c = rw c.in-Agrees.is c.agrees.ensures

pub returns-in-Never-clause-judges : goal.returns-in-Never-clause-judges
unfolding holds
returns-in-Never-clause-judges c = rw c.in-Never.is refl
