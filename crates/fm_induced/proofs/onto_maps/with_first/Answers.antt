use Rattle.std.proofs.Common.{refl, subst}
use Rattle.fm_induced.specs.Joins.{IsJoinedOver}
use Rattle.fm_induced.proofs.onto_maps.with_first.Goals as goal

pub returns-in-Whole-clause-over : goal.returns-in-Whole-clause-over
returns-in-Whole-clause-over c = (refl, subst (IsJoinedOver c.args.first) c.in-Whole.is c.requires.over)

pub returns-in-Stable-clause-over : goal.returns-in-Stable-clause-over
returns-in-Stable-clause-over c = (refl, subst (IsJoinedOver c.args.first) c.in-Stable.is c.requires.over)
