use Rattle.fm_parts.proofs.Judged.{judged_say}
use Rattle.fm_parts.proofs.laws.conditions_that_hold_are_true.Goals as goal

pub returns : goal.returns
returns c = judged_say
