use Rattle.std.proofs.Common.{sym, ◌∙◌}
use Rattle.fm_places.proofs.Aims as aims
use Rattle.fm_claims.proofs.told.member.Goals as goal

pub returns-in_default-clause-same : goal.returns-in_default-clause-same
returns-in_default-clause-same c = λ q ps. c.new.ensures.items ∙ sym (aims.member_other q ps c.args.aim.now c.in_default.not-Membership)
