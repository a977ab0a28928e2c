use Rattle.std.proofs.Common.{sym, ◌∙◌}
use Rattle.fm_claims.proofs.FurtherAims.{support_other}
use Rattle.fm_claims.proofs.annihilating.supporting.Goals as goal

pub returns-in_default : goal.returns-in_default
returns-in_default c = c.new.ensures.items ∙ sym (support_other c.args.aim.now c.in_default.not-Support)
