use Rattle.fm_claims.proofs.FurtherAims.{none_inverted}
use Rattle.fm_claims.proofs.colons.inverted.Goals as goal

pub returns-in_default : goal.returns-in_default
returns-in_default c = none_inverted c.args.ring c.args.aim.now c.zero.result c.in_default.not-Inverting c.zero.ensures.ring c.zero.ensures.none
