use Rattle.fm_algebra.proofs.TwistWords.{twist_one_to_one}
use Rattle.fm_algebra.proofs.laws.twists.twists_are_one_to_one.Goals as goal

pub returns : goal.returns
returns c = twist_one_to_one
