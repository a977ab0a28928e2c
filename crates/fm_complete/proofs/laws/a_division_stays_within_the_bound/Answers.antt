use Rattle.fm_complete.proofs.WithinBound.{divided_bounded}
use Rattle.fm_complete.proofs.laws.a_division_stays_within_the_bound.Goals as goal

pub returns : goal.returns
returns c = divided_bounded
