use Rattle.fm_complete.proofs.WithinBound.{completed_bounded}
use Rattle.fm_complete.proofs.laws.a_completion_stays_within_the_bound.Goals as goal

pub returns : goal.returns
returns c = λ r inputs units left d w e. completed_bounded r inputs w units left d e
