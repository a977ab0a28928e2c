use Rattle.fm_complete.proofs.Counting.{completed_counted}
use Rattle.fm_complete.proofs.laws.a_completion_has_at_most_as_many_members_as_units.Goals as goal

pub returns : goal.returns
returns c = λ r inputs units left d e. completed_counted r inputs units left d e
