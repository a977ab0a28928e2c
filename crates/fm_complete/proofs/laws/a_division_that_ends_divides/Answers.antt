use Rattle.fm_complete.proofs.DivisionLaw.{division_says}
use Rattle.fm_complete.proofs.laws.a_division_that_ends_divides.Goals as goal

pub returns-clause-sum : goal.returns-clause-sum
returns-clause-sum c = λ r n members units left v x w h e. (division_says r n members w units left v x h e).whole

pub returns-clause-reduced : goal.returns-clause-reduced
returns-clause-reduced c = λ r n members units left v x w h e. (division_says r n members w units left v x h e).reduced

pub returns-clause-vector : goal.returns-clause-vector
returns-clause-vector c = λ r n members units left v x w h e. (division_says r n members w units left v x h e).vector
