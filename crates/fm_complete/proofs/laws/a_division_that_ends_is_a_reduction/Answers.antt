use Rattle.fm_complete.proofs.HeadReductions.{division}
use Rattle.fm_complete.proofs.laws.a_division_that_ends_is_a_reduction.Goals as goal

pub returns-clause-reduces : goal.returns-clause-reduces
returns-clause-reduces c = λ r m units left members v x vectors vector e. (division r m members vectors units left v x vector e).reduces

pub returns-clause-irreducible : goal.returns-clause-irreducible
returns-clause-irreducible c = λ r m units left members v x vectors vector e. (division r m members vectors units left v x vector e).irreducible
