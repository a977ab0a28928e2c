use Rattle.fm_groebner.proofs.Twists.{groebner_of_twist}
use Rattle.fm_groebner.proofs.Consequences.{twisted_lists}
use Rattle.fm_groebner.proofs.laws.bases.the_twist_of_a_groebner_basis_is_one.Goals as goal

pub returns-clause-vectors : goal.returns-clause-vectors
returns-clause-vectors c = λ p n m o e. groebner_of_twist p n m e o

pub returns-clause-terms : goal.returns-clause-terms
returns-clause-terms c = twisted_lists
