use Rattle.fm_groebner.proofs.NormalForms.{vector_of_twisted, twisted_falling}
use Rattle.fm_groebner.proofs.laws.terms.twisted_terms_mean_the_twist.Goals as goal

pub returns-clause-vector : goal.returns-clause-vector
returns-clause-vector c = vector_of_twisted

pub returns-clause-falling : goal.returns-clause-falling
returns-clause-falling c = twisted_falling
