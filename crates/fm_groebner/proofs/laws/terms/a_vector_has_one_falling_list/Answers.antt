use Rattle.fm_groebner.proofs.NormalForms.{terms_of_vector, terms_unique}
use Rattle.fm_groebner.proofs.laws.terms.a_vector_has_one_falling_list.Goals as goal

pub returns-clause-exists : goal.returns-clause-exists
returns-clause-exists c = terms_of_vector

pub returns-clause-unique : goal.returns-clause-unique
returns-clause-unique c = terms_unique
