use Rattle.fm_groebner.proofs.Vectors.{length_vector}
use Rattle.fm_groebner.proofs.TermWords.{component_append, component_multiple, component_scaled}
use Rattle.fm_groebner.proofs.laws.terms.a_list_of_terms_means_a_vector.Goals as goal

pub returns-clause-size : goal.returns-clause-size
returns-clause-size c = length_vector

pub returns-clause-join : goal.returns-clause-join
returns-clause-join c = component_append

pub returns-clause-multiple : goal.returns-clause-multiple
returns-clause-multiple c = λ p n m k a ts. component_multiple p n m k a ts

pub returns-clause-scaled : goal.returns-clause-scaled
returns-clause-scaled c = λ p n m k ts. component_scaled p n m k ts
