use Rattle.fm_groebner.proofs.TermWords.{same_vectors}
use Rattle.fm_groebner.proofs.laws.terms.a_vector_is_its_components.Goals as goal

pub returns : goal.returns
returns c = same_vectors
