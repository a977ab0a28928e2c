use Rattle.fm_groebner.proofs.Consequences.{reduction_of_vector}
use Rattle.fm_groebner.proofs.laws.bases.a_vector_reduces_to_an_irreducible_rest.Goals as goal

pub returns : goal.returns
returns c = reduction_of_vector
