use Rattle.fm_vec.proofs.SVectors.{s_vector_part}
use Rattle.fm_vec.proofs.laws.s_vectors_go_by_components.Goals as goal

pub returns : goal.returns
returns c = s_vector_part
