use Rattle.std.proofs.Common.{◌∷◌}
use Rattle.fm_vec.specs.Multiples.{inverse_of}
use Rattle.fm_vec.proofs.Meaning.{scaled_part}
use Rattle.fm_vec.proofs.laws.monic_vectors_go_by_components.Goals as goal

pub returns : goal.returns
returns c = λ r k t ts w. scaled_part r k (inverse_of r t.coeff) (t ∷ ts) w
