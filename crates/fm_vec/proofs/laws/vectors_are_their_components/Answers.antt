use Rattle.fm_vec.proofs.Components.{vectors_unique}
use Rattle.fm_vec.proofs.laws.vectors_are_their_components.Goals as goal

pub returns : goal.returns
returns c = vectors_unique
