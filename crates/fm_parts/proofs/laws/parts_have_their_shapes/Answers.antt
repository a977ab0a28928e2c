use Rattle.fm_parts.proofs.Shapes.{part_shape}
use Rattle.fm_parts.proofs.laws.parts_have_their_shapes.Goals as goal

pub returns : goal.returns
returns c = part_shape
