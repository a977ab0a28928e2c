use Rattle.fm_vec.proofs.Meaning.{plus_part}
use Rattle.fm_vec.proofs.laws.sums_go_by_components.Goals as goal

pub returns : goal.returns
returns c = plus_part
