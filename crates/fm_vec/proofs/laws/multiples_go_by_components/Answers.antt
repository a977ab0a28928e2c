use Rattle.fm_vec.proofs.Meaning.{multiple_part}
use Rattle.fm_vec.proofs.laws.multiples_go_by_components.Goals as goal

pub returns : goal.returns
returns c = multiple_part
