use Rattle.fm_vec.proofs.Meaning.{minus_part}
use Rattle.fm_vec.proofs.laws.differences_go_by_components.Goals as goal

pub returns : goal.returns
returns c = minus_part
