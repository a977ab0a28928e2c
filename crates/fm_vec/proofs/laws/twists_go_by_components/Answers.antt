use Rattle.fm_vec.proofs.Meaning.{twisted_part}
use Rattle.fm_vec.proofs.laws.twists_go_by_components.Goals as goal

pub returns : goal.returns
returns c = twisted_part
