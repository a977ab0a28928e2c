use Rattle.fm_gfp.proofs.Residues.{inverse_exists}
use Rattle.fm_gfp.proofs.laws.residues_have_inverses.Goals as goal

pub returns : goal.returns
returns c = inverse_exists
