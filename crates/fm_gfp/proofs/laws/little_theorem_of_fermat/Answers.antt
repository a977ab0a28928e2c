use Rattle.fm_gfp.proofs.Residues.{fermat_of_any}
use Rattle.fm_gfp.proofs.laws.little_theorem_of_fermat.Goals as goal

pub returns : goal.returns
returns c = fermat_of_any
