use Rattle.fm_gfp.proofs.Residues.{no_zero_divisors}
use Rattle.fm_gfp.proofs.laws.no_zero_divisors.Goals as goal

pub returns : goal.returns
returns c = no_zero_divisors
