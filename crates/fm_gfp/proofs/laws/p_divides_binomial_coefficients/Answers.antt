use Rattle.fm_gfp.proofs.Residues.{binomial_divisible}
use Rattle.fm_gfp.proofs.laws.p_divides_binomial_coefficients.Goals as goal

pub returns : goal.returns
returns c = binomial_divisible
