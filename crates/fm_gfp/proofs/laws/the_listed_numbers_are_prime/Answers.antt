use Rattle.fm_gfp.proofs.Residues.{value_is_prime}
use Rattle.fm_gfp.proofs.laws.the_listed_numbers_are_prime.Goals as goal

pub returns : goal.returns
returns c = value_is_prime
