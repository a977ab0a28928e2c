use Rattle.std.proofs.Common.{ap, ◌∙◌, sym}
use Rattle.fm_gfp.specs.Primes.{prime_of}
use Rattle.fm_gfp.proofs.Residues.{prime_of_value, value_of_prime}
use Rattle.fm_gfp.proofs.laws.primes_are_found_by_their_numbers.Goals as goal

pub returns : goal.returns
returns c = λ p n. (λ h. value_of_prime n p h, λ h. ap prime_of (sym h) ∙ prime_of_value p)
