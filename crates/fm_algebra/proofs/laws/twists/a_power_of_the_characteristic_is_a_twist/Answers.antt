use Rattle.fm_algebra.proofs.TwistWords.{power_is_twist, prime_power_is_twist}
use Rattle.fm_algebra.proofs.laws.twists.a_power_of_the_characteristic_is_a_twist.Goals as goal

pub returns-clause-prime : goal.returns-clause-prime
returns-clause-prime c = prime_power_is_twist

pub returns-clause-prime_power : goal.returns-clause-prime_power
returns-clause-prime_power c = power_is_twist
