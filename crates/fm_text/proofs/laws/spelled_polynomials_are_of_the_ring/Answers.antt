use Rattle.fm_text.proofs.SoundPolynomials.{polynomial_sound}
use Rattle.fm_text.proofs.laws.spelled_polynomials_are_of_the_ring.Goals as goal

pub returns : goal.returns
returns c = polynomial_sound
