use Rattle.fm_text.proofs.PolynomialsRead.{polynomial_read}
use Rattle.fm_text.proofs.laws.printed_polynomials_are_read_back.Goals as goal

pub returns : goal.returns
returns c = polynomial_read
