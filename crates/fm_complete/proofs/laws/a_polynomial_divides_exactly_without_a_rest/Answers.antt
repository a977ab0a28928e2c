use Rattle.fm_complete.proofs.Principal.{principal}
use Rattle.fm_complete.proofs.laws.a_polynomial_divides_exactly_without_a_rest.Goals as goal

pub returns : goal.returns
returns c = principal
