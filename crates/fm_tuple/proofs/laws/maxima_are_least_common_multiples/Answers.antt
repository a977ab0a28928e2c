use Rattle.fm_tuple.proofs.TupleDivisors.{divides_maximum, maximum_divides}
use Rattle.fm_tuple.proofs.laws.maxima_are_least_common_multiples.Goals as goal

pub returns-clause-multiple : goal.returns-clause-multiple
returns-clause-multiple c = divides_maximum

pub returns-clause-least : goal.returns-clause-least
returns-clause-least c = maximum_divides
