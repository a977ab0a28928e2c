use Rattle.fm_groebner.proofs.Consequences.{upper_block}
use Rattle.fm_groebner.proofs.laws.graphs.the_first_term_tells_the_upper_block.Goals as goal

pub returns : goal.returns
returns c = λ p n m k o. upper_block p n m o k
