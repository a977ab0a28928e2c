use Rattle.fm_limit.proofs.ChainWords.{constant_words, rises_words}
use Rattle.fm_limit.proofs.laws.chains.a_chain_rises_and_is_constant_from_its_first_repeat.Goals as goal

pub returns-clause-rises : goal.returns-clause-rises
returns-clause-rises c = λ p n U K C. rises_words p n C

pub returns-clause-constant : goal.returns-clause-constant
returns-clause-constant c = λ p n U K C. constant_words p n C
