use Rattle.fm_limit.proofs.ChainWords.{goes_on_words, finite_rises_words, finite_steps_words, finite_some_steps_words}
use Rattle.fm_limit.proofs.laws.chains.a_chain_goes_on_as_itself_after_its_repeat.Goals as goal

pub returns-clause-whole : goal.returns-clause-whole
returns-clause-whole c = λ p n U Ks t X. goes_on_words p n X.square X.begins X.chain X.repeats

pub returns-clause-rises : goal.returns-clause-rises
returns-clause-rises c = λ p n U Ks t X. finite_rises_words p n X.square X.begins X.chain X.repeats

pub returns-clause-steps : goal.returns-clause-steps
returns-clause-steps c = λ p n U Ks t X. finite_steps_words p n X.square X.begins X.chain X.repeats

pub returns-clause-some_number : goal.returns-clause-some_number
returns-clause-some_number c = λ p n U Ks t X. finite_some_steps_words p n X.square X.begins X.chain X.repeats
