use Rattle.fm_limit.proofs.ChainWords.{some_steps_words, steps_words}
use Rattle.fm_limit.proofs.laws.chains.steps_from_any_stage.Goals as goal

pub returns-clause-steps : goal.returns-clause-steps
returns-clause-steps c = λ p n U K C. steps_words p n C

pub returns-clause-some_number : goal.returns-clause-some_number
returns-clause-some_number c = λ p n U K C. some_steps_words p n C
