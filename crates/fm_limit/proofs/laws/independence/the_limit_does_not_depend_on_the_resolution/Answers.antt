use Rattle.fm_limit.proofs.IndependenceWords.{annihilates_words, enough_words, support_words, vanishes_words, zero_words}
use Rattle.fm_limit.proofs.laws.independence.the_limit_does_not_depend_on_the_resolution.Goals as goal

pub returns-clause-zero : goal.returns-clause-zero
returns-clause-zero c = λ p n i I J h. zero_words p n h.first h.second h.there h.back

pub returns-clause-inverting : goal.returns-clause-inverting
returns-clause-inverting c = λ p n i I J h. vanishes_words p n h.first h.second h.there h.back

pub returns-clause-annihilators : goal.returns-clause-annihilators
returns-clause-annihilators c = λ p n i I J h. annihilates_words p n h.first h.second h.there h.back

pub returns-clause-moves : goal.returns-clause-moves
returns-clause-moves c = λ p n i I J h. enough_words p n h.first h.second h.there h.back

pub returns-clause-support : goal.returns-clause-support
returns-clause-support c = λ p n i I J h. support_words p n h.first h.second h.there h.back
