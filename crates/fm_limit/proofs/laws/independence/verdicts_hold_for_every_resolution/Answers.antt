use Rattle.fm_limit.proofs.IndependenceWords.{inverting_verdict_words, support_verdict_words, zero_verdict_words}
use Rattle.fm_limit.proofs.laws.independence.verdicts_hold_for_every_resolution.Goals as goal

pub returns-clause-limit : goal.returns-clause-limit
returns-clause-limit c = λ p n i I J h. zero_verdict_words p n h.first h.second h.there h.back

pub returns-clause-inverting : goal.returns-clause-inverting
returns-clause-inverting c = λ p n i I J h. inverting_verdict_words p n h.first h.second h.there h.back

pub returns-clause-support : goal.returns-clause-support
returns-clause-support c = λ p n i I J h. support_verdict_words p n h.first h.second h.there h.back
