use Rattle.fm_limit.proofs.IndependenceWords.{carried_verdict_words, carried_class_words, carried_killed_words, carried_onto_words, carried_zero_words}
use Rattle.fm_limit.proofs.laws.independence.classes_are_carried_over.Goals as goal

pub returns-clause-class : goal.returns-clause-class
returns-clause-class c = λ p n i I J h ls k. carried_class_words p n h.first h.second k h.there

pub returns-clause-moves : goal.returns-clause-moves
returns-clause-moves c = λ p n i I J h ls k. carried_killed_words p n h.first h.second h.there h.back k

pub returns-clause-zero : goal.returns-clause-zero
returns-clause-zero c = λ p n i I J h ls k. carried_zero_words p n h.first h.second h.there h.back k

pub returns-clause-onto : goal.returns-clause-onto
returns-clause-onto c = λ p n i I J h ls k. carried_onto_words p n h.first h.second h.there h.back k

pub returns-clause-verdict : goal.returns-clause-verdict
returns-clause-verdict c = λ p n i I J h ls k. carried_verdict_words p n h.first h.second h.there h.back k
