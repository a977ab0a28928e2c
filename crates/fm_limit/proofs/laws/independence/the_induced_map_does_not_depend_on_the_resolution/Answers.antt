use Rattle.fm_limit.proofs.IndependenceWords.{one_map_words, onto_after_words, onto_map_words, zero_map_words}
use Rattle.fm_limit.proofs.laws.independence.the_induced_map_does_not_depend_on_the_resolution.Goals as goal

pub returns-clause-zero : goal.returns-clause-zero
returns-clause-zero c = λ p n i I J I2 J2 ls ms h w. zero_map_words p n (h.inner).first (h.outer).first (h.inner).second (h.outer).second (h.inner).there (h.inner).back (h.outer).there (h.outer).back h.first h.second w

pub returns-clause-one_to_one : goal.returns-clause-one_to_one
returns-clause-one_to_one c = λ p n i I J I2 J2 ls ms h w. one_map_words p n (h.inner).first (h.outer).first (h.inner).second (h.outer).second (h.inner).there (h.inner).back (h.outer).there (h.outer).back h.first h.second w

pub returns-clause-onto : goal.returns-clause-onto
returns-clause-onto c = λ p n i I J I2 J2 ls ms h w. onto_map_words p n (h.inner).first (h.outer).first (h.inner).second (h.outer).second (h.inner).there (h.inner).back (h.outer).there (h.outer).back h.first h.second w

pub returns-clause-moves : goal.returns-clause-moves
returns-clause-moves c = λ p n i I J I2 J2 ls ms h w. onto_after_words p n (h.inner).first (h.outer).first (h.inner).second (h.outer).second (h.inner).there (h.inner).back (h.outer).there (h.outer).back h.first h.second w
