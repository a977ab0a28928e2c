use Rattle.fm_limit.proofs.SameClass.{same_itself_words, same_moved_words, same_trans_words, same_turned_words, zero_is_same_words}
use Rattle.fm_limit.proofs.laws.stages.the_same_in_the_limit.Goals as goal

pub returns-clause-reflexive : goal.returns-clause-reflexive
returns-clause-reflexive c = λ p n i I r. same_itself_words p n r

pub returns-clause-symmetric : goal.returns-clause-symmetric
returns-clause-symmetric c = λ p n i I r. same_turned_words p n r

pub returns-clause-transitive : goal.returns-clause-transitive
returns-clause-transitive c = λ p n i I r. same_trans_words p n r

pub returns-clause-moves : goal.returns-clause-moves
returns-clause-moves c = λ p n i I r. same_moved_words p n r

pub returns-clause-zero : goal.returns-clause-zero
returns-clause-zero c = λ p n i I r. zero_is_same_words p n r
