use Rattle.fm_limit.proofs.ChainWords.{join_words, relations_words}
use Rattle.fm_limit.proofs.laws.chains.where_a_chain_may_begin.Goals as goal

pub returns-clause-relations : goal.returns-clause-relations
returns-clause-relations c = λ p n i I Z N U. relations_words p n

pub returns-clause-join : goal.returns-clause-join
returns-clause-join c = λ p n i source target ZS NS US ZT NT UT Phi ls S T X Y F. join_words p n S T X Y F
