use Rattle.fm_algebra.proofs.HeadWords.{head_says, head_if, zero_or_has_head, one_head_of}
use Rattle.fm_algebra.proofs.laws.heads.the_head_is_the_greatest_tuple.Goals as goal

pub returns-clause-meaning : goal.returns-clause-meaning
returns-clause-meaning c p n R f a = (head_says p n R f a, λ t. head_if p n R f a t.0 t.1 t.2)

pub returns-clause-exists : goal.returns-clause-exists
returns-clause-exists c = zero_or_has_head

pub returns-clause-unique : goal.returns-clause-unique
returns-clause-unique c = one_head_of
