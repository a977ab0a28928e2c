use Rattle.fm_groebner.proofs.Consequences.{criterion, criterion_back}
use Rattle.fm_groebner.proofs.Reductions.{s_vector_exists}
use Rattle.fm_groebner.proofs.laws.bases.buchbergers_criterion.Goals as goal

pub returns-clause-sufficient : goal.returns-clause-sufficient
returns-clause-sufficient c = λ p n m o bound members well. criterion p n m o well

pub returns-clause-necessary : goal.returns-clause-necessary
returns-clause-necessary c = λ p n m o bound members well. criterion_back p n m o well

pub returns-clause-exists : goal.returns-clause-exists
returns-clause-exists c = s_vector_exists
