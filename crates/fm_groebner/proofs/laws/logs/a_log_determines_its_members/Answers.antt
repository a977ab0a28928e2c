use Rattle.fm_groebner.proofs.Determined.{run_unique, reduction_unique, run_front}
use Rattle.fm_groebner.proofs.laws.logs.a_log_determines_its_members.Goals as goal

pub returns-clause-members : goal.returns-clause-members
returns-clause-members c = λ p n m o bound inputs log members others taken taken' treated treated'. run_unique p n m o inputs

pub returns-clause-rest : goal.returns-clause-rest
returns-clause-rest c = λ p n m o bound members by v r s falling f red red'. reduction_unique p n m o members falling red red' f

pub returns-clause-front : goal.returns-clause-front
returns-clause-front c = λ p n m o bound inputs log e members taken treated. run_front p n m o inputs log e
