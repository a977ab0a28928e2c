use Rattle.fm_groebner.proofs.Consequences.{basis_of_log, monic_of_log, inside_of_log}
use Rattle.fm_groebner.proofs.laws.logs.a_complete_log_gives_a_groebner_basis.Goals as goal

pub returns-clause-basis : goal.returns-clause-basis
returns-clause-basis c = λ p n m o bound inputs members log taken treated run. basis_of_log p n m o run

pub returns-clause-monic : goal.returns-clause-monic
returns-clause-monic c = λ p n m o bound inputs members log taken treated run. monic_of_log p n m o run

pub returns-clause-inside : goal.returns-clause-inside
returns-clause-inside c = λ p n m o bound inputs members log taken treated run. inside_of_log p n m o run
