use Rattle.std.proofs.Common.{[]}
use Rattle.fm_complete.proofs.CompleteLogs.{s_vector, monic_kept}
use Rattle.fm_complete.proofs.laws.vectors_of_the_run_are_those_of_the_theory.Goals as goal

pub returns-clause-s_vector : goal.returns-clause-s_vector
returns-clause-s_vector c = λ r m members i j u t us ts vectors monic. s_vector r m [] [] members vectors monic i j u t us ts

pub returns-clause-monic : goal.returns-clause-monic
returns-clause-monic c = λ r m members t ts v. monic_kept r m [] members t ts v
