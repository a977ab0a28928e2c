use Rattle.fm_answers.proofs.PrintedMatrices.{matrix_means, columns_writable, vector_back, grid_back}
use Rattle.fm_answers.proofs.laws.printed_matrices_are_read_back.Goals as goal

pub returns-clause-means : goal.returns-clause-means
returns-clause-means c = λ r A. matrix_means r A

pub returns-clause-written : goal.returns-clause-written
returns-clause-written c = λ r A h. columns_writable r A.columns h

pub returns-clause-kept : goal.returns-clause-kept
returns-clause-kept c = λ r A h. grid_back r A h

pub returns-clause-column : goal.returns-clause-column
returns-clause-column c = λ r fs h. vector_back r fs h
