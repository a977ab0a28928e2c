use Rattle.fm_vec.proofs.Inverse.{meaning_of_column, meaning_of_vector}
use Rattle.fm_vec.proofs.laws.a_vector_means_its_column.Goals as goal

pub returns-clause-vector : goal.returns-clause-vector
returns-clause-vector c = meaning_of_vector

pub returns-clause-column : goal.returns-clause-column
returns-clause-column c = meaning_of_column
