use Rattle.fm_vec.proofs.Inverse.{column_of_vector, vector_of_column}
use Rattle.fm_vec.proofs.laws.columns_and_vectors_are_inverse.Goals as goal

pub returns-clause-vector : goal.returns-clause-vector
returns-clause-vector c = column_of_vector

pub returns-clause-column : goal.returns-clause-column
returns-clause-column c = vector_of_column
