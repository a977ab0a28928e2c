-- The program's graphs, and the graphs of the standard run that they mean.
use Rattle.std.specs.Prelude.{ℕ, ◌+◌, ◌<◌, ◌^◌, List, length}
use Rattle.fm_groebner.specs.Logs.{Entry}
use Rattle.fm_poly.specs.declared.ring.Ring.{Ring}
use Rattle.fm_vec.specs.Vectors.{VectorValue}
use Rattle.fm_complete.specs.Divisions.{AreMembers, terms_of}
use Rattle.fm_mat.specs.Matrices.{MatrixValue, matrix_meaning}
use Rattle.fm_graphs.specs.Graphs.{Graph, IsCompletedGraph}

-- what contracts see of a graph: its matrix, and the members and the log of its completion
pub record GraphValue : Type 0 where
  pub matrix : MatrixValue
  pub members : List VectorValue
  pub log : List Entry

-- the components of the members: those of a column of the matrix, and of a unit vector
abbrev pub height : GraphValue → ℕ
height g = g.matrix.rows + length g.matrix.columns

abbrev pub graph_meaning : (r : Ring) → GraphValue → Graph r
graph_meaning r g = record { matrix = matrix_meaning r g.matrix; members = terms_of g.members; log = g.log }

-- the members are vectors of the graph, fewer than 2^32, and complete it
pub record IsGraph (g : GraphValue) : Type 0 where
  pub members : AreMembers g.matrix.ring (height g) g.members
  pub few : length g.members < 2 ^ 32
  pub high : height g < 2 ^ 32
  pub completed : IsCompletedGraph g.matrix.ring (graph_meaning g.matrix.ring g)
