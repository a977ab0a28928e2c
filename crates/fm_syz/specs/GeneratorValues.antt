-- Generators of parts of kernels, as the program holds them, and what they mean.
use Rattle.std.specs.Prelude.{◌≡◌}
use Rattle.fm_poly.specs.declared.ring.Ring.{Ring}
use Rattle.fm_mat.specs.Matrices.{MatrixValue, matrix_meaning}
use Rattle.fm_graphs.specs.Trims.{Preimage, Generating}
use Rattle.fm_syz.specs.GraphValues.{GraphValue, graph_meaning}

-- what contracts see of generators: the graph of found, and the matrices x and w
pub record GeneratorsValue : Type 0 where
  pub graph : GraphValue
  pub x : MatrixValue
  pub w : MatrixValue

-- the same with the graph of [A | B]
pub record PreimageValue : Type 0 where
  pub whole : GraphValue
  pub generators : GeneratorsValue

-- found is the matrix of its graph
abbrev pub generators_meaning : (r : Ring) → GraphValue → GeneratorsValue → Preimage r
generators_meaning r whole x = record {
  whole = graph_meaning r whole;
  found = matrix_meaning r x.graph.matrix;
  x = matrix_meaning r x.x;
  w = matrix_meaning r x.w;
  graph = graph_meaning r x.graph;
}

abbrev pub preimage_meaning : (r : Ring) → PreimageValue → Preimage r
preimage_meaning r P = generators_meaning r P.whole P.generators

-- the three matrices are of the ring of the whole, and generate the first entries of its kernel
pub record AreGenerators (whole : GraphValue) (x : GeneratorsValue) : Type 0 where
  pub graph_ring : x.graph.matrix.ring ≡ whole.matrix.ring
  pub x_ring : x.x.ring ≡ whole.matrix.ring
  pub w_ring : x.w.ring ≡ whole.matrix.ring
  pub generating : Generating whole.matrix.ring x.graph.matrix.rows x.x.rows (graph_meaning whole.matrix.ring whole)
      (generators_meaning whole.matrix.ring whole x)
