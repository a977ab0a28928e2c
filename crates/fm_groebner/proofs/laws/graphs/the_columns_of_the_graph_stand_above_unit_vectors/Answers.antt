use Rattle.fm_groebner.proofs.Graphs.{graph_columns_are}
use Rattle.fm_groebner.proofs.laws.graphs.the_columns_of_the_graph_stand_above_unit_vectors.Goals as goal

pub returns : goal.returns
returns c = graph_columns_are
