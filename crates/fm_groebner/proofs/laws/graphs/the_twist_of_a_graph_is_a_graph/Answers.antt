use Rattle.fm_groebner.proofs.Twists.{twisted_graph}
use Rattle.fm_groebner.proofs.laws.graphs.the_twist_of_a_graph_is_a_graph.Goals as goal

pub returns : goal.returns
returns c = twisted_graph
