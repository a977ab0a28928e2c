use Rattle.fm_graphs.proofs.WithinGraphs.{graph_ends, syzygies_within, lifted_ends, inside_ends, twisted_graph_ends, kernel_ends, preimage_ends, multiplied_ends, twist_ends}
use Rattle.fm_graphs.proofs.laws.runs_over_graphs_stay_within_the_bound.Goals as goal

pub returns-clause-graph : goal.returns-clause-graph
returns-clause-graph c = λ r A units left g w e. graph_ends r A w units left g e

pub returns-clause-syzygies : goal.returns-clause-syzygies
returns-clause-syzygies c = λ r g w. syzygies_within r g w

pub returns-clause-lifted : goal.returns-clause-lifted
returns-clause-lifted c = λ r g B units left W w e. lifted_ends r g B.columns w units left W e

pub returns-clause-inside : goal.returns-clause-inside
returns-clause-inside c = λ r B g units left y w e. inside_ends r B g w units left y e

pub returns-clause-twisted : goal.returns-clause-twisted
returns-clause-twisted c = λ r e g units left h ends. twisted_graph_ends r e g units left h ends

pub returns-clause-kernel : goal.returns-clause-kernel
returns-clause-kernel c = λ r A units left Q w e. kernel_ends r A w units left Q e

pub returns-clause-preimage : goal.returns-clause-preimage
returns-clause-preimage c = λ r A B units left Q w v e. preimage_ends r A B w v units left Q e

pub returns-clause-product : goal.returns-clause-product
returns-clause-product c = λ r A B units left C e. multiplied_ends r A B units left C e

pub returns-clause-twist : goal.returns-clause-twist
returns-clause-twist c = λ r e A units left C ends. twist_ends r e A units left C ends
