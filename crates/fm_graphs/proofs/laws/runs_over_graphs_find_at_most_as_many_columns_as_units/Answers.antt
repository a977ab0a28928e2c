use Rattle.fm_graphs.proofs.Sizes.{graph_size, syzygies_size, trimmed_size, lifted_size, inside_size, kernel_size, preimage_size}
use Rattle.fm_graphs.proofs.laws.runs_over_graphs_find_at_most_as_many_columns_as_units.Goals as goal

pub returns-clause-graph : goal.returns-clause-graph
returns-clause-graph c = λ r A units left g e. graph_size r A units left g e

pub returns-clause-syzygies : goal.returns-clause-syzygies
returns-clause-syzygies c = λ r g. syzygies_size r g

pub returns-clause-trimmed : goal.returns-clause-trimmed
returns-clause-trimmed c = λ r vs units left kept e. trimmed_size r (λ v. v) vs units left kept e

pub returns-clause-lifted : goal.returns-clause-lifted
returns-clause-lifted c = λ r g vs units left W e. lifted_size r g vs units left W e

pub returns-clause-inside : goal.returns-clause-inside
returns-clause-inside c = λ r B g units left y e. inside_size r B g units left y e

pub returns-clause-kernel : goal.returns-clause-kernel
returns-clause-kernel c = λ r most A units left Q rows enough e. kernel_size r most A rows units left Q enough e

pub returns-clause-preimage : goal.returns-clause-preimage
returns-clause-preimage c = λ r most A B units left Q rows enough e. preimage_size r most A B rows units left Q enough e
