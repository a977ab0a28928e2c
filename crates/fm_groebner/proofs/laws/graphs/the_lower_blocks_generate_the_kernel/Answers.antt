use Rattle.fm_groebner.proofs.Graphs.{kernel_of_graph}
use Rattle.fm_groebner.proofs.laws.graphs.the_lower_blocks_generate_the_kernel.Goals as goal

pub returns : goal.returns
returns c = λ p n o A members columns basis blocks. kernel_of_graph p n o A members basis columns blocks
