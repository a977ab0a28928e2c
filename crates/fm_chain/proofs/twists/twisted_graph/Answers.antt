use Rattle.std.proofs.Common.{refl, arith}
use Rattle.fm_syz.specs.GraphValues.{graph_meaning}
use Rattle.fm_graphs.proofs.Sizes.{twisted_graph_spends}
use Rattle.fm_chain.proofs.Lifts.{twisted_value, twisted_height}
use Rattle.fm_chain.proofs.twists.twisted_graph.Goals as goal

pub returns-in-Ok-clause-value : goal.returns-in-Ok-clause-value
returns-in-Ok-clause-value c = let g = c.args.g.now in twisted_value g.matrix.ring g c.in-Ok.h c.args.e (c.in-Ok.ensures.value g.matrix.ring 0 refl)

pub returns-in-Ok-clause-rows : goal.returns-in-Ok-clause-rows
returns-in-Ok-clause-rows c = let g = c.args.g.now in twisted_height g.matrix.ring g c.in-Ok.h c.args.e (c.in-Ok.ensures.value g.matrix.ring 0 refl)

pub returns-in-Err-Memory-clause-follows : goal.returns-in-Err-Memory-clause-follows
returns-in-Err-Memory-clause-follows c = λ r units same. (omega arith, twisted_graph_spends r c.args.e (graph_meaning r c.args.g.now) units)
