use Rattle.std.proofs.Common.{refl, arith}
use Rattle.fm_syz.specs.GraphValues.{graph_meaning}
use Rattle.fm_ext.proofs.Morphisms.{power_rows, power_spends}
use Rattle.fm_ext.proofs.morphism.power.Goals as goal

pub returns-in-Ok-clause-rows : goal.returns-in-Ok-clause-rows
returns-in-Ok-clause-rows c = power_rows c.args.z.now.matrix.ring c.args.z.now c.in-Ok.power 0 (c.in-Ok.ensures.value c.args.z.now.matrix.ring 0 refl)

pub returns-in-Err-Memory-clause-follows : goal.returns-in-Err-Memory-clause-follows
returns-in-Err-Memory-clause-follows c r units ring = (omega arith, power_spends r (graph_meaning r c.args.z.now) units)
