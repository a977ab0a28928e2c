use Rattle.std.proofs.Common.{arith}
use Rattle.fm_pres.proofs.Nodes.{nothing_is_there}
use Rattle.fm_pres.proofs.table.Table.new.Goals as goal

pub invariant_of-result : goal.invariant_of-result
invariant_of-result c = rw (c.new.ensures.items, c.new-2.ensures.items) (nothing_is_there, tt, tt, omega arith)
