use Rattle.fm_mat.specs.Matrices.{AreColumns}
use Rattle.fm_writer.proofs.tests.columns_of.Given as goal

abbrev pub invariant-loop-j : goal.invariant-loop-j
invariant-loop-j l = AreColumns l.ring l.rows l.out.items
