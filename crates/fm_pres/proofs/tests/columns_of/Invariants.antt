use Rattle.std.proofs.Common.{◌≡◌, length}
use Rattle.fm_mat.specs.Matrices.{AreColumns}
use Rattle.fm_pres.proofs.tests.columns_of.Given as goal

abbrev pub invariant-loop-j : goal.invariant-loop-j
invariant-loop-j l = record {
  shape : AreColumns l.ring l.rows l.out.items;
  count : length l.out.items ≡ l.j;
}
