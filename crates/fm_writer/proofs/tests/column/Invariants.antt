use Rattle.std.proofs.Common.{◌≡◌, length}
use Rattle.fm_vec.specs.Components.{AreOver}
use Rattle.fm_writer.proofs.tests.column.Given as goal

abbrev pub invariant-loop-i : goal.invariant-loop-i
invariant-loop-i l = record {
  over : AreOver l.ring l.out.items;
  count : length l.out.items ≡ l.i;
}
