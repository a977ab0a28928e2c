use Rattle.std.proofs.Common.{◌≡◌, length}
use Rattle.fm_vec.specs.Components.{AreOver}
use Rattle.fm_queries.specs.declared.map_tests.TheConstants.{SPACE}
use Rattle.fm_queries.proofs.map_tests.ideal.Given as goal

abbrev pub invariant-loop-i : goal.invariant-loop-i
invariant-loop-i l = record {
  over : AreOver SPACE l.out.items;
  count : length l.out.items ≡ l.i;
}
