use Rattle.std.proofs.Common.{◌≡◌, length}
use Rattle.fm_vec.specs.Components.{AreOver}
use Rattle.fm_ext.specs.declared.tests.TheConstants.{PLANE}
use Rattle.fm_ext.proofs.tests.ideal.Given as goal

abbrev pub invariant-loop-i : goal.invariant-loop-i
invariant-loop-i l = record {
  over : AreOver PLANE l.out.items;
  count : length l.out.items ≡ l.i;
}
