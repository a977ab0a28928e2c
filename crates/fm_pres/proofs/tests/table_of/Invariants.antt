use Rattle.std.proofs.Common.{◌≡◌}
use Rattle.fm_pres.specs.declared.tests.TheConstants.{PLANE}
use Rattle.fm_pres.proofs.tests.table_of.Given as goal

abbrev pub invariant-loop-i : goal.invariant-loop-i
invariant-loop-i l = record { ring : l.table.ring ≡ PLANE }
