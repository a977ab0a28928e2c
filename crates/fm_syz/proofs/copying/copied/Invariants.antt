use Rattle.std.proofs.Common.{◌≡◌, ◌++◌, length, map}
use Rattle.fm_complete.specs.Bases.{entry_value}
use Rattle.fm_syz.proofs.copying.copied.Given as goal

abbrev pub invariant-log : goal.invariant-log
invariant-log l = map entry_value l.out.items ++ map entry_value l.log ≡ map entry_value l.initial.log

abbrev pub decreases-log : goal.decreases-log
decreases-log l = length l.log
