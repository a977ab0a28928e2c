use Rattle.std.proofs.Common.{◌≡◌, ◌++◌, ◌-◌, suc}
use Rattle.fm_complete.specs.Divisions.{quotients_from}
use Rattle.fm_complete.proofs.dividing.quotients.Given as goal

abbrev pub invariant-loop-k : goal.invariant-loop-k
invariant-loop-k l = l.out.items ++ quotients_from l.ring (l.count - l.k) (suc l.k) l.steps ≡ quotients_from l.ring l.count 1 l.steps
