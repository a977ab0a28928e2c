use Rattle.std.proofs.Common.{◌≡◌, ◌++◌, length}
use Rattle.fm_complete.specs.Divisions.{quotient_terms}
use Rattle.fm_complete.proofs.dividing.quotient.Given as goal

abbrev pub invariant-steps : goal.invariant-steps
invariant-steps l = l.out.items ++ quotient_terms l.number l.steps ≡ quotient_terms l.number l.initial.steps

abbrev pub decreases-steps : goal.decreases-steps
decreases-steps l = length l.steps
