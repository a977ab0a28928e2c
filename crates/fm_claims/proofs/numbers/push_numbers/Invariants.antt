use Rattle.std.proofs.Common.{◌≡◌, ◌++◌, length}
use Rattle.fm_claims.proofs.numbers.push_numbers.Given as goal

abbrev pub invariant-numbers : goal.invariant-numbers
invariant-numbers l = l.out.items ++ l.left ≡ l.initial.out.items ++ l.numbers

abbrev pub decreases-numbers : goal.decreases-numbers
decreases-numbers l = length l.left
