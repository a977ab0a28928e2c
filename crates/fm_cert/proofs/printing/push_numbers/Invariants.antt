use Rattle.std.proofs.Common.{◌≡◌, ◌++◌, decimal, map, length, true}
use Rattle.fm_text.specs.Printing.{joined}
use Rattle.fm_cert.proofs.printing.push_numbers.Given as goal

abbrev pub invariant-numbers : goal.invariant-numbers
invariant-numbers l = l.out.items ++ joined 32 true (map decimal l.left) ≡ l.initial.out.items ++ joined 32 true (map decimal l.fn.numbers)

abbrev pub decreases-numbers : goal.decreases-numbers
decreases-numbers l = length l.left
