use Rattle.std.proofs.Common.{◌≡◌, ◌++◌, length}
use Rattle.fm_cert.specs.Fields.{leading_numbers}
use Rattle.fm_lines.specs.Left.{left}
use Rattle.fm_lines.proofs.lists.leading_numbers.Given as goal

abbrev pub invariant-numbers : goal.invariant-numbers
invariant-numbers l = (l.found.items ++ (leading_numbers (left l.from)).0, (leading_numbers (left l.from)).1) ≡ leading_numbers (left l.words)

abbrev pub decreases-numbers : goal.decreases-numbers
decreases-numbers l = length (left l.from)
