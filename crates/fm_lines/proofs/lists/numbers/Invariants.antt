use Rattle.std.proofs.Common.{◌≡◌, ◌++◌, length, option_map}
use Rattle.fm_cert.specs.Fields.{exact_numbers, some_numbers}
use Rattle.fm_lines.specs.Left.{left}
use Rattle.fm_lines.proofs.lists.numbers.Given as goal

abbrev pub invariant-numbers : goal.invariant-numbers
invariant-numbers l = option_map (λ ns. l.found.items ++ ns) (exact_numbers (left l.from)) ≡ some_numbers (left l.words)

abbrev pub decreases-numbers : goal.decreases-numbers
decreases-numbers l = length (left l.from)
