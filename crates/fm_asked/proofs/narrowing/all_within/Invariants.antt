use Rattle.std.proofs.Common.{◌≡◌, ◌++◌, length, map}
use Rattle.fm_asked.specs.Narrowing as definitions
use Rattle.fm_asked.proofs.narrowing.all_within.Given as goal

abbrev pub invariant-numbers : goal.invariant-numbers
invariant-numbers l = l.kept.items ++ map (definitions.within l.bound) l.left ≡ map (definitions.within l.bound) l.numbers

abbrev pub decreases-numbers : goal.decreases-numbers
decreases-numbers l = length l.left
