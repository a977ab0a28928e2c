use Rattle.std.proofs.Common.{◌++◌, ◌≡◌, length}
use Rattle.fm_judge.specs.Judging as definitions
use Rattle.fm_asked.proofs.capping.without_exponents.Given as goal

abbrev pub invariant-bytes : goal.invariant-bytes
invariant-bytes l = l.capped.items ++ definitions.capped_from l.after l.seen l.left ≡ definitions.without_exponents l.text

abbrev pub decreases-bytes : goal.decreases-bytes
decreases-bytes l = length l.left
