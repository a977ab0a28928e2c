use Rattle.std.proofs.Common.{◌≡◌, ◌++◌, decimal, map, length, true}
use Rattle.fm_text.specs.Printing.{joined}
use Rattle.fm_cert.proofs.printing.push_members.Given as goal

abbrev pub invariant-members : goal.invariant-members
invariant-members l = l.out.items ++ joined 32 true (map decimal l.left) ≡ l.initial.out.items ++ joined 32 true (map decimal l.fn.members)

abbrev pub decreases-members : goal.decreases-members
decreases-members l = length l.left
