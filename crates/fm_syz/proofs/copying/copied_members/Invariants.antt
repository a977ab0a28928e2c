use Rattle.std.proofs.Common.{◌≡◌, ◌++◌, length}
use Rattle.fm_syz.proofs.copying.copied_members.Given as goal

abbrev pub invariant-members : goal.invariant-members
invariant-members l = l.out.items ++ l.members ≡ l.initial.members

abbrev pub decreases-members : goal.decreases-members
decreases-members l = length l.members
