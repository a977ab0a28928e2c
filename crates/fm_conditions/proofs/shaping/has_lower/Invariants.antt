use Rattle.std.proofs.Common.{◌≡◌, nat_eq, length}
use Rattle.fm_complete.specs.Divisions.{terms_of}
use Rattle.fm_groebner.specs.Syzygies.{lower_members}
use Rattle.fm_conditions.proofs.shaping.has_lower.Given as goal

abbrev pub invariant-members : goal.invariant-members
invariant-members l = nat_eq l.count-2 (length (lower_members l.m (terms_of l.members-2))) ≡ nat_eq l.count (length (lower_members l.m (terms_of l.members)))

abbrev pub decreases-members : goal.decreases-members
decreases-members l = length l.members
