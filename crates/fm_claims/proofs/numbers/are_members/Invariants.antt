use Rattle.std.proofs.Common.{◌≡◌, length}
use Rattle.fm_complete.specs.Divisions.{terms_of}
use Rattle.fm_parts.specs.Replays.{are_numbers}
use Rattle.fm_claims.proofs.numbers.are_members.Given as goal

abbrev pub invariant-numbers : goal.invariant-numbers
invariant-numbers l = are_numbers (terms_of l.log.members.items) l.left ≡ are_numbers (terms_of l.log.members.items) l.numbers

abbrev pub decreases-numbers : goal.decreases-numbers
decreases-numbers l = length l.left
