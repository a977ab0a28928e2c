use Rattle.std.proofs.Common.{◌≡◌, length}
use Rattle.fm_complete.specs.Divisions.{terms_of}
use Rattle.fm_parts.specs.Replays as definitions
use Rattle.fm_replay.proofs.numbers.are_numbers.Given as goal

abbrev pub invariant-numbers : goal.invariant-numbers
invariant-numbers l = definitions.are_numbers (terms_of l.vectors) l.left ≡ definitions.are_numbers (terms_of l.vectors) l.initial.left

abbrev pub decreases-numbers : goal.decreases-numbers
decreases-numbers l = length l.left
