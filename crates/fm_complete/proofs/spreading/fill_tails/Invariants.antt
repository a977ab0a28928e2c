use Rattle.std.proofs.Common.{◌-◌, length}
use Rattle.fm_complete.specs.Divisions.{terms_of}
use Rattle.fm_complete.specs.Spread.{IsFront, tail_columns}
use Rattle.fm_complete.proofs.spreading.fill_tails.Given as goal

abbrev pub invariant-members : goal.invariant-members
invariant-members l = IsFront l.tails.items (tail_columns l.ring l.rows (terms_of l.basis))

abbrev pub decreases-members : goal.decreases-members
decreases-members l = length l.basis - length l.tails.items
