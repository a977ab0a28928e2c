use Rattle.std.proofs.Common.{◌≡◌, length}
use Rattle.std.specs.List.{list_any}
use Rattle.fm_complete.specs.Divisions.{terms_of}
use Rattle.fm_complete.specs.Divisors.{head_divides}
use Rattle.fm_complete.specs.Standing.{AreOfShape}
use Rattle.fm_conditions.proofs.excluding.some_head_divides.Given as goal

abbrev pub invariant-members : goal.invariant-members
invariant-members l =
    AreOfShape l.ring l.rows l.members
    × (list_any (λ g. head_divides g l.s) (terms_of l.initial.members) ≡ list_any (λ g. head_divides g l.s) (terms_of l.members))

abbrev pub decreases-members : goal.decreases-members
decreases-members l = length l.members
