use Rattle.std.proofs.Common.{◌≡◌, length}
use Rattle.fm_complete.specs.Divisions.{terms_of}
use Rattle.fm_parts.specs.Replays as definitions
use Rattle.fm_parts.specs.Replays.{Reason}
use Rattle.fm_replay.proofs.reducing.reduce_by.Given as goal

abbrev pub invariant-numbers : goal.invariant-numbers
invariant-numbers l = record {
  reduces : (why : Reason) → definitions.reduce_by l.fn.ring why (terms_of l.members) l.left l.rest.terms ≡ definitions.reduce_by l.fn.ring why (terms_of l.members) l.initial.left l.initial.rest.terms;
  ring : l.rest.ring ≡ l.fn.ring;
  rows : l.rest.rows ≡ l.fn.rows;
}

abbrev pub decreases-numbers : goal.decreases-numbers
decreases-numbers l = length l.left
