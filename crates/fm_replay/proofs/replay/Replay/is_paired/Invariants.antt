use Rattle.std.proofs.Common.{◌≡◌, ◌+◌, suc, length}
use Rattle.fm_complete.specs.Divisions.{terms_of}
use Rattle.fm_parts.specs.Replays as definitions
use Rattle.fm_replay.proofs.replay.Replay.is_paired.Given as goal

abbrev pub invariant-members : goal.invariant-members
invariant-members l = record {
  left : definitions.is_paired (terms_of l.left) l.self.treated l.g.terms l.b (suc l.a) ≡ definitions.is_paired (terms_of l.members) l.self.treated l.g.terms l.b 1;
  count : l.a + length l.left ≡ length l.members;
}

abbrev pub decreases-members : goal.decreases-members
decreases-members l = length l.left
