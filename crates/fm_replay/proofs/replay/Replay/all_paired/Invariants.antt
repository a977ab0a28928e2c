use Rattle.std.proofs.Common.{◌≡◌, ◌+◌, ◌<◌, ◌^◌, suc, length}
use Rattle.fm_complete.specs.Divisions.{terms_of}
use Rattle.fm_parts.specs.Replays as definitions
use Rattle.fm_replay.proofs.replay.Replay.all_paired.Given as goal

abbrev pub invariant-members : goal.invariant-members
invariant-members l = record {
  left : definitions.all_paired_from (suc l.b) (terms_of l.members) (terms_of l.left) l.self.treated ≡ definitions.all_paired_from 1 (terms_of l.members) (terms_of l.members) l.self.treated;
  count : l.b + length l.left ≡ length l.members;
  few : length l.members < 2 ^ 32;
  members : l.members ≡ l.self.members;
}

abbrev pub decreases-members : goal.decreases-members
decreases-members l = length l.left
