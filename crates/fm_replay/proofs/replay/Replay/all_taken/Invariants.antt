use Rattle.std.proofs.Common.{◌≡◌, ◌+◌, suc, length}
use Rattle.fm_complete.specs.Divisions.{terms_of}
use Rattle.fm_parts.specs.Replays as definitions
use Rattle.fm_replay.proofs.replay.Replay.all_taken.Given as goal

abbrev pub invariant-inputs : goal.invariant-inputs
invariant-inputs l = record {
  left : definitions.all_taken_from (suc l.k) (terms_of l.left) l.self.taken ≡ definitions.all_taken_from 1 (terms_of l.inputs) l.self.taken;
  count : l.k + length l.left ≡ length l.inputs;
}

abbrev pub decreases-inputs : goal.decreases-inputs
decreases-inputs l = length l.left
