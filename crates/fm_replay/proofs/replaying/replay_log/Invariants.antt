use Rattle.std.proofs.Common.{◌≡◌, ◌≤◌, length, map}
use Rattle.fm_complete.specs.Bases.{entry_value}
use Rattle.fm_complete.specs.Divisions.{terms_of}
use Rattle.fm_replay.proofs.LogSteps.{IsUnderWay}
use Rattle.fm_replay.proofs.replaying.replay_log.Given as goal

abbrev pub invariant-entries : goal.invariant-entries
invariant-entries l = record {
  under_way : IsUnderWay l.fn.ring (terms_of l.inputs) (map entry_value l.initial.left) (map entry_value l.left) l.replay;
  ring : l.replay.ring ≡ l.fn.ring;
  rows : l.replay.rows ≡ l.fn.rows;
  shorter : length l.left ≤ length l.initial.left;
}

abbrev pub decreases-entries : goal.decreases-entries
decreases-entries l = length l.left
