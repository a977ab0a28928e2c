use Rattle.std.proofs.Common.{◌≡◌, map, length}
use Rattle.fm_complete.specs.Bases.{entry_value}
use Rattle.fm_complete.specs.Completions.{skipping}
use Rattle.fm_complete.specs.Divisions.{terms_of}
use Rattle.fm_complete.specs.Standing.{ArePairsOf}
use Rattle.fm_complete.proofs.completing.take_pair.Given as goal

abbrev pub invariant-pairs : goal.invariant-pairs
invariant-pairs l = record {
  skipped : skipping (terms_of l.members) (map entry_value l.log.items) l.pending.pairs ≡ skipping (terms_of l.members) (map entry_value l.initial.log.items) l.initial.pending.pairs;
  pairs : ArePairsOf l.ring l.members l.pending.pairs;
  compared : l.pending.order ≡ l.initial.pending.order;
}

abbrev pub decreases-pairs : goal.decreases-pairs
decreases-pairs l = length l.pending.pairs
