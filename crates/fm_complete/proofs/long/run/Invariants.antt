use Rattle.std.proofs.Common.{◌+◌, ◌-◌, ◌≤◌, length}
use Rattle.fm_complete.specs.Divisions.{terms_of}
use Rattle.fm_complete.specs.Reductions.{reduced}
use Rattle.fm_complete.specs.Trails.{ahead}
use Rattle.fm_complete.proofs.LongRuns.{Long}
use Rattle.fm_complete.proofs.long.run.Given as goal

abbrev pub invariant-turns : goal.invariant-turns
invariant-turns l =
    Long l.ring l.rows (terms_of l.basis) (ahead l.initial.steps.items (reduced l.ring (terms_of l.basis) l.initial.work l.first.terms)) l.buckets l.steps.items l.work l.at
    × (l.work ≤ l.initial.work)

abbrev pub decreases-turns : goal.decreases-turns
decreases-turns l = l.work + (length l.buckets - l.at)
