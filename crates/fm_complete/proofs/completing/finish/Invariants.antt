use Rattle.std.proofs.Common.{◌≤◌}
use Rattle.fm_run.specs.Runs.{Budget}
use Rattle.fm_run.specs.Turns.{repeated}
use Rattle.fm_run.proofs.Following.{Left}
use Rattle.fm_complete.specs.Bases.{completion_value}
use Rattle.fm_complete.specs.Completions as runs
use Rattle.fm_complete.specs.Standing.{AreReady, AreStanding, ArePending}
use Rattle.fm_complete.proofs.completing.finish.Given as goal

abbrev pub invariant-pairs : goal.invariant-pairs
invariant-pairs l = record {
  left : Left Budget (runs.next_pair l.ring) (repeated Budget (runs.next_pair l.ring) (completion_value l.initial.c) l.initial.work) (completion_value l.c) l.work;
  spent : l.work ≤ l.initial.work;
  standing : AreStanding l.ring l.rows l.c.members.items;
  ready : AreReady l.ring l.rows l.c.members.items l.c.heads l.c.tails.items;
  pairs : ArePending l.ring l.c.members.items l.c.pending;
}

abbrev pub decreases-pairs : goal.decreases-pairs
decreases-pairs l = l.work
