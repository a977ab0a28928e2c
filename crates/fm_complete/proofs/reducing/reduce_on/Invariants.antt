use Rattle.std.proofs.Common.{◌≤◌, ◌≡◌}
use Rattle.fm_complete.specs.Divisions.{terms_of}
use Rattle.fm_complete.specs.Reductions.{reduced}
use Rattle.fm_complete.specs.Spread.{IsFront, tail_columns}
use Rattle.fm_complete.specs.Trails.{IsTrail, ahead}
use Rattle.fm_complete.proofs.reducing.reduce_on.Given as goal

abbrev pub invariant-steps : goal.invariant-steps
invariant-steps l = record {
  ring_is : l.rest.ring ≡ l.ring;
  rows_is : l.rest.rows ≡ l.rows;
  run : ahead l.steps.items (reduced l.ring (terms_of l.basis) l.work l.rest.terms) ≡ ahead l.initial.steps.items (reduced l.ring (terms_of l.basis) l.initial.work l.initial.rest.terms);
  spent : l.work ≤ l.initial.work;
  tails : IsFront l.tails.items (tail_columns l.fn.rest.ring l.fn.rest.rows (terms_of l.basis));
  trail : IsTrail l.ring (terms_of l.basis) l.steps.items l.rest.terms;
}

abbrev pub decreases-steps : goal.decreases-steps
decreases-steps l = l.work
