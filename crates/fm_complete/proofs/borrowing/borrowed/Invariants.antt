use Rattle.std.proofs.Common.{◌≡◌, ◌+◌, ◌++◌, length}
use Rattle.fm_complete.specs.Standing.{values}
use Rattle.fm_complete.proofs.borrowing.borrowed.Given as goal

abbrev pub invariant-vectors : goal.invariant-vectors
invariant-vectors l = record {
  values : values l.out.items ++ l.left ≡ l.initial.left;
  count : length l.out.items + length l.left ≡ length l.initial.left;
}

abbrev pub decreases-vectors : goal.decreases-vectors
decreases-vectors l = length l.left
