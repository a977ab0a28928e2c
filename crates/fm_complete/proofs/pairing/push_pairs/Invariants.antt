use Rattle.std.proofs.Common.{◌≡◌, ◌≤◌, length}
use Rattle.fm_complete.specs.Completions.{with_pairs}
use Rattle.fm_complete.specs.Divisions.{AreMembers, terms_of}
use Rattle.fm_complete.specs.Pairs.{ArePairsOver, EachPair}
use Rattle.fm_complete.proofs.NewPairs.{IsOther}
use Rattle.fm_complete.proofs.pairing.push_pairs.Given as goal

abbrev pub invariant-members : goal.invariant-members
invariant-members l = record {
  members : AreMembers l.ring l.rows l.left;
  few : length l.left ≤ length l.initial.left;
  over : ArePairsOver l.ring.vars l.pending.pairs;
  compared : l.pending.order ≡ l.initial.pending.order;
  other : EachPair (IsOther l.later (length l.left)) l.pending.pairs;
  pairs : with_pairs l.ring.order l.later l.t 1 (terms_of l.left) l.pending.pairs ≡ with_pairs l.ring.order l.later l.t 1 (terms_of l.initial.left) l.initial.pending.pairs;
}

abbrev pub decreases-members : goal.decreases-members
decreases-members l = length l.left
