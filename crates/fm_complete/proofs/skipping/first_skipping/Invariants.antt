use Rattle.std.proofs.Common.{◌≡◌, length}
use Rattle.fm_term.specs.Falling.{IsTerm}
use Rattle.fm_complete.specs.declared.head_index.Head.{Head}
use Rattle.fm_complete.specs.Indexed.{EachHead, first_skipper}
use Rattle.fm_complete.proofs.skipping.first_skipping.Given as goal

abbrev pub invariant-heads : goal.invariant-heads
invariant-heads l = record {
  proper : EachHead (λ (h : Head). IsTerm l.fn.ring.prime l.fn.ring.vars h.term) l.left;
  found : first_skipper l.pending.pairs l.p l.left ≡ first_skipper l.pending.pairs l.p l.initial.left;
}

abbrev pub decreases-heads : goal.decreases-heads
decreases-heads l = length l.left
