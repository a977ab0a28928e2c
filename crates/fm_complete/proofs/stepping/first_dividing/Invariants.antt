use Rattle.std.proofs.Common.{◌≡◌, length}
use Rattle.fm_term.specs.Falling.{IsTerm}
use Rattle.fm_complete.specs.declared.head_index.Head.{Head}
use Rattle.fm_complete.specs.Indexed.{EachHead, first_head}
use Rattle.fm_complete.proofs.stepping.first_dividing.Given as goal

abbrev pub invariant-heads : goal.invariant-heads
invariant-heads l = record {
  proper : EachHead (λ (h : Head). IsTerm l.ring.prime l.ring.vars h.term) l.left;
  found : first_head l.left l.t ≡ first_head l.initial.left l.t;
}

abbrev pub decreases-heads : goal.decreases-heads
decreases-heads l = length l.left
