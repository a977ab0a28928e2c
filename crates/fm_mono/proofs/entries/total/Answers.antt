use Rattle.std.proofs.Common.{arith}
use Rattle.fm_mono.proofs.Bounds.{sum_so_far, sum_within}
use Rattle.fm_mono.proofs.entries.total.Goals as goal

pub overflow_add-sum : goal.overflow_add-sum
overflow_add-sum c =
    omega (arith, sum_so_far c.args.a.now c.loop-k.k c.loop-k-test.true, sum_within c.args.a.now c.requires.within, c.requires.few, c.loop-k.invariant)
