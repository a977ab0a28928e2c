use Rattle.std.proofs.Common.{sym, arith}
use Rattle.fm_mono.proofs.Bounds.{is_bounded_by_place}
use Rattle.fm_mono.proofs.entries.all_within.Goals as goal

pub returns : goal.returns
returns c = sym (is_bounded_by_place _ (λ j below. c.loop-k.invariant j (omega (arith, c.loop-k-test.false, c.told-a))))
