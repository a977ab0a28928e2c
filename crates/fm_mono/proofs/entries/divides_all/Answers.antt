use Rattle.std.proofs.Common.{sym, ◌∙◌, arith}
use Rattle.fm_tuple.proofs.TupleEntries.{divides_by_place, get_or_divides}
use Rattle.fm_mono.proofs.entries.divides_all.Goals as goal

pub returns : goal.returns
returns c = (
  λ all. divides_by_place _ _ (c.told-b ∙ sym c.told-a) (λ j below. c.loop-k.invariant.0 all j (omega (arith, c.loop-k-test.false, c.told-a))),
  λ d. c.loop-k.invariant.1 (λ j below. get_or_divides _ _ d j),
)
