use Rattle.std.proofs.Common.{◌-◌, ◌∙◌, sym, arith}
use Rattle.fm_tuple.proofs.TupleEntries.{entrywise_by_place, get_or_divides}
use Rattle.fm_mono.proofs.entries.subtract_all.Goals as goal

pub returns : goal.returns
returns c =
    entrywise_by_place ◌-◌ _ _ _ (c.told-b ∙ sym c.told-a) (c.loop-k.invariant.places ∙ sym c.told-a)
    (λ j below. c.loop-k.invariant.entries j (omega (arith, c.loop-k-test.false, c.told-a)))

pub overflow_sub-differences : goal.overflow_sub-differences
overflow_sub-differences c = get_or_divides _ _ c.requires c.loop-k.k
