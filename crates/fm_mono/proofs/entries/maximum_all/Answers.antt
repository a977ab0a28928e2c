use Rattle.std.proofs.Common.{max, ◌∙◌, sym, arith}
use Rattle.fm_tuple.proofs.TupleEntries.{entrywise_by_place}
use Rattle.fm_mono.proofs.entries.maximum_all.Goals as goal

pub returns : goal.returns
returns c =
    entrywise_by_place max _ _ _ (c.told-b ∙ sym c.told-a) (c.loop-k.invariant.places ∙ sym c.told-a)
    (λ j below. c.loop-k.invariant.entries j (omega (arith, c.loop-k-test.false, c.told-a)))
