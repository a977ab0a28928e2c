use Rattle.std.proofs.Common.{◌*◌, Some, map, sym, ap, ◌∙◌, arith}
use Rattle.fm_tuple.proofs.TupleEntries.{map_by_place}
use Rattle.fm_mono.proofs.Bounds.{bounded_none, bounded_some, map_fails, map_within}
use Rattle.fm_mono.proofs.entries.multiply_all.Goals as goal

pub returns-then-multiple-from : goal.returns-then-multiple-from
returns-then-multiple-from c =
    bounded_none (map (λ i. c.args.q * i) c.args.a.now) (map_fails (λ i. c.args.q * i) c.args.a.now c.loop-k.k (omega (arith, c.loop-k-test.true, c.told-a))
    (grind (arith, c.if-multiple-from.true, c.from.ensures, c.from-in-loop-k.ensures, c.from-in-loop-k-2.ensures)))

pub returns : goal.returns
returns c =
    ap Some (map_by_place (λ i. c.args.q * i) _ _ (c.loop-k.invariant.places ∙ sym c.told-a)
    (λ j below. c.loop-k.invariant.multiples j (omega (arith, c.loop-k-test.false, c.told-a))))
    ∙ bounded_some _ (map_within (λ i. c.args.q * i) _ (λ j below. c.loop-k.invariant.within j (omega (arith, c.loop-k-test.false, c.told-a))))
