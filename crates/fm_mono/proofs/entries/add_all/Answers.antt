use Rattle.std.proofs.Common.{◌+◌, ◌≤◌, ◌∙◌, sym, arith, get_or}
use Rattle.fm_tuple.proofs.TupleEntries.{entrywise_by_place}
use Rattle.fm_mono.specs.Bounded.{exponent_bound}
use Rattle.fm_mono.proofs.Bounds.{bounded_at}
use Rattle.fm_mono.proofs.entries.add_all.Goals as goal

pub overflow_add-sums : goal.overflow_add-sums
overflow_add-sums c =
    let left : get_or c.args.a.now c.loop-k.k 0 ≤ exponent_bound = bounded_at _ c.requires.a_within c.loop-k.k in
    let right : get_or c.args.b.now c.loop-k.k 0 ≤ exponent_bound = bounded_at _ c.requires.b_within c.loop-k.k in
    omega arith

pub returns : goal.returns
returns c =
    entrywise_by_place ◌+◌ _ _ _ (c.told-b ∙ sym c.told-a) (c.loop-k.invariant.places ∙ sym c.told-a)
    (λ j below. c.loop-k.invariant.sums j (omega (arith, c.loop-k-test.false, c.told-a)))
