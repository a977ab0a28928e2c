use Rattle.fm_vec.proofs.PlacedTerms.{own_canonical, falls_next, proper_next, within_next, whole_next}
use Rattle.fm_vec.proofs.columns.column_of.Goals as goal

pub from_canonical-requires : goal.from_canonical-requires
from_canonical-requires c =
    own_canonical c.args.ring c.loop-k.k c.length_in.result c.loop-k.terms.now c.split_at.result.0.now c.split_at.result.1.now c.length_in.ensures.count c.split_at.ensures.front c.split_at.ensures.back
    c.loop-k.invariant.falls c.loop-k.invariant.proper c.loop-k.invariant.within c.in_ok-without_component.field-0.items c.in_ok-without_component.ensures

pub loop-k-preserved : goal.loop-k-preserved
loop-k-preserved c = record {
  falls = falls_next c.args.ring c.loop-k.k c.length_in.result c.loop-k.terms.now c.split_at.result.0.now c.split_at.result.1.now c.length_in.ensures.count c.split_at.ensures.front c.split_at.ensures.back
      c.loop-k.invariant.falls c.loop-k.invariant.proper c.loop-k.invariant.within;
  proper = proper_next c.args.ring c.loop-k.k c.length_in.result c.loop-k.terms.now c.split_at.result.0.now c.split_at.result.1.now c.length_in.ensures.count c.split_at.ensures.front c.split_at.ensures.back
      c.loop-k.invariant.falls c.loop-k.invariant.proper c.loop-k.invariant.within;
  within = within_next c.args.ring c.loop-k.k c.length_in.result c.loop-k.terms.now c.split_at.result.0.now c.split_at.result.1.now c.length_in.ensures.count c.split_at.ensures.front c.split_at.ensures.back
      c.loop-k.invariant.falls c.loop-k.invariant.proper c.loop-k.invariant.within;
  whole = whole_next c.args.ring c.loop-k.k c.length_in.result c.loop-k.terms.now c.split_at.result.0.now c.split_at.result.1.now c.length_in.ensures.count c.split_at.ensures.front c.split_at.ensures.back
      c.loop-k.invariant.falls c.loop-k.invariant.proper c.loop-k.invariant.within
      c.args.rows c.loop-k.out.items c.push.new.self.items _ c.from_canonical.result c.in_ok-without_component.field-0.items c.loop-k-test.true c.in_ok-push.ensures.items
      c.from_canonical.ensures c.in_ok-without_component.ensures c.loop-k.invariant.whole;
}
