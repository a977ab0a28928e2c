use Rattle.std.proofs.Common.{max, take, refl, sym, ap, ◌∙◌}
use Rattle.fm_tuple.specs.Tuple.{tuple_maximum}
use Rattle.fm_tuple.proofs.TupleEntries.{length_entrywise}
use Rattle.fm_mono.specs.Bounded.{is_bounded}
use Rattle.fm_mono.proofs.Bounds.{maximum_within}
use Rattle.fm_mono.proofs.Packing.{entrywise_padded, packed_padded, shown, padded_sum, vars_is, within_is}
use Rattle.fm_mono.proofs.mono.Mono.lcm.Goals as goal

pub total-requires-clause-within : goal.total-requires-clause-within
total-requires-clause-within c =
    ap is_bounded c.maximum_all-exponents.ensures
    ∙ maximum_within _ _ (c.b.invariant.eight ∙ sym c.self.invariant.eight) c.self.invariant.within c.b.invariant.within

pub invariant_of-result : goal.invariant_of-result
invariant_of-result c =
    let is = c.maximum_all-exponents.ensures ∙ entrywise_padded _ _ _ _ c.self.invariant c.b.invariant c.self.view_is c.b.view_is (sym c.requires) max refl in
    packed_padded _ _ _ (tuple_maximum c.args.self c.args.b) c.self.invariant.some c.self.invariant.few is
    (length_entrywise max _ _ c.requires ∙ vars_is _ _ c.self.invariant c.self.view_is)
    (maximum_within _ _ (sym c.requires) (within_is _ _ c.self.invariant c.self.view_is) (within_is _ _ c.b.invariant c.b.view_is))
    (c.total.ensures ∙ padded_sum _ _ _ is)

pub returns : goal.returns
returns c =
    ap (take c.self.inside.vars)
    (c.maximum_all-exponents.ensures ∙ entrywise_padded _ _ _ _ c.self.invariant c.b.invariant c.self.view_is c.b.view_is (sym c.requires) max refl)
    ∙ shown _ _ _ (length_entrywise max _ _ c.requires ∙ vars_is _ _ c.self.invariant c.self.view_is)
