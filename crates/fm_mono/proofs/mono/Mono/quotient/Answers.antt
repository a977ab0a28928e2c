use Rattle.std.proofs.Common.{◌-◌, take, refl, sym, ap, ap₂, ◌∙◌, arith}
use Rattle.fm_tuple.specs.Tuple.{tuple_difference}
use Rattle.fm_tuple.proofs.TupleEntries.{sum_divisor, sum_tuple_difference, length_entrywise}
use Rattle.fm_mono.proofs.Bounds.{difference_within}
use Rattle.fm_mono.proofs.Packing.{divides_padded, entrywise_padded, packed_padded, shown, vars_is, degree_is, within_is}
use Rattle.fm_mono.proofs.mono.Mono.quotient.Goals as goal

pub subtract_all-requires : goal.subtract_all-requires
subtract_all-requires c = (divides_padded _ _ _ _ c.b.invariant c.self.invariant c.b.view_is c.self.view_is (sym c.requires.same)).1 c.requires.divisible

pub overflow_sub-result : goal.overflow_sub-result
overflow_sub-result c =
    omega (arith, sum_divisor _ _ c.requires.divisible, degree_is _ _ c.self.invariant c.self.view_is, degree_is _ _ c.b.invariant c.b.view_is)

pub invariant_of-result : goal.invariant_of-result
invariant_of-result c =
    packed_padded _ _ _ (tuple_difference c.args.self c.args.b) c.self.invariant.some c.self.invariant.few
    (c.subtract_all.ensures ∙ entrywise_padded _ _ _ _ c.self.invariant c.b.invariant c.self.view_is c.b.view_is c.requires.same ◌-◌ refl)
    (length_entrywise ◌-◌ _ _ (sym c.requires.same) ∙ vars_is _ _ c.self.invariant c.self.view_is)
    (difference_within _ _ c.requires.same (within_is _ _ c.self.invariant c.self.view_is))
    (ap₂ ◌-◌ (degree_is _ _ c.self.invariant c.self.view_is) (degree_is _ _ c.b.invariant c.b.view_is)
    ∙ sym (sum_tuple_difference _ _ c.requires.same c.requires.divisible))

pub returns : goal.returns
returns c =
    ap (take c.self.inside.vars)
    (c.subtract_all.ensures ∙ entrywise_padded _ _ _ _ c.self.invariant c.b.invariant c.self.view_is c.b.view_is c.requires.same ◌-◌ refl)
    ∙ shown _ _ _ (length_entrywise ◌-◌ _ _ (sym c.requires.same) ∙ vars_is _ _ c.self.invariant c.self.view_is)
