use Rattle.std.proofs.Common.{◌+◌, take, sym, refl, ap, ◌∙◌, arith}
use Rattle.fm_tuple.specs.Tuple.{tuple_sum}
use Rattle.fm_tuple.proofs.Tuples.{length_tuple_sum}
use Rattle.fm_mono.proofs.Packing.{entrywise_padded, packed_padded, shown, sum_exponents, vars_is, degree_small}
use Rattle.fm_mono.proofs.mono.Mono.times_within.Goals as goal

pub invariant_of-result : goal.invariant_of-result
invariant_of-result c =
    packed_padded _ _ _ (tuple_sum c.args.self.now c.args.b.now) c.self.invariant.some c.self.invariant.few
    (c.add_all.ensures ∙ entrywise_padded _ _ _ _ c.self.invariant c.b.invariant c.self.view_is c.b.view_is (sym c.requires.same) ◌+◌ refl)
    (length_tuple_sum _ _ c.requires.same ∙ vars_is _ _ c.self.invariant c.self.view_is)
    c.requires.within
    (sum_exponents _ _ _ _ c.self.invariant c.b.invariant c.self.view_is c.b.view_is (sym c.requires.same))

pub returns : goal.returns
returns c =
    ap (take c.self.inside.vars)
    (c.add_all.ensures ∙ entrywise_padded _ _ _ _ c.self.invariant c.b.invariant c.self.view_is c.b.view_is (sym c.requires.same) ◌+◌ refl)
    ∙ shown _ _ _ (length_tuple_sum _ _ c.requires.same ∙ vars_is _ _ c.self.invariant c.self.view_is)

pub overflow_add-result : goal.overflow_add-result
overflow_add-result c =
    let left = degree_small _ c.self.invariant in
    let right = degree_small _ c.b.invariant in
    omega arith
