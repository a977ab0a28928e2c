use Rattle.std.proofs.Common.{◌+◌, Some, sum, take, sym, refl, ap, ◌∙◌, arith}
use Rattle.fm_tuple.specs.Tuple.{tuple_sum}
use Rattle.fm_tuple.proofs.Tuples.{length_tuple_sum}
use Rattle.fm_mono.proofs.Bounds.{bounded_none, bounded_some, padded_within}
use Rattle.fm_mono.proofs.Packing.{entrywise_padded, packed_padded, shown, sum_exponents, sum_product, vars_is, degree_small}
use Rattle.fm_mono.proofs.mono.Mono.times.Goals as goal

pub overflow_add-degree : goal.overflow_add-degree
overflow_add-degree c =
    let left = degree_small _ c.self.invariant in
    let right = degree_small _ c.b.invariant in
    omega arith

pub are_within-requires : goal.are_within-requires
are_within-requires c =
    sum_product _ _ _ _ c.self.invariant c.b.invariant c.self.view_is c.b.view_is (sym c.requires) ∙ ap (λ x. sum x) (sym c.add_all-exponents.ensures)

pub returns-then-not-are_within : goal.returns-then-not-are_within
returns-then-not-are_within c =
    let is = c.add_all-exponents.ensures ∙ entrywise_padded _ _ _ _ c.self.invariant c.b.invariant c.self.view_is c.b.view_is (sym c.requires) ◌+◌ refl in
    bounded_none (tuple_sum c.args.self c.args.b) (sym (padded_within _ _ _ is) ∙ sym c.are_within.ensures ∙ c.if-not-are_within.true)

pub invariant_of-result : goal.invariant_of-result
invariant_of-result c =
    let is = c.add_all-exponents.ensures ∙ entrywise_padded _ _ _ _ c.self.invariant c.b.invariant c.self.view_is c.b.view_is (sym c.requires) ◌+◌ refl in
    packed_padded _ _ _ (tuple_sum c.args.self c.args.b) c.self.invariant.some c.self.invariant.few is
    (length_tuple_sum _ _ c.requires ∙ vars_is _ _ c.self.invariant c.self.view_is)
    (sym (padded_within _ _ _ is) ∙ sym c.are_within.ensures ∙ c.if-not-are_within.false)
    (sum_exponents _ _ _ _ c.self.invariant c.b.invariant c.self.view_is c.b.view_is (sym c.requires))

pub returns : goal.returns
returns c =
    let is = c.add_all-exponents.ensures ∙ entrywise_padded _ _ _ _ c.self.invariant c.b.invariant c.self.view_is c.b.view_is (sym c.requires) ◌+◌ refl in
    ap Some (ap (take c.self.inside.vars) is ∙ shown _ _ _ (length_tuple_sum _ _ c.requires ∙ vars_is _ _ c.self.invariant c.self.view_is))
    ∙ bounded_some _ (sym (padded_within _ _ _ is) ∙ sym c.are_within.ensures ∙ c.if-not-are_within.false)
