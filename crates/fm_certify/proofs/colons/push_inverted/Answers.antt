use Rattle.std.proofs.Common.{◌≡◌, length, OnOk, option_map, option_copied, refl, sym, ap, ◌∙◌, subst}
use Rattle.fm_certificates.specs.Certificates.{inverted_claims, least_claims}
use Rattle.fm_certify.specs.Claims.{HasClaims}
use Rattle.fm_certify.proofs.JoinedInverted.{NeverOver, never_claims, never_lines, never_moved, ok_then, power_claims, power_lines, power_moved}
use Rattle.fm_chain.specs.Chains.{outside_value}
use Rattle.fm_ext.specs.Exts.{ring_of}
use Rattle.fm_mat.specs.Matrices.{matrix_meaning}
use Rattle.fm_queries.specs.Bases.{base_meaning, stable_graph}
use Rattle.fm_queries.proofs.StableGraphs.{stable_ring}
use Rattle.fm_support.specs.Inverting.{AreColons, IsInvertedOver, inverted_value}
use Rattle.fm_support.specs.declared.inverting.Inverted.{Inverted}
use Rattle.fm_syz.specs.GeneratorValues.{PreimageValue}
use Rattle.fm_syz.specs.GraphValues.{GraphValue, graph_meaning}
use Rattle.fm_certify.proofs.colons.push_inverted.Goals as goal

pub push_colons-requires-clause-ring : goal.push_colons-requires-clause-ring
push_colons-requires-clause-ring c =
    c.requires.ring ∙ sym (ap (λ (g : GraphValue). g.matrix.ring) c.stable_kernel-stable.ensures.same ∙ stable_ring c.args.base.now c.stable_kernel-stable.ensures.base)

pub returns-in_ok-push_matrix-in-Power : goal.returns-in_ok-push_matrix-in-Power
returns-in_ok-push_matrix-in-Power c = λ f value.
    let b = c.args.base.now in
    let r = ring_of b.ext in
    let k = stable_graph b in
    let g = c.stable_kernel-stable.result.now in
    let same = c.stable_kernel-stable.ensures.same in
    let w = c.in-Power.w in
    let old = c.args.claims.now.items in
    let new = c.push_least.new.claims.items in
    let over : w.ring ≡ k.matrix.ring = subst (IsInvertedOver k) c.in-Power.is c.requires.over in
    let at = over ∙ ap (λ (x : GraphValue). x.matrix.ring) (sym same) in
    let o = option_map outside_value c.in-Power.before in
    subst (λ (v : Inverted). OnOk c.push_least.result (HasClaims r.vars old (inverted_claims r (base_meaning r b) f (inverted_value r v)) new)) (sym c.in-Power.is)
    (power_moved c.push_least.result old new w o g k r same (stable_ring b c.stable_kernel-stable.ensures.base)
    (ok_then c.push_least.result (HasClaims g.matrix.ring.vars c.push_matrix.new.claims.items
    (least_claims g.matrix.ring (graph_meaning g.matrix.ring g) (option_map outside_value (option_copied c.as_ref.result))) new) (HasClaims g.matrix.ring.vars old (power_claims g.matrix.ring g w o) new)
    (power_lines g.matrix.ring g w (option_map outside_value (option_copied c.as_ref.result)) o old c.push_matrix.new.claims.items new at
    (ap (λ x. option_map outside_value x) c.as_ref.ensures.value) c.in_ok-push_matrix-in-Power.ensures)
    c.push_least.ensures))

pub returns-in_ok-push_matrix-in-Never : goal.returns-in_ok-push_matrix-in-Never
returns-in_ok-push_matrix-in-Never c = λ f value.
    let b = c.args.base.now in
    let r = ring_of b.ext in
    let k = stable_graph b in
    let g = c.stable_kernel-stable.result.now in
    let same = c.stable_kernel-stable.ensures.same in
    let w = c.in-Never.w in
    let xs = c.as_slice-colons.result.now in
    let o = outside_value c.in-Never.proper in
    let old = c.args.claims.now.items in
    let new = c.push_outside.new.claims.items in
    let over : AreColons k c.in-Never.colons.items × (w.ring ≡ k.matrix.ring) = subst (IsInvertedOver k) c.in-Never.is c.requires.over in
    let at = over.1 ∙ ap (λ (x : GraphValue). x.matrix.ring) (sym same) in
    let colons : AreColons g xs = subst (λ (x : GraphValue). AreColons x xs) (sym same) (subst (AreColons k) (sym c.as_slice-colons.ensures.value) over.0) in
    subst (λ (v : Inverted). OnOk c.push_outside.result (HasClaims r.vars old (inverted_claims r (base_meaning r b) f (inverted_value r v)) new)) (sym c.in-Never.is)
    (never_moved c.push_outside.result c.args.scalar.now old new w o g k r xs c.in-Never.colons.items same (stable_ring b c.stable_kernel-stable.ensures.base) c.as_slice-colons.ensures.value
    (λ d known.
    ok_then c.push_outside.result _ (HasClaims g.matrix.ring.vars old (never_claims g.matrix.ring d g xs w o) new)
    (never_lines g.matrix.ring d g c.before_the_last.result.now xs w o _ old c.push_colons.new.claims.items c.push_matrix-in-Never.new.claims.items new at
    (c.before_the_last.ensures.ring colons) c.before_the_last.ensures.graph refl (c.in_ok-push_colons-in-Never.ensures d known) c.in_ok-push_matrix-in-Never.ensures)
    c.push_outside.ensures) f value)
