use Rattle.std.proofs.Common.{◌≡◌, ◌-◌, ap, length, map, sym, ◌∙◌, subst}
use Rattle.std.proofs.lemmas.List.{length-map}
use Rattle.std.proofs.lemmas.Result.{on_ok_weaker}
use Rattle.fm_certificates.specs.Certificates.{kernel_graph}
use Rattle.fm_chain.specs.Chains.{ChainValue, outside_value}
use Rattle.fm_chain.specs.Stages.{IsKilledOver}
use Rattle.fm_ext.specs.Exts.{ring_of}
use Rattle.fm_queries.specs.Bases.{base_meaning, stable_graph}
use Rattle.fm_queries.proofs.StableGraphs.{stable_ring}
use Rattle.fm_syz.specs.GraphValues.{GraphValue, graph_meaning}
use Rattle.fm_vec.specs.Components.{AreOver}
use Rattle.fm_certify.proofs.ChainedClasses.{dies_lines, lives_over, never_lines, outside_held}
use Rattle.fm_certify.proofs.classes.push_killed.Goals as goal

pub returns-in_ok-push_lives-in-At : goal.returns-in_ok-push_lives-in-At
returns-in_ok-push_lives-in-At c =
    let b = c.args.base.now in
    let r = ring_of b.ext in
    let moves = c.in-At.moves in
    let over = subst (IsKilledOver r) c.in-At.is c.requires in
    let number : c.saturating_sub-last.result ≡ moves - 1 = c.saturating_sub-last.ensures in
    let lives = lives_over r c.kernel.result.now.matrix.ring _ _ c.saturating_sub-last.result (moves - 1) c.kernel.result.now (kernel_graph r (base_meaning r b) (moves - 1)) _ _
    c.kernel.ensures.ring number (c.kernel.ensures.value ∙ ap (kernel_graph r (base_meaning r b)) number) (outside_held c.as_ref.result c.in-At.before c.as_ref.ensures.value)
    c.in_ok-push_lives-in-At.ensures in
    on_ok_weaker c.push_vector.result (dies_lines r b c.args.killed.now _ moves c.in-At.w c.in-At.before _ _ _ c.in-At.is c.as_slice.ensures.value lives)
    (c.push_vector.ensures r (subst (AreOver r) (sym c.as_slice.ensures.value) over.0))

pub returns-in-Never : goal.returns-in-Never
returns-in-Never c =
    let b = c.args.base.now in
    let r = ring_of b.ext in
    let same = c.stable_kernel.ensures.same in
    let growth = b.chain.growth in
    on_ok_weaker c.push_lives-in-Never.result
    (λ h. never_lines r b c.args.killed.now _ c.in-Never.before _ c.in-Never.is
    (lives_over r c.stable_kernel.result.now.matrix.ring _ _ c.stable-stable.result (length (map outside_value growth)) c.stable_kernel.result.now (graph_meaning r (stable_graph b)) _ _
    (ap (λ (g : GraphValue). g.matrix.ring) same ∙ stable_ring b c.stable_kernel.ensures.base)
    (c.stable-stable.ensures ∙ ap (λ (d : ChainValue). length d.growth) c.chain.ensures.same ∙ sym (length-map growth outside_value))
    (ap (graph_meaning r) same) (outside_held c.as_ref-in-Never.result c.in-Never.before c.as_ref-in-Never.ensures.value) h))
    c.push_lives-in-Never.ensures
