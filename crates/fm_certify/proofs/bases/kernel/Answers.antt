use Rattle.std.proofs.Common.{◌≡◌, ap, ◌∙◌}
use Rattle.fm_chain.specs.Chains.{ChainValue}
use Rattle.fm_syz.specs.GeneratorValues.{GeneratorsValue}
use Rattle.fm_syz.specs.GraphValues.{GraphValue}
use Rattle.fm_certify.proofs.ChainedBases.{kernel_means, kernel_ring, kernel_value, link_kernel}
use Rattle.fm_certify.proofs.bases.kernel.Goals as goal

pub returns-in-Some-clause-value : goal.returns-in-Some-clause-value
returns-in-Some-clause-value c =
    let b = c.args.base.now in
    let found = c.in-Some.ensures.lookup in
    let links = c.links.ensures.same ∙ ap (λ (d : ChainValue). d.links) c.chain.ensures.same in
    let is : c.graph.result.now ≡ kernel_value b c.ext.ensures.base c.args.s =
    c.graph.ensures ∙ ap (λ (x : GeneratorsValue). x.graph) c.generators-in-Some.ensures.same
    ∙ link_kernel b c.args.s c.links.result.now c.in-Some.link.now links c.if-s-eq0.false found.3.0 found.1 in
    kernel_means b c.args.s c.graph.result.now is

pub returns-in-Some-clause-ring : goal.returns-in-Some-clause-ring
returns-in-Some-clause-ring c =
    let b = c.args.base.now in
    let found = c.in-Some.ensures.lookup in
    let links = c.links.ensures.same ∙ ap (λ (d : ChainValue). d.links) c.chain.ensures.same in
    let is : c.graph.result.now ≡ kernel_value b c.ext.ensures.base c.args.s =
    c.graph.ensures ∙ ap (λ (x : GeneratorsValue). x.graph) c.generators-in-Some.ensures.same
    ∙ link_kernel b c.args.s c.links.result.now c.in-Some.link.now links c.if-s-eq0.false found.3.0 found.1 in
    ap (λ (g : GraphValue). g.matrix.ring) is ∙ kernel_ring b c.ext.ensures.base c.args.s
