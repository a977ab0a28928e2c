use Rattle.std.proofs.Common.{◌≡◌, ap, ◌∙◌}
use Rattle.std.proofs.lemmas.Result.{on_ok_weaker}
use Rattle.fm_ext.specs.Exts.{ExtValue}
use Rattle.fm_queries.specs.Bases.{relations_graph}
use Rattle.fm_syz.specs.GeneratorValues.{GeneratorsValue, PreimageValue}
use Rattle.fm_certify.proofs.ChainedBases.{base_lines}
use Rattle.fm_certify.proofs.bases.push_base.Goals as goal

pub returns : goal.returns
returns c =
    let b = c.args.base.now in
    let ext = c.ext-ext.ensures.same in
    let graph : c.graph.result.now ≡ relations_graph b =
    c.graph.ensures ∙ ap (λ (x : GeneratorsValue). x.graph) c.generators.ensures.same ∙ ap (λ (p : PreimageValue). p.generators.graph) c.relations.ensures.same
    ∙ ap (λ (y : ExtValue). y.relations.generators.graph) ext in
    on_ok_weaker c.push_chain.result
    (base_lines b c.ext-ext.ensures.base c.args.degree _ _ _ c.ext-ext.result.now c.graph.result.now c.u.result.now c.chain.result.now ext graph
    (c.u.ensures.same ∙ ap (λ (y : ExtValue). y.u) ext) c.chain.ensures.same c.in_ok-push_ext.ensures)
    c.push_chain.ensures
