use Rattle.std.proofs.Common.{◌≡◌, Ok, Err, IfOk, sym, ap, ◌∙◌, subst, subst₂}
use Rattle.fm_poly.specs.declared.ring.Ring.{Ring}
use Rattle.fm_mat.specs.Matrices.{MatrixValue}
use Rattle.fm_run.proofs.Parts.{failed}
use Rattle.fm_plan.specs.Following.{FollowsPlan, unanswered_by}
use Rattle.fm_syz.specs.GraphValues.{GraphValue}
use Rattle.fm_syz.specs.GeneratorValues.{GeneratorsValue, PreimageValue}
use Rattle.fm_resolve.specs.Resolutions.{ResolutionValue, resolution_value}
use Rattle.fm_ext.specs.Exts.{ExtValue, IsExt}
use Rattle.fm_chain.specs.Chains.{ChainValue, AreMembersOf, HasFactor}
use Rattle.fm_queries.proofs.BaseRuns.{ext_stops, chain_stops, chain_ends, chain_told}
use Rattle.fm_queries.proofs.base.compute_base_of.Goals as goal

pub returns-in_err-ext-clause-follows : goal.returns-in_err-ext-clause-follows
returns-in_err-ext-clause-follows c =
    let r = c.args.resolution.first.matrix.ring in
    failed _ unanswered_by c.from_residual.result c.in_err-ext.field-0.0 _ _ _ c.from_residual.ensures
    (ext_stops r c.args.side c.args.degree (resolution_value r c.args.resolution) c.args.work.now c.ext.new.work c.in_err-ext.field-0.0 c.in_err-ext.ensures.follows)

pub returns-in_err-chain-clause-follows : goal.returns-in_err-chain-clause-follows
returns-in_err-chain-clause-follows c =
    let r = c.args.resolution.first.matrix.ring in
    let y = c.in_ok-ext.ext in
    let s = c.in_err-chain.field-0.0 in
    let graph : c.graph-relations.result.now ≡ y.relations.generators.graph = c.graph-relations.ensures ∙ ap (λ (x : GeneratorsValue). x.graph) (c.generators.ensures.same ∙ ap (λ (p : PreimageValue). p.generators) c.relations.ensures.same) in
    let ring : y.relations.generators.graph.matrix.ring ≡ r = c.in_ok-ext.ensures.presents.relations ∙ ap (λ (x : ResolutionValue). x.first.matrix.ring) c.in_ok-ext.ensures.resolution in
    failed _ unanswered_by c.from_residual-in_err-chain.result s _ _ _ c.from_residual-in_err-chain.ensures
    (chain_stops r c.args.side c.args.degree (resolution_value r c.args.resolution) c.args.work.now c.ext.new.work c.kernel_chain.new.work y c.in_ok-ext.ensures.follows s
    (chain_told r c.args.side (λ (d : ChainValue). d) y.relations.generators.graph c.graph-relations.result.now y.u c.u.result.now (Err s) c.ext.new.work c.kernel_chain.new.work graph c.u.ensures.same ring c.in_err-chain.ensures.follows))

pub invariant_of-result : goal.invariant_of-result
invariant_of-result c =
    let y = c.in_ok-ext.ext in
    let graph : c.graph-relations.result.now ≡ y.relations.generators.graph = c.graph-relations.ensures ∙ ap (λ (x : GeneratorsValue). x.graph) (c.generators.ensures.same ∙ ap (λ (p : PreimageValue). p.generators) c.relations.ensures.same) in
    record {
      ext = c.in_ok-ext.ensures.presents;
      members = subst₂ (λ (s : Ring) m. AreMembersOf s m c.in_ok-chain.chain.links) (ap (λ (g : GraphValue). g.matrix.ring) graph ∙ c.in_ok-ext.ensures.presents.relations)
          (ap (λ (g : GraphValue). g.matrix.rows) graph ∙ c.in_ok-ext.ensures.presents.relations_rows) c.in_ok-chain.ensures.members;
      count = c.links-links.ensures.count;
      factor = subst₂ (λ (s : Ring) (g : GraphValue). HasFactor s g c.in_ok-chain.chain) (ap (λ (g : GraphValue). g.matrix.ring) graph ∙ c.in_ok-ext.ensures.presents.relations) graph c.in_ok-chain.ensures.factor;
    }

pub returns-clause-follows : goal.returns-clause-follows
returns-clause-follows c =
    let r = c.args.resolution.first.matrix.ring in
    let y = c.in_ok-ext.ext in
    let d = c.in_ok-chain.chain in
    let graph : c.graph-relations.result.now ≡ y.relations.generators.graph = c.graph-relations.ensures ∙ ap (λ (x : GeneratorsValue). x.graph) (c.generators.ensures.same ∙ ap (λ (p : PreimageValue). p.generators) c.relations.ensures.same) in
    let ring : y.relations.generators.graph.matrix.ring ≡ r = c.in_ok-ext.ensures.presents.relations ∙ ap (λ (x : ResolutionValue). x.first.matrix.ring) c.in_ok-ext.ensures.resolution in
    chain_ends r c.args.side c.args.degree (resolution_value r c.args.resolution) c.args.work.now c.ext.new.work c.kernel_chain.new.work y c.in_ok-ext.ensures.follows d
    (chain_told r c.args.side (λ (d : ChainValue). d) y.relations.generators.graph c.graph-relations.result.now y.u c.u.result.now (Ok d) c.ext.new.work c.kernel_chain.new.work graph c.u.ensures.same ring c.in_ok-chain.ensures.follows)
