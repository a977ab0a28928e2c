use Rattle.std.proofs.Common.{◌≡◌, ◌<◌, ◌++◌, ◌∷◌, [], List, length, map, suc, take, sym, ap, ◌∙◌, arith}
use Rattle.std.proofs.lemmas.List.{map-append, take_more}
use Rattle.fm_mat.proofs.Steps.{map_length}
use Rattle.fm_syz.specs.GraphValues.{GraphValue}
use Rattle.fm_syz.specs.GeneratorValues.{PreimageValue}
use Rattle.fm_chain.specs.Chains.{member_graph, member_graphs}
use Rattle.fm_chain.proofs.chain.Chain.graphs.Goals as goal

pub loop-s-preserved : goal.loop-s-preserved
loop-s-preserved c =
    let g = c.args.relations.now in
    let links = c.args.self.now.links in
    let s = c.loop-s.s in
    let long = map_length (λ (x : PreimageValue). x.generators.graph) links in
    let same : length c.links-links.result.now ≡ length links = ap length c.links-links.ensures.same in
    let less : s < length (member_graphs g links) = (let t = c.loop-s-test.true in omega (arith, t, long, same)) in
    let here : c.member.result.now ≡ member_graph g links s = c.member.ensures ∙ ap (λ (xs : List PreimageValue). member_graph g xs s) c.links-links.ensures.same in
    ap (map (λ g. g.now)) c.in_ok-push.ensures.items ∙ map-append (λ g. g.now) c.loop-s.graphs.items (c.member.result ∷ []) ∙ ap (λ hs. hs ++ c.member.result.now ∷ []) c.loop-s.invariant
    ∙ ap (λ (h : GraphValue). take s (member_graphs g links) ++ h ∷ []) here ∙ sym (take_more (member_graphs g links) s g less)

pub returns : goal.returns
returns c =
    let links = c.args.self.now.links in
    let same : length c.links-links.result.now ≡ length links = ap length c.links-links.ensures.same in
    let all : c.loop-s.s ≡ suc (length c.args.self.now.growth) = (let count = c.links-links.ensures.count in let most = c.loop-s.auto.s-end in let least = c.loop-s-test.false in omega (arith, same, count, most, least)) in
    c.loop-s.invariant ∙ ap (λ k. take k (member_graphs c.args.relations.now links)) all
