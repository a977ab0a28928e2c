use Rattle.std.proofs.Common.{arith, suc, ◌+◌, ◌-◌, ◌∷◌, ◌++◌, [], ◌≡◌, Some, map, slice_get, take, sym, ap, ◌∙◌, subst}
use Rattle.std.proofs.lemmas.List.{map-append}
use Rattle.fm_resolve.specs.Resolutions.{graphs_of}
use Rattle.fm_resolve.proofs.Stages.{take_more}
use Rattle.fm_resolve.proofs.resolution.Resolution.graphs.Goals as goal

pub loop-j-preserved : goal.loop-j-preserved
loop-j-preserved c =
    let gs = graphs_of c.args.self.now in
    let j = c.loop-j.j in
    let here : j + 1 - 1 ≡ j = omega arith in
    let next : suc j ≡ j + 1 = omega arith in
    ap (map (λ g. g.now)) c.in_ok-push.ensures.items ∙ map-append (λ g. g.now) c.loop-j.graphs.items (c.graph.result ∷ []) ∙ ap (λ hs. hs ++ c.graph.result.now ∷ []) c.loop-j.invariant
    ∙ sym (take_more gs j c.graph.result.now (subst (λ k. slice_get gs k ≡ Some c.graph.result.now) here c.graph.ensures.same)) ∙ ap (λ k. take k gs) next
