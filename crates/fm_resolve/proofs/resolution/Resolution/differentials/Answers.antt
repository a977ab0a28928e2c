use Rattle.std.proofs.Common.{arith, suc, ◌+◌, ◌-◌, ◌∷◌, ◌++◌, [], ◌≡◌, Some, map, slice_get, take, sym, ap, ◌∙◌, subst}
use Rattle.std.proofs.lemmas.List.{map-append}
use Rattle.fm_syz.specs.GraphValues.{GraphValue}
use Rattle.fm_resolve.specs.Resolutions.{graphs_of}
use Rattle.fm_resolve.proofs.Stages.{take_more}
use Rattle.fm_resolve.proofs.resolution.Resolution.differentials.Goals as goal

pub loop-j-preserved : goal.loop-j-preserved
loop-j-preserved c =
    let ds = map (λ (g : GraphValue). g.matrix) (graphs_of c.args.self.now) in
    let j = c.loop-j.j in
    let here : j + 1 - 1 ≡ j = omega arith in
    let next : suc j ≡ j + 1 = omega arith in
    ap (map (λ d. d.now)) c.in_ok-push.ensures.items ∙ map-append (λ d. d.now) c.loop-j.differentials.items (c.differential.result ∷ []) ∙ ap (λ hs. hs ++ c.differential.result.now ∷ []) c.loop-j.invariant
    ∙ sym (take_more ds j c.differential.result.now (subst (λ k. slice_get ds k ≡ Some c.differential.result.now) here c.differential.ensures.same)) ∙ ap (λ k. take k ds) next
