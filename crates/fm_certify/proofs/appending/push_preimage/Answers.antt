use Rattle.std.proofs.Common.{ap, sym, ◌∙◌, refl}
use Rattle.fm_syz.specs.GeneratorValues.{GeneratorsValue}
use Rattle.fm_syz.specs.GraphValues.{GraphValue}
use Rattle.fm_writer.specs.Kinds.{generating_line}
use Rattle.fm_certify.proofs.Appended.{claim_appended}
use Rattle.fm_certify.proofs.SingleLines.{preimage_line}
use Rattle.fm_certify.proofs.SingleParts.{part_told, vars_told}
use Rattle.fm_certify.proofs.appending.push_preimage.Goals as goal
use Rattle.std.proofs.Common.{◌∷◌, []}

pub returns : goal.returns
returns c =
    let p = c.args.preimage.now in
    let x = p.generators in
    let r = x.graph.matrix.ring in
    let same = c.generators-generators.ensures.same in
    let told = c.generators-generators.ensures.generate in
    let found = c.found.ensures ∙ ap (λ (y : GeneratorsValue). y.graph.matrix) same in
    let found-2 = c.found-2.ensures ∙ ap (λ (y : GeneratorsValue). y.graph.matrix) same in
    let below = c.x.ensures ∙ ap (λ (y : GeneratorsValue). y.x) same in
    let below-2 = c.x-2.ensures ∙ ap (λ (y : GeneratorsValue). y.x) same in
    let width = c.w.ensures ∙ ap (λ (y : GeneratorsValue). y.w) same in
    let width-2 = c.w-2.ensures ∙ ap (λ (y : GeneratorsValue). y.w) same in
    let x_ring = told.x_ring ∙ sym told.graph_ring in
    let w_ring = told.w_ring ∙ sym told.graph_ring in
    claim_appended r.vars _ _ _ _ c.in_ok-push.ensures.items
    (vars_told r x.graph.matrix _ found-2 refl, (c.requires, vars_told r x.x _ below-2 x_ring, vars_told r x.w _ width-2 w_ring))
    (preimage_line r p (generating_line c.args.kind) _ _ _ _ _
    (part_told r x.graph.matrix _ _ found found-2 refl c.tell_matrix.ensures)
    (c.log.ensures ∙ ap (λ (g : GraphValue). g.log) c.whole.ensures.same)
    (part_told r x.x _ _ below below-2 x_ring c.tell_matrix-2.ensures)
    (part_told r x.w _ _ width width-2 w_ring c.tell_matrix-3.ensures))
