use Rattle.std.proofs.Common.{◌≡◌, length, sym, ap, ◌∙◌, subst}
use Rattle.fm_mat.specs.Matrices.{AreColumns, MatrixValue}
use Rattle.fm_poly.specs.declared.ring.Ring.{Ring}
use Rattle.fm_syz.specs.GeneratorValues.{GeneratorsValue}
use Rattle.fm_syz.specs.GraphValues.{GraphValue, graph_meaning}
use Rattle.fm_support.specs.Inverting.{AreColons, outside_value}
use Rattle.fm_support.proofs.ColonRuns.{colons_more}
use Rattle.fm_induced.proofs.JoinRuns.{reached_value}
use Rattle.fm_induced.proofs.joins.reached.Goals as goal

pub new-w-requires-clause-shape : goal.new-w-requires-clause-shape
new-w-requires-clause-shape c =
    let E : c.graph.result.now ≡ c.args.x.generators.graph = c.graph.ensures ∙ ap (λ (y : GeneratorsValue). y.graph) c.generators.ensures.same in
    subst (λ (s : Ring). AreColumns s c.width-width.result c.args.columns.items) (sym c.ring.ensures)
    (subst (λ n. AreColumns c.args.first.now.matrix.ring n c.args.columns.items) (sym (c.width-width.ensures ∙ ap (λ (g : GraphValue). length g.matrix.columns) E)) c.requires.columns)

pub returns-clause-value : goal.returns-clause-value
returns-clause-value c =
    let g = c.args.first.now in
    let r = g.matrix.ring in
    let E : c.graph.result.now ≡ c.args.x.generators.graph = c.graph.ensures ∙ ap (λ (y : GeneratorsValue). y.graph) c.generators.ensures.same in
    sym (reached_value r (graph_meaning r g) c.args.c.links.items c.push.new.self.items c.args.x c.in_ok-push.ensures.items c.args.x.generators.graph c.new-w.result c.args.columns.items
    (ap (λ (m : MatrixValue). m.rows) c.new-w.ensures ∙ c.width-width.ensures ∙ ap (λ (g : GraphValue). length g.matrix.columns) E) (ap (λ (m : MatrixValue). m.columns) c.new-w.ensures) (outside_value c.args.c.proper))

pub returns-clause-ended : goal.returns-clause-ended
returns-clause-ended c =
    let k = c.args.first.now in
    λ old new. (subst (AreColons k) (sym c.in_ok-push.ensures.items) (colons_more k c.args.c.links.items c.args.x c.requires.links c.requires.ring c.requires.rows), ap (λ (m : MatrixValue). m.ring) c.new-w.ensures ∙ c.ring.ensures)
