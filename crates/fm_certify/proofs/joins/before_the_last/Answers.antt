use Rattle.std.proofs.Common.{◌≡◌, ◌-◌, suc, sym, ap, ◌∙◌, subst, arith}
use Rattle.fm_certify.proofs.JoinedLines.{matrix_over}
use Rattle.fm_certify.proofs.JoinedShort.{got, join_part, link_log_at, link_part_at, link_ring}
use Rattle.fm_certificates.specs.Certificates.{matrix_part}
use Rattle.fm_mat.specs.Matrices.{MatrixValue, matrix_meaning}
use Rattle.fm_poly.specs.declared.ring.Ring.{Ring}
use Rattle.fm_syz.specs.GeneratorValues.{GeneratorsValue}
use Rattle.fm_syz.specs.GraphValues.{GraphValue}
use Rattle.fm_writer.specs.Claims.{IsOperandOver, operand_part}
use Rattle.fm_certify.proofs.joins.before_the_last.Goals as goal

pub returns-in-Some-clause-part : goal.returns-in-Some-clause-part
returns-in-Some-clause-part c =
    let k = c.args.first.now in
    let r = k.matrix.ring in
    let x = c.in-Some.link.now in
    let here = got c.args.links.now (c.args.s - 1) x c.in-Some.ensures.lookup.3.0 c.in-Some.ensures.lookup.1 in
    let graph : c.graph-graph.result.now ≡ x.generators.graph = c.graph-graph.ensures ∙ ap (λ (g : GeneratorsValue). g.graph) c.generators.ensures.same in
    let m : c.matrix.result.now ≡ x.generators.graph.matrix = c.matrix.ensures.same ∙ ap (λ (g : GraphValue). g.matrix) graph in
    let ring = link_ring k c.args.links.now (c.args.s - 1) x here c.requires.over in
    let one = ap (λ (y : MatrixValue). y.ring) m ∙ ring in
    matrix_over r c.matrix.result.now (operand_part c.matrix-in-Some.result) one c.matrix-in-Some.ensures.value
    ∙ ap (λ (y : MatrixValue). matrix_part r (matrix_meaning r y)) m
    ∙ sym (link_part_at r c.args.links.now (c.args.s - 1) x here (join_part r c.args.n.now c.args.phi.now) c.args.s (omega (arith, c.if-s-eq0.false)))

pub returns-in-Some-clause-log : goal.returns-in-Some-clause-log
returns-in-Some-clause-log c =
    let k = c.args.first.now in
    let r = k.matrix.ring in
    let x = c.in-Some.link.now in
    let here = got c.args.links.now (c.args.s - 1) x c.in-Some.ensures.lookup.3.0 c.in-Some.ensures.lookup.1 in
    let graph : c.graph-graph.result.now ≡ x.generators.graph = c.graph-graph.ensures ∙ ap (λ (g : GeneratorsValue). g.graph) c.generators.ensures.same in
    ap (λ (g : GraphValue). g.log) graph ∙ sym (link_log_at r c.args.links.now (c.args.s - 1) x here k c.args.s (omega (arith, c.if-s-eq0.false)))

pub returns-in-Some-clause-over : goal.returns-in-Some-clause-over
returns-in-Some-clause-over c =
    let k = c.args.first.now in
    let x = c.in-Some.link.now in
    let here = got c.args.links.now (c.args.s - 1) x c.in-Some.ensures.lookup.3.0 c.in-Some.ensures.lookup.1 in
    let graph : c.graph-graph.result.now ≡ x.generators.graph = c.graph-graph.ensures ∙ ap (λ (g : GeneratorsValue). g.graph) c.generators.ensures.same in
    let m : c.matrix.result.now ≡ x.generators.graph.matrix = c.matrix.ensures.same ∙ ap (λ (g : GraphValue). g.matrix) graph in
    let ring = link_ring k c.args.links.now (c.args.s - 1) x here c.requires.over in
    subst (λ (s : Ring). IsOperandOver s.vars c.matrix-in-Some.result) (ap (λ (y : MatrixValue). y.ring) m ∙ ring) c.matrix-in-Some.ensures.over
