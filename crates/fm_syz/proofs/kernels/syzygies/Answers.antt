use Rattle.std.proofs.Common.{◌∙◌, sym, subst}
use Rattle.fm_algebra.specs.PolynomialMatrices.{GeneratesKernel}
use Rattle.fm_mat.specs.Matrices.{matrix_meaning}
use Rattle.fm_graphs.proofs.Graphs.{syzygies_generate}
use Rattle.fm_syz.specs.GraphValues.{graph_meaning}
use Rattle.fm_syz.proofs.LowerBlocks.{syzygies_are}
use Rattle.fm_syz.proofs.kernels.syzygies.Goals as goal

pub returns-clause-value : goal.returns-clause-value
returns-clause-value c r ring =
    syzygies_are r c.ring-ring.result c.args.g.now c.rows.result c.width.result c.width-2.result c.members.result.now c.in_ok-columns.columns.items (c.ring-ring.ensures ∙ ring) c.rows.ensures c.width.ensures
    c.members.ensures.same c.in_ok-columns.ensures.value c.new.result c.new.ensures c.width-2.ensures

pub returns-clause-kernel : goal.returns-clause-kernel
returns-clause-kernel c =
    let g = c.args.g.now in
    let r = g.matrix.ring in
    let K = syzygies_are r c.ring-ring.result g c.rows.result c.width.result c.width-2.result c.members.result.now c.in_ok-columns.columns.items c.ring-ring.ensures c.rows.ensures c.width.ensures
    c.members.ensures.same c.in_ok-columns.ensures.value c.new.result c.new.ensures c.width-2.ensures in
    subst (λ M. GeneratesKernel r.prime r.vars M (matrix_meaning r g.matrix)) (sym K) (syzygies_generate r (graph_meaning r g) c.members.ensures.complete.completed)
