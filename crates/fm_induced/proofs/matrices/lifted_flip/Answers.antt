use Rattle.std.proofs.Common.{arith}
use Rattle.fm_mat.specs.Matrices.{matrix_meaning}
use Rattle.fm_plan.specs.Queries.{phi_work}
use Rattle.fm_run.proofs.Calls.{wanted}
use Rattle.fm_syz.specs.GraphValues.{graph_meaning}
use Rattle.fm_induced.proofs.MapRuns.{phi_spends, phi_told}
use Rattle.fm_induced.proofs.matrices.lifted_flip.Goals as goal

pub returns-in_err-flipped-clause-follows : goal.returns-in_err-flipped-clause-follows
returns-in_err-flipped-clause-follows c =
    let r = c.args.g.now.matrix.ring in
    let L = matrix_meaning r c.args.lambda.now in
    let Z = matrix_meaning r c.args.z.now in
    let G = graph_meaning r c.args.g.now in
    let old = c.args.work.now in
    wanted (matrix_meaning r) c.from_residual.result old old (phi_work r L Z G old) c.from_residual.ensures (omega arith) (phi_spends r L Z G old)

pub returns-clause-follows : goal.returns-clause-follows
returns-clause-follows c =
    let r = c.args.g.now.matrix.ring in
    phi_told r c.args.lambda.now c.in_ok-flipped.flipped (matrix_meaning r c.args.z.now) (graph_meaning r c.args.g.now) (c.in_ok-flipped.ensures.value r c.requires.ring)
    c.lift_of_product.result c.args.work.now c.lift_of_product.new.work c.lift_of_product.ensures.follows
