use Rattle.std.proofs.Common.{arith, ap}
use Rattle.fm_mat.specs.Matrices.{matrix_meaning}
use Rattle.fm_run.specs.Runs.{Ended}
use Rattle.fm_run.proofs.Calls.{wanted}
use Rattle.fm_graphs.specs.Graphs.{MatrixOf}
use Rattle.fm_syz.specs.GraphValues.{graph_meaning}
use Rattle.fm_plan.specs.Base.{lift_work}
use Rattle.fm_lift.proofs.Products.{work_spends}
use Rattle.fm_lift.proofs.frobenius.next_theta.Goals as goal

pub returns-in_err-push-clause-follows : goal.returns-in_err-push-clause-follows
returns-in_err-push-clause-follows c =
    let r = c.args.g.now.matrix.ring in
    let T = matrix_meaning r c.args.theta in
    let G = graph_meaning r c.args.g.now in
    let spent = work_spends r T G c.args.work.now in
    let left = ap (λ (d : Ended (MatrixOf r)). d.left) c.in_ok-next.ensures.follows in
    wanted (matrix_meaning r) c.from_residual-in_err-push.result c.args.work.now c.lift_through.new.work (lift_work r T G c.args.work.now) c.from_residual-in_err-push.ensures (omega (arith, spent, left)) (omega (arith, left))
