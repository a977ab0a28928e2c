use Rattle.std.proofs.Common.{arith, ap}
use Rattle.fm_mat.specs.Matrices.{matrix_meaning}
use Rattle.fm_run.specs.Runs.{Ended}
use Rattle.fm_run.proofs.Calls.{wanted}
use Rattle.fm_graphs.specs.Graphs.{MatrixOf}
use Rattle.fm_syz.specs.GraphValues.{graph_meaning}
use Rattle.fm_lift.specs.Lifts.{product_work}
use Rattle.fm_lift.proofs.Products.{product_spends}
use Rattle.fm_lift.proofs.identity.next_lambda.Goals as goal

pub returns-in_err-push-clause-follows : goal.returns-in_err-push-clause-follows
returns-in_err-push-clause-follows c =
    let r = c.args.g.now.matrix.ring in
    let T = matrix_meaning r c.args.lambda in
    let D = matrix_meaning r c.args.d.now in
    let G = graph_meaning r c.args.g.now in
    let spent = product_spends r T D G c.args.work.now in
    let left = ap (λ (d : Ended (MatrixOf r)). d.left) c.in_ok-next.ensures.follows in
    wanted (matrix_meaning r) c.from_residual-in_err-push.result c.args.work.now c.lift_of_product.new.work (product_work r T D G c.args.work.now) c.from_residual-in_err-push.ensures (omega (arith, spent, left)) (omega (arith, left))
