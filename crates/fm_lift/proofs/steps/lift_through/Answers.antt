use Rattle.std.proofs.Common.{Ok, Err, ap, subst}
use Rattle.fm_mat.specs.Matrices.{MatrixValue, matrix_meaning}
use Rattle.fm_run.specs.Runs.{Follows, halt_of}
use Rattle.fm_run.proofs.Calls.{row_goes, row_stops}
use Rattle.fm_graphs.specs.Bounds.{twisted_matrix}
use Rattle.fm_syz.specs.GraphValues.{graph_meaning}
use Rattle.fm_plan.specs.Base.{lift_work}
use Rattle.fm_lift.specs.Lifts.{product_work}
use Rattle.fm_run.proofs.Parts.{failed}
use Rattle.fm_lift.proofs.Products.{product_spends, twisted_spends}
use Rattle.fm_lift.proofs.steps.lift_through.Goals as goal

pub returns-in_err-power-clause-follows : goal.returns-in_err-power-clause-follows
unfolding lift_work
returns-in_err-power-clause-follows c =
    let r = c.args.g.now.matrix.ring in
    let T = matrix_meaning r c.args.theta.now in
    let G = graph_meaning r c.args.g.now in
    let units = c.args.work.now in
    failed (matrix_meaning r) halt_of c.from_residual.result c.in_err-power.field-0.0 units units (lift_work r T G units) c.from_residual.ensures
    (row_stops (twisted_matrix r.prime r.vars 1 G.matrix) (λ D. product_work r T D G) units units (matrix_meaning r) (matrix_meaning r) halt_of c.in_err-power.field-0.0 (λ D. product_spends r T D G)
    (subst (λ (m : MatrixValue). Follows (matrix_meaning r) (Err c.in_err-power.field-0.0) units units (twisted_matrix r.prime r.vars 1 (matrix_meaning r m) units)) c.matrix.ensures.same
    (c.in_err-power.ensures.follows r units (ap (λ (m : MatrixValue). m.ring) c.matrix.ensures.same))))

pub returns-clause-follows : goal.returns-clause-follows
unfolding lift_work
returns-clause-follows c =
    let r = c.args.g.now.matrix.ring in
    let T = matrix_meaning r c.args.theta.now in
    let G = graph_meaning r c.args.g.now in
    let units = c.args.work.now in
    row_goes (twisted_matrix r.prime r.vars 1 G.matrix) (λ D. product_work r T D G) units c.lift_of_product.new.work (matrix_meaning r c.in_ok-power.power) units
    (subst (λ (m : MatrixValue). Follows (matrix_meaning r) (Ok c.in_ok-power.power) units units (twisted_matrix r.prime r.vars 1 (matrix_meaning r m) units)) c.matrix.ensures.same
    (c.in_ok-power.ensures.follows r units (ap (λ (m : MatrixValue). m.ring) c.matrix.ensures.same)))
    (twisted_spends r G.matrix) (matrix_meaning r) halt_of c.lift_of_product.result c.lift_of_product.ensures.follows
