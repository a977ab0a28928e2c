use Rattle.std.proofs.Common.{◌≡◌, IfOk, subst}
use Rattle.fm_mat.specs.Matrices.{column_meaning, matrix_meaning}
use Rattle.fm_mat.proofs.Steps.{map_length}
use Rattle.fm_run.specs.Runs.{halt_of}
use Rattle.fm_run.proofs.Calls.{row_goes, row_stops}
use Rattle.fm_graphs.specs.Bounds.{multiplied}
use Rattle.fm_graphs.specs.Graphs.{lifted}
use Rattle.fm_graphs.proofs.Spending.{lifted_spends}
use Rattle.fm_syz.specs.GraphValues.{graph_meaning}
use Rattle.fm_lift.specs.Lifts.{product_work}
use Rattle.fm_run.proofs.Parts.{failed}
use Rattle.fm_lift.proofs.Products.{kept, multiplied_spends}
use Rattle.fm_lift.proofs.steps.lift_of_product.Goals as goal

pub returns-in_err-product-clause-follows : goal.returns-in_err-product-clause-follows
returns-in_err-product-clause-follows c =
    let r = c.args.g.now.matrix.ring in
    let A = matrix_meaning r c.args.a.now in
    let B = matrix_meaning r c.args.b.now in
    let G = graph_meaning r c.args.g.now in
    let units = c.args.work.now in
    failed (matrix_meaning r) halt_of c.from_residual.result c.in_err-product.field-0.0 units units (product_work r A B G units) c.from_residual.ensures
    (row_stops (multiplied r.prime r.vars A B) (λ C. lifted r G C.columns) units units (matrix_meaning r) (matrix_meaning r) halt_of c.in_err-product.field-0.0 (λ C. lifted_spends r G C.columns)
    (c.in_err-product.ensures.follows r units c.requires.ring))

pub returns-clause-follows : goal.returns-clause-follows
returns-clause-follows c =
    let r = c.args.g.now.matrix.ring in
    let A = matrix_meaning r c.args.a.now in
    let B = matrix_meaning r c.args.b.now in
    let G = graph_meaning r c.args.g.now in
    let units = c.args.work.now in
    row_goes (multiplied r.prime r.vars A B) (λ C. lifted r G C.columns) units c.lift_columns.new.work (matrix_meaning r c.in_ok-product.product) units (c.in_ok-product.ensures.follows r units c.requires.ring)
    (multiplied_spends r A B) (matrix_meaning r) halt_of c.lift_columns.result c.lift_columns.ensures.follows

pub returns-clause-rows : goal.returns-clause-rows
returns-clause-rows c =
    let r = c.args.g.now.matrix.ring in
    subst (λ n. IfOk c.lift_columns.result (λ m. m.rows ≡ n)) (map_length (column_meaning r) c.args.g.now.matrix.columns)
    (kept r (graph_meaning r c.args.g.now) c.in_ok-product.product c.lift_columns.result c.args.work.now c.lift_columns.new.work _ c.lift_columns.ensures.follows c.in_ok-product.ensures.count).0

pub returns-clause-count : goal.returns-clause-count
returns-clause-count c =
    let r = c.args.g.now.matrix.ring in
    (kept r (graph_meaning r c.args.g.now) c.in_ok-product.product c.lift_columns.result c.args.work.now c.lift_columns.new.work _ c.lift_columns.ensures.follows c.in_ok-product.ensures.count).1
