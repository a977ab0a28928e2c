use Rattle.std.proofs.Common.{subst, arith}
use Rattle.std.specs.Prelude.{IfOk}
use Rattle.fm_mat.specs.Matrices.{MatrixValue, matrix_meaning}
use Rattle.fm_run.specs.Runs.{Follows}
use Rattle.fm_run.proofs.Calls.{wanted}
use Rattle.fm_graphs.specs.Graphs.{inside_run, whole_run}
use Rattle.fm_syz.specs.GraphValues.{graph_meaning}
use Rattle.fm_syz.specs.Insides.{IsInsideOf, inside_value}
use Rattle.fm_syz.proofs.LiftedColumns.{whole_spends}
use Rattle.fm_syz.proofs.Inputs.{unit_at}
use Rattle.fm_syz.proofs.inside.whole_of.Goals as goal

pub returns-in_err-unit-clause-follows : goal.returns-in_err-unit-clause-follows
returns-in_err-unit-clause-follows c =
    let r = c.args.g.now.matrix.ring in
    let units = c.args.work.now in
    wanted (inside_value r) c.from_residual.result units units (whole_run r (graph_meaning r c.args.g.now) units) c.from_residual.ensures (omega arith) (whole_spends r (graph_meaning r c.args.g.now) units)

pub returns-clause-follows : goal.returns-clause-follows
unfolding whole_run
returns-clause-follows c =
    let g = c.args.g.now in
    let r = g.matrix.ring in
    let unit : MatrixValue = c.in_ok-unit.unit in
    subst (λ M. Follows (inside_value r) c.inside_of.result c.args.work.now c.inside_of.new.work (inside_run r M (graph_meaning r g) c.args.work.now))
    (unit_at r c.ring.result c.rows.result g.matrix.rows unit c.ring.ensures c.rows.ensures c.in_ok-unit.ensures.value) c.inside_of.ensures.follows

pub returns-clause-solves : goal.returns-clause-solves
returns-clause-solves c =
    let g = c.args.g.now in
    let r = g.matrix.ring in
    let unit : MatrixValue = c.in_ok-unit.unit in
    subst (λ M. IfOk c.inside_of.result (IsInsideOf r (matrix_meaning r g.matrix) M))
    (unit_at r c.ring.result c.rows.result g.matrix.rows unit c.ring.ensures c.rows.ensures c.in_ok-unit.ensures.value) c.inside_of.ensures.solves
