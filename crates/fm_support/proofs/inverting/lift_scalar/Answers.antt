use Rattle.std.proofs.Common.{arith}
use Rattle.fm_mat.specs.Matrices.{matrix_meaning}
use Rattle.fm_algebra.specs.PolynomialMatrices.{matrix_scalar}
use Rattle.fm_poly.specs.Polys.{meaning}
use Rattle.fm_run.proofs.Calls.{wanted}
use Rattle.fm_graphs.proofs.Spending.{lifted_spends}
use Rattle.fm_support.specs.Powers.{scalar_lift}
use Rattle.fm_support.proofs.ScalarRuns.{scalar_at, scalar_lifted}
use Rattle.fm_syz.specs.GraphValues.{graph_meaning}
use Rattle.fm_support.proofs.inverting.lift_scalar.Goals as goal

pub returns-in_err-columns-clause-follows : goal.returns-in_err-columns-clause-follows
returns-in_err-columns-clause-follows c =
    let r = c.args.g.now.matrix.ring in
    let f = meaning r c.args.h.now.terms in
    let g = graph_meaning r c.args.g.now in
    wanted (matrix_meaning r) c.from_residual.result c.args.work.now c.args.work.now (scalar_lift r f g c.args.work.now) c.from_residual.ensures (omega arith) (lifted_spends r g (matrix_scalar r.prime r.vars f g.matrix.rows).columns c.args.work.now)

pub returns-clause-follows : goal.returns-clause-follows
returns-clause-follows c =
    let r = c.args.g.now.matrix.ring in
    scalar_lifted r (meaning r c.args.h.now.terms) (graph_meaning r c.args.g.now) c.in_ok-columns.columns
    (scalar_at c.args.h.now.ring r c.requires.ring c.args.h.now.terms c.rows.result c.args.g.now.matrix.rows c.rows.ensures c.in_ok-columns.columns c.in_ok-columns.ensures.value)
    c.lift_columns.result c.args.work.now c.lift_columns.new.work c.lift_columns.ensures.follows
