use Rattle.std.proofs.Common.{arith}
use Rattle.fm_algebra.specs.PolynomialMatrices.{matrix_scalar}
use Rattle.fm_poly.specs.Polys.{meaning}
use Rattle.fm_run.proofs.Calls.{wanted}
use Rattle.fm_graphs.specs.Graphs.{inside_run}
use Rattle.fm_graphs.proofs.Sizes.{inside_spends}
use Rattle.fm_support.proofs.ScalarRuns.{scalar_at, scalar_inside}
use Rattle.fm_syz.specs.GraphValues.{graph_meaning}
use Rattle.fm_syz.specs.Insides.{inside_value}
use Rattle.fm_support.proofs.inverting.inside_scalar.Goals as goal

pub returns-in_err-columns : goal.returns-in_err-columns
returns-in_err-columns c =
    let r = c.args.g.now.matrix.ring in
    let g = graph_meaning r c.args.g.now in
    let M = matrix_scalar r.prime r.vars (meaning r c.args.h.now.terms) g.matrix.rows in
    record { follows = wanted (inside_value r) c.from_residual.result c.args.work.now c.args.work.now (inside_run r M g c.args.work.now) c.from_residual.ensures (omega arith) (inside_spends r M g c.args.work.now) }

pub returns : goal.returns
returns c =
    let r = c.args.g.now.matrix.ring in
    record {
      follows = scalar_inside r (meaning r c.args.h.now.terms) (graph_meaning r c.args.g.now) c.in_ok-columns.columns
          (scalar_at c.args.h.now.ring r c.requires.ring c.args.h.now.terms c.rows.result c.args.g.now.matrix.rows c.rows.ensures c.in_ok-columns.columns c.in_ok-columns.ensures.value)
          c.inside_of.result c.args.work.now c.inside_of.new.work c.inside_of.ensures.follows;
    }
