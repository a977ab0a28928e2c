use Rattle.std.proofs.Common.{arith}
use Rattle.fm_limit.specs.ResolvedIdeal.{row}
use Rattle.fm_mat.specs.Matrices.{column_meaning}
use Rattle.fm_run.proofs.Calls.{wanted}
use Rattle.fm_graphs.specs.Graphs.{graph_run}
use Rattle.fm_graphs.proofs.Spending.{graph_spends}
use Rattle.fm_syz.specs.GraphValues.{GraphValue, graph_meaning}
use Rattle.fm_resolve.proofs.rows.first_graph.Goals as goal

pub returns-in_err-row-clause-follows : goal.returns-in_err-row-clause-follows
returns-in_err-row-clause-follows c =
    let r = c.args.ring in
    let A = row r.prime r.vars (column_meaning r c.args.generators.now) in
    wanted (λ (g : GraphValue). graph_meaning r g) c.from_residual.result c.args.work.now c.args.work.now (graph_run r A c.args.work.now) c.from_residual.ensures (omega arith) (graph_spends r A c.args.work.now)
