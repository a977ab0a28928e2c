use Rattle.std.proofs.Common.{length, ◌≤◌, ◌≡◌, ◌+◌}
use Rattle.fm_mat.specs.Matrices.{AreColumns, columns_meaning}
use Rattle.fm_graphs.specs.Graphs as runs
use Rattle.fm_syz.specs.GraphValues.{graph_meaning}
use Rattle.fm_syz.proofs.LiftedColumns.{Lifts}
use Rattle.fm_syz.proofs.lifts.solve_columns.Given as goal

abbrev pub invariant-columns : goal.invariant-columns
invariant-columns l = record {
  shape : AreColumns l.g.matrix.ring l.g.matrix.rows l.columns;
  out : AreColumns l.g.matrix.ring (length l.g.matrix.columns) l.solutions.items;
  run : Lifts l.g.matrix.ring (graph_meaning l.g.matrix.ring l.g) (columns_meaning l.g.matrix.ring l.solutions.items) (columns_meaning l.g.matrix.ring l.columns) l.work
      (runs.lifted l.g.matrix.ring (graph_meaning l.g.matrix.ring l.g) (columns_meaning l.g.matrix.ring l.initial.columns) l.initial.work);
  spent : l.work ≤ l.initial.work;
  count : length l.solutions.items + length l.columns ≡ length l.initial.columns;
}

abbrev pub decreases-columns : goal.decreases-columns
decreases-columns l = length l.columns
