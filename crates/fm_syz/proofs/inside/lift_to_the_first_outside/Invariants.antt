use Rattle.std.proofs.Common.{◌≡◌, ◌≤◌, ◌+◌, suc, length}
use Rattle.fm_run.specs.Runs.{ended_with}
use Rattle.fm_mat.specs.Matrices.{AreColumns, columns_meaning}
use Rattle.fm_graphs.specs.Graphs.{inside_from}
use Rattle.fm_syz.specs.GraphValues.{graph_meaning}
use Rattle.fm_syz.specs.Insides.{with_solutions}
use Rattle.fm_syz.proofs.inside.lift_to_the_first_outside.Given as goal

abbrev pub invariant-columns : goal.invariant-columns
invariant-columns l = record {
  shape : AreColumns l.g.matrix.ring l.g.matrix.rows l.columns;
  out : AreColumns l.g.matrix.ring (length l.g.matrix.columns) l.solutions.items;
  taken : length l.solutions.items ≡ l.number;
  count : l.number + length l.columns ≡ length l.initial.columns;
  run : ended_with (with_solutions l.g.matrix.ring (columns_meaning l.g.matrix.ring l.solutions.items)) (inside_from l.g.matrix.ring (graph_meaning l.g.matrix.ring l.g) (suc l.number) (columns_meaning l.g.matrix.ring l.columns) l.work)
      ≡ inside_from l.g.matrix.ring (graph_meaning l.g.matrix.ring l.g) 1 (columns_meaning l.g.matrix.ring l.initial.columns) l.initial.work;
  spent : l.work ≤ l.initial.work;
}

abbrev pub decreases-columns : goal.decreases-columns
decreases-columns l = length l.columns
