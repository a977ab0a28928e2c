use Rattle.std.proofs.Common.{ℕ, length, map, drop, ◌<◌, ◌≤◌, ◌≡◌, None, option_map}
use Rattle.fm_mat.specs.Matrices.{column_meaning, matrix_meaning}
use Rattle.fm_plan.specs.Queries as plans
use Rattle.fm_syz.specs.GraphValues.{graph_meaning}
use Rattle.fm_chain.specs.Chains.{outside_value}
use Rattle.fm_chain.specs.Stages.{AreGraphsOf, IsKilledBy}
use Rattle.fm_chain.proofs.stages.kill_stage.Given as goal

abbrev pub invariant-loop-g : goal.invariant-loop-g
invariant-loop-g l = record {
  run : plans.stages l.fn.ring l.fn.e (column_meaning l.fn.ring l.fn.w) 0 None (map (λ g. graph_meaning l.fn.ring g.now) l.graphs) l.initial.work
      ≡ plans.stages l.fn.ring l.fn.e (column_meaning l.fn.ring l.fn.w) l.moves (option_map outside_value l.before) (drop l.g-index (map (λ g. graph_meaning l.fn.ring g.now) l.graphs)) l.work;
  spent : l.work ≤ l.initial.work;
  count : l.moves ≡ l.g-index;
  none : (k : ℕ) → k < l.moves → ¬ (IsKilledBy l.fn.ring l.fn.e (column_meaning l.fn.ring l.fn.w) (map (λ g. matrix_meaning l.fn.ring g.now.matrix) l.graphs) k);
  fit : AreGraphsOf l.fn.ring (length l.fn.w) (drop l.g-index (map (λ g. g.now) l.graphs));
}
