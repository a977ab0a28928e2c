use Rattle.std.proofs.Common.{◌≤◌, []}
use Rattle.fm_plan.specs.Queries as plans
use Rattle.fm_plan.specs.Tasks.{out_of_units}
use Rattle.fm_mat.specs.Matrices.{matrix_meaning}
use Rattle.fm_run.specs.declared.task.Name.TheVariants as names
use Rattle.fm_run.specs.declared.task.Side.TheVariants.{Alone}
use Rattle.fm_run.specs.Turns.{repeated}
use Rattle.fm_run.proofs.Following.{Left}
use Rattle.fm_syz.specs.GraphValues.{graph_meaning}
use Rattle.fm_support.specs.Inverting.{AreColons, outside_value}
use Rattle.fm_induced.specs.Joins.{joins_value}
use Rattle.fm_induced.proofs.joins.joins_of.Given as goal

abbrev pub invariant-links : goal.invariant-links
invariant-links l = let r = l.first.matrix.ring in record {
  left : Left (out_of_units Alone names.Onto) (plans.join_turn r (matrix_meaning r l.u) (graph_meaning r l.first))
      (repeated (out_of_units Alone names.Onto) (plans.join_turn r (matrix_meaning r l.u) (graph_meaning r l.first)) (record { links = []; graph = graph_meaning r l.first; proper = outside_value l.fn.proper }) l.initial.work)
      (joins_value r l.first l.c) l.work;
  spent : l.work ≤ l.initial.work;
  fit : AreColons l.first l.c.links.items;
}

abbrev pub decreases-links : goal.decreases-links
decreases-links l = l.work
