use Rattle.std.proofs.Common.{length, ◌≤◌, ◌≡◌}
use Rattle.fm_run.specs.declared.task.Name.TheVariants.{Chain as ChainTask}
use Rattle.fm_run.proofs.Following.{Left}
use Rattle.fm_mat.specs.Matrices.{matrix_meaning}
use Rattle.fm_plan.specs.Base.{chain_of, chain_turn}
use Rattle.fm_plan.specs.Tasks.{out_of_units}
use Rattle.fm_syz.specs.GraphValues.{graph_meaning}
use Rattle.fm_chain.specs.Chains.{AreMembersOf, links_meaning}
use Rattle.fm_chain.proofs.chaining.first_repeat.Given as goal

abbrev pub invariant-members : goal.invariant-members
invariant-members l = record {
  left : (let r = l.fn.relations.matrix.ring in
      Left (out_of_units l.fn.side ChainTask) (chain_turn r l.fn.side (matrix_meaning r l.fn.u)) (chain_of r l.fn.side (matrix_meaning r l.fn.u) (graph_meaning r l.fn.relations) l.initial.work)
      (links_meaning r l.fn.relations l.links.items l.growth.items) l.work);
  spent : l.work ≤ l.initial.work;
  count : length l.links.items ≡ length l.growth.items;
  fit : AreMembersOf l.fn.relations.matrix.ring l.fn.relations.matrix.rows l.links.items;
}

abbrev pub decreases-members : goal.decreases-members
decreases-members l = l.work
