use Rattle.fm_run.specs.declared.task.Name.TheVariants.{Chain as ChainTask}
use Rattle.fm_run.proofs.Calls.{turn_halts}
use Rattle.fm_mat.specs.Matrices.{matrix_meaning}
use Rattle.fm_plan.specs.Base.{chain_of, chain_turn}
use Rattle.fm_plan.specs.Following.{unanswered_by}
use Rattle.fm_plan.specs.Tasks.{out_of_units}
use Rattle.fm_syz.specs.GraphValues.{graph_meaning}
use Rattle.fm_chain.specs.Chains.{links_meaning}
use Rattle.fm_chain.proofs.LinkParts.{chain_work_spends}
use Rattle.fm_chain.proofs.chaining.first_repeat.Goals as goal

pub returns-in-Err-clause-follows : goal.returns-in-Err-clause-follows
returns-in-Err-clause-follows c =
    let rel = c.args.relations.now in
    let r = rel.matrix.ring in
    let side = c.args.side in
    let u = matrix_meaning r c.args.u.now in
    turn_halts (out_of_units side ChainTask) (chain_turn r side u) (λ s. chain_work_spends r u s) c.args.work.now c.next_link.new.work (chain_of r side u (graph_meaning r rel) c.args.work.now)
    (links_meaning r rel c.members.links.items c.members.growth.items) c.members.work c.members.invariant.left c.members.invariant.spent (unanswered_by c.in-Err.stopped) c.in-Err.ensures.follows
