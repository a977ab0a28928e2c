use Rattle.std.proofs.Common.{◌≡◌, ◌<◌, ◌+◌, suc, length, Option, None, Vec, ap, ◌∙◌, arith}
use Rattle.std.specs.Global.{Global}
use Rattle.fm_run.specs.declared.task.Name.TheVariants.{Chain as ChainTask}
use Rattle.fm_run.specs.Tasks.{stopped_in}
use Rattle.fm_mat.specs.Matrices.{matrix_meaning}
use Rattle.fm_mat.specs.declared.column.Column.{Column}
use Rattle.fm_plan.specs.Base.{chain_work}
use Rattle.fm_plan.proofs.Following.{told_of}
use Rattle.fm_mat.proofs.Steps.{map_length}
use Rattle.fm_chain.specs.Chains.{AreMembersOf, EndsWithFactor, links_meaning, outside_value, turn_value, with_last}
use Rattle.fm_chain.proofs.Members.{still, still_holds}
use Rattle.fm_chain.proofs.chaining.next_link.Goals as goal

pub returns-clause-follows : goal.returns-clause-follows
returns-clause-follows c =
    let rel = c.args.relations.now in
    let r = rel.matrix.ring in
    let L = links_meaning r rel c.args.links.now.items c.args.growth.now.items in
    let long : c.len.result + 1 ≡ suc (length L.growth) = (let h = c.len.ensures in let k = c.args.growth.now.ok.0 in let m = map_length outside_value c.args.growth.now.items in omega (arith, h, k, m)) in
    told_of (turn_value r rel c.grow-turn.new.links.items c.grow-turn.new.growth.items) c.args.side ChainTask (suc (length L.growth)) c.args.work.now c.grow-turn.new.work (chain_work r (matrix_meaning r c.args.u.now) L)
    c.grow-turn.result c.in_task.result
    (c.in_task.ensures ∙ ap (λ k. stopped_in (record { side = c.args.side; name = ChainTask; number = k }) c.grow-turn.result) long) c.grow-turn.ensures.follows

pub returns-clause-count : goal.returns-clause-count
returns-clause-count c = still (λ o. length c.grow-turn.new.links.items ≡ with_last o (length c.grow-turn.new.growth.items)) _ c.grow-turn.result c.in_task.result c.in_task.ensures c.grow-turn.ensures.count

pub returns-clause-members : goal.returns-clause-members
returns-clause-members c = still_holds (AreMembersOf c.args.relations.now.matrix.ring c.args.relations.now.matrix.rows c.grow-turn.new.links.items) _ c.grow-turn.result c.in_task.result c.in_task.ensures c.grow-turn.ensures.members

pub returns-clause-spent : goal.returns-clause-spent
returns-clause-spent c = still (λ (o : Option (Vec Column Global)). o ≡ None → c.grow-turn.new.work < c.args.work.now) _ c.grow-turn.result c.in_task.result c.in_task.ensures c.grow-turn.ensures.spent

pub returns-clause-factor : goal.returns-clause-factor
returns-clause-factor c = still (EndsWithFactor c.args.relations.now.matrix.ring c.args.relations.now c.grow-turn.new.links.items c.grow-turn.new.growth.items) _ c.grow-turn.result c.in_task.result c.in_task.ensures c.grow-turn.ensures.factor
