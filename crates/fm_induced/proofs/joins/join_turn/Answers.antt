use Rattle.std.proofs.Common.{◌≡◌, ◌+◌, suc, length, ap, ◌∙◌, arith}
use Rattle.fm_mat.proofs.Steps.{map_length}
use Rattle.fm_mat.specs.Matrices.{matrix_meaning}
use Rattle.fm_run.specs.declared.task.Name.TheVariants as names
use Rattle.fm_run.specs.declared.task.Side.TheVariants.{Alone}
use Rattle.fm_run.specs.Tasks.{stopped_in}
use Rattle.fm_plan.proofs.Following.{told_of}
use Rattle.fm_syz.specs.GeneratorValues.{preimage_meaning}
use Rattle.fm_syz.specs.GraphValues.{graph_meaning}
use Rattle.fm_induced.specs.Joins.{joins_value, link_work, turn_value}
use Rattle.fm_induced.proofs.joins.join_turn.Goals as goal

pub returns-clause-follows : goal.returns-clause-follows
returns-clause-follows c =
    let k = c.args.first.now in
    let r = k.matrix.ring in
    let u = matrix_meaning r c.args.u.now in
    let C = joins_value r k c.args.c in
    let count : c.len.result + 1 ≡ suc (length C.links) = let l = c.len.ensures in let m = map_length (preimage_meaning r) c.args.c.links.items in omega (arith, l, m) in
    told_of (turn_value r k) Alone names.Onto (suc (length C.links)) c.args.work.now c.next_join.new.work (link_work r u (graph_meaning r k) C) c.next_join.result c.in_task.result
    (c.in_task.ensures ∙ ap (λ t. stopped_in t c.next_join.result) (c.onto_task-task.ensures ∙ ap (λ n. record { side = Alone; name = names.Onto; number = n }) count)) c.next_join.ensures.follows
