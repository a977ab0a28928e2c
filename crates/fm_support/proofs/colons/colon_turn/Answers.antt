use Rattle.std.proofs.Common.{◌≡◌, ◌+◌, suc, length, ap, ◌∙◌, arith}
use Rattle.fm_mat.proofs.Steps.{map_length}
use Rattle.fm_poly.specs.Polys.{meaning}
use Rattle.fm_run.specs.declared.task.Name.TheVariants as names
use Rattle.fm_run.specs.declared.task.Side.TheVariants.{Alone}
use Rattle.fm_run.specs.Tasks.{stopped_in}
use Rattle.fm_plan.proofs.Following.{told_of}
use Rattle.fm_syz.specs.GeneratorValues.{preimage_meaning}
use Rattle.fm_support.specs.Inverting.{colons_value, colon_work, turn_value}
use Rattle.fm_support.proofs.colons.colon_turn.Goals as goal

pub returns-clause-follows : goal.returns-clause-follows
returns-clause-follows c =
    let k = c.args.k.now in
    let r = k.matrix.ring in
    let f = meaning r c.args.f.now.terms in
    let C = colons_value r k c.args.c in
    let count : c.len.result + 1 ≡ suc (length C.colons) = let l = c.len.ensures in let m = map_length (preimage_meaning r) c.args.c.colons.items in omega (arith, l, m) in
    told_of (turn_value r k) Alone names.Colon (suc (length C.colons)) c.args.work.now c.next_colon.new.work (colon_work r f C) c.next_colon.result c.in_task.result
    (c.in_task.ensures ∙ ap (λ t. stopped_in t c.next_colon.result) (c.colon_task-task.ensures ∙ ap (λ n. record { side = Alone; name = names.Colon; number = n }) count)) c.next_colon.ensures.follows
