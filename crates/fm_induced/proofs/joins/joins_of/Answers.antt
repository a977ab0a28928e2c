use Rattle.std.proofs.Common.{Ok, subst, arith}
use Rattle.fm_plan.specs.Following.{FollowsPlan, unanswered_by}
use Rattle.fm_plan.specs.Queries as plans
use Rattle.fm_plan.specs.Tasks.{out_of_units}
use Rattle.fm_mat.specs.Matrices.{matrix_meaning}
use Rattle.fm_run.specs.declared.task.Name.TheVariants as names
use Rattle.fm_run.specs.declared.task.Side.TheVariants.{Alone}
use Rattle.fm_run.proofs.Calls.{turn_halts}
use Rattle.fm_run.proofs.Following.{ended, turned}
use Rattle.fm_syz.specs.GraphValues.{graph_meaning}
use Rattle.fm_support.specs.Inverting.{outside_value}
use Rattle.fm_induced.specs.Joins.{GoesOn, joined_value, joins_value, turn_value}
use Rattle.fm_induced.specs.declared.joins.JoinTurn.TheVariants.{Again}
use Rattle.fm_induced.proofs.JoinRuns.{link_spends}
use Rattle.fm_induced.proofs.OntoRuns.{joining}
use Rattle.fm_induced.proofs.joins.joins_of.Goals as goal

pub links-preserved : goal.links-preserved
links-preserved c =
    let k = c.args.first.now in
    let r = k.matrix.ring in
    let u = matrix_meaning r c.args.u.now in
    let F = graph_meaning r k in
    let on : GoesOn k c.links.work c.join_turn.new.work (Again c.in-Ok-Again.next) = subst (GoesOn k c.links.work c.join_turn.new.work) c.in-Ok-Again.field-0-is c.in-Ok-Again.ensures.spent in
    let paid = on.0 in
    record {
      left = turned (out_of_units Alone names.Onto) (plans.join_turn r u F) (joining r u F (outside_value c.args.proper) c.args.work.now) (joins_value r k c.links.c) (joins_value r k c.in-Ok-Again.next)
          c.links.work c.join_turn.new.work c.links.invariant.left
          (subst (λ x. FollowsPlan (turn_value r k) (Ok x) c.links.work c.join_turn.new.work (plans.join_turn r u F (joins_value r k c.links.c) c.links.work)) c.in-Ok-Again.field-0-is c.in-Ok-Again.ensures.follows) paid;
      spent = (let s = c.links.invariant.spent in omega (arith, s, paid));
      fit = on.1;
    }

pub returns-in-Err-clause-follows : goal.returns-in-Err-clause-follows
returns-in-Err-clause-follows c =
    let k = c.args.first.now in
    let r = k.matrix.ring in
    let u = matrix_meaning r c.args.u.now in
    let F = graph_meaning r k in
    turn_halts (out_of_units Alone names.Onto) (plans.join_turn r u F) (λ s. link_spends r u F s) c.args.work.now c.join_turn.new.work (joining r u F (outside_value c.args.proper) c.args.work.now)
    (joins_value r k c.links.c) c.links.work c.links.invariant.left c.links.invariant.spent (unanswered_by c.in-Err.stopped) c.in-Err.ensures.follows

pub returns-in-Ok-Last-clause-follows : goal.returns-in-Ok-Last-clause-follows
returns-in-Ok-Last-clause-follows c =
    let k = c.args.first.now in
    let r = k.matrix.ring in
    let u = matrix_meaning r c.args.u.now in
    let F = graph_meaning r k in
    ended (out_of_units Alone names.Onto) (plans.join_turn r u F) (joining r u F (outside_value c.args.proper) c.args.work.now) (joins_value r k c.links.c) c.links.work c.join_turn.new.work (joined_value r k c.in-Ok-Last.x)
    c.links.invariant.left
    (subst (λ x. FollowsPlan (turn_value r k) (Ok x) c.links.work c.join_turn.new.work (plans.join_turn r u F (joins_value r k c.links.c) c.links.work)) c.in-Ok-Last.field-0-is c.in-Ok-Last.ensures.follows)

pub returns-in-Ok-Last-clause-over : goal.returns-in-Ok-Last-clause-over
returns-in-Ok-Last-clause-over c = subst (GoesOn c.args.first.now c.links.work c.join_turn.new.work) c.in-Ok-Last.field-0-is c.in-Ok-Last.ensures.spent
