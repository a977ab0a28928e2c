use Rattle.std.proofs.Common.{Ok, subst, arith}
use Rattle.fm_plan.specs.Following.{FollowsPlan, unanswered_by}
use Rattle.fm_plan.specs.Queries as plans
use Rattle.fm_plan.specs.Tasks.{out_of_units}
use Rattle.fm_poly.specs.Polys.{meaning}
use Rattle.fm_run.specs.declared.task.Name.TheVariants as names
use Rattle.fm_run.specs.declared.task.Side.TheVariants.{Alone}
use Rattle.fm_run.proofs.Calls.{turn_halts}
use Rattle.fm_run.proofs.Following.{turned}
use Rattle.fm_syz.specs.GraphValues.{graph_meaning}
use Rattle.fm_support.specs.Inverting.{GoesOn, colons_value, outside_value, turn_value}
use Rattle.fm_support.specs.declared.colons.ColonTurn.TheVariants.{Again}
use Rattle.fm_support.proofs.ColonRuns.{colon_spends}
use Rattle.fm_support.proofs.InvertRuns.{turning}
use Rattle.fm_support.proofs.colons.colons_of.Goals as goal

pub colons-preserved : goal.colons-preserved
colons-preserved c =
    let k = c.args.k.now in
    let r = k.matrix.ring in
    let f = meaning r c.args.f.now.terms in
    let on : GoesOn k c.colons.work c.colon_turn.new.work (Again c.in-Ok-Again.next) = subst (GoesOn k c.colons.work c.colon_turn.new.work) c.in-Ok-Again.field-0-is c.in-Ok-Again.ensures.spent in
    let paid = on.0 in
    record {
      left = turned (out_of_units Alone names.Colon) (plans.colon_turn r f) (turning r f (graph_meaning r k) (outside_value c.args.proper) c.args.work.now) (colons_value r k c.colons.c) (colons_value r k c.in-Ok-Again.next)
          c.colons.work c.colon_turn.new.work c.colons.invariant.left
          (subst (λ x. FollowsPlan (turn_value r k) (Ok x) c.colons.work c.colon_turn.new.work (plans.colon_turn r f (colons_value r k c.colons.c) c.colons.work)) c.in-Ok-Again.field-0-is c.in-Ok-Again.ensures.follows) paid;
      spent = (let s = c.colons.invariant.spent in omega (arith, s, paid));
      colons = on.1;
    }

pub returns-in-Err-clause-follows : goal.returns-in-Err-clause-follows
returns-in-Err-clause-follows c =
    let k = c.args.k.now in
    let r = k.matrix.ring in
    let f = meaning r c.args.f.now.terms in
    turn_halts (out_of_units Alone names.Colon) (plans.colon_turn r f) (λ s. colon_spends r f s) c.args.work.now c.colon_turn.new.work (turning r f (graph_meaning r k) (outside_value c.args.proper) c.args.work.now)
    (colons_value r k c.colons.c) c.colons.work c.colons.invariant.left c.colons.invariant.spent (unanswered_by c.in-Err.stopped) c.in-Err.ensures.follows

pub returns-in-Ok-Last-clause-over : goal.returns-in-Ok-Last-clause-over
returns-in-Ok-Last-clause-over c = subst (GoesOn c.args.k.now c.colons.work c.colon_turn.new.work) c.in-Ok-Last.field-0-is c.in-Ok-Last.ensures.spent
