use Rattle.std.proofs.Common.{subst, subst₂, Ok, Err, ◌<◌, ◌+◌, ◌^◌, length}
use Rattle.fm_mat.specs.Matrices.{column_meaning}
use Rattle.fm_plan.specs.Queries.{ask_class, plan}
use Rattle.fm_problem.specs.declared.query.Query.TheVariants as queries
use Rattle.fm_ext.specs.Exts.{ring_of}
use Rattle.fm_queries.specs.Founds.{FollowsQuery, class_value, ended_by}
use Rattle.fm_queries.specs.declared.class.Class.{Class}
use Rattle.fm_answers.specs.Answers.{ideal_at}
use Rattle.fm_decide.proofs.BaseReports.{class_answered, stage_fits}
use Rattle.fm_decide.proofs.Degrees.{class_long}
use Rattle.fm_decide.proofs.EndedReports.{whole_stopped}
use Rattle.fm_decide.proofs.SoundIdeals.{are_over}
use Rattle.fm_decide.proofs.class.answer_class.Goals as goal

pub decide_class-requires-clause-class : goal.decide_class-requires-clause-class
decide_class-requires-clause-class c = are_over c.args.problem.now.ring _ c.requires.query.3

pub first_stage-requires : goal.first_stage-requires
first_stage-requires c =
    let q = c.args.problem.now in
    let fs = column_meaning q.ring c.args.z.now in
    let follows = subst₂ (λ gs u. FollowsQuery {X = Class} (class_value q.ring c.args.i (column_meaning q.ring gs) c.args.e fs) (Ok c.in-Ok.found) u c.decide_class.new.work (plan q.ring (ask_class c.args.i (column_meaning q.ring gs) c.args.e fs) u))
    c.generators-generators.ensures.same c.new-work.ensures c.in-Ok.ensures.follows in
    stage_fits q c.args.i c.args.ideal c.args.units _ c.args.e c.args.z.now c.in-Ok.found (ring_of c.in-Ok.found.base.ext) c.in-Ok.ensures.ring c.ranges.units.fits c.ranges.i.fits c.ranges.e.fits
    (subst (λ gs. length gs + 1 < 2 ^ 32) c.generators-generators.ensures.same c.generators-generators.ensures.few) follows

pub certify_class-requires-clause-degree : goal.certify_class-requires-clause-degree
certify_class-requires-clause-degree c =
    let r = c.args.problem.now.ring in
    class_long r c.args.i (column_meaning r c.generators-generators.result.now) c.new-work.result c.decide_class.new.work c.args.e (column_meaning r c.args.z.now) c.in-Ok.found c.in-Ok.ensures.follows

pub returns-in_ok-certificate-in-Ok-clause-value : goal.returns-in_ok-certificate-in-Ok-clause-value
returns-in_ok-certificate-in-Ok-clause-value c =
    let q = c.args.problem.now in
    let fs = column_meaning q.ring c.args.z.now in
    let follows = subst₂ (λ gs u. FollowsQuery {X = Class} (class_value q.ring c.args.i (column_meaning q.ring gs) c.args.e fs) (Ok c.in-Ok.found) u c.decide_class.new.work (plan q.ring (ask_class c.args.i (column_meaning q.ring gs) c.args.e fs) u))
    c.generators-generators.ensures.same c.new-work.ensures c.in-Ok.ensures.follows in
    class_answered q c.args.i c.args.ideal c.args.units _ c.args.e c.args.z.now c.in-Ok.found (ring_of c.in-Ok.found.base.ext) c.in-Ok.ensures.ring _ _ c.first_stage.ensures (c.in_ok-certificate-in-Ok.ensures (ideal_at q c.args.ideal) c.args.e fs c.args.z.now) follows

pub returns-in-Err-clause-value : goal.returns-in-Err-clause-value
returns-in-Err-clause-value c =
    let q = c.args.problem.now in
    let fs = column_meaning q.ring c.args.z.now in
    let follows = subst₂ (λ gs u. FollowsQuery {X = Class} (class_value q.ring c.args.i (column_meaning q.ring gs) c.args.e fs) (Err c.in-Err.ended) u c.decide_class.new.work (plan q.ring (ask_class c.args.i (column_meaning q.ring gs) c.args.e fs) u))
    c.generators-generators.ensures.same c.new-work.ensures c.in-Err.ensures.follows in
    whole_stopped q (queries.Class c.args.i c.args.ideal c.args.e c.args.z.now) c.args.units _ (plan q.ring (ask_class c.args.i (ideal_at q c.args.ideal) c.args.e fs)) (class_value q.ring c.args.i (ideal_at q c.args.ideal) c.args.e fs)
    ended_by c.in-Err.ended c.unanswered_answer.result follows c.unanswered_answer.ensures.value c.unanswered_answer.ensures.halts
