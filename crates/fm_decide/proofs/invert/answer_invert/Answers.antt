use Rattle.std.proofs.Common.{subst₂, Ok, Err}
use Rattle.fm_mat.specs.Matrices.{column_meaning}
use Rattle.fm_plan.specs.Following.{FollowsPlan, unanswered_by}
use Rattle.fm_plan.specs.Queries.{ask_invert, plan}
use Rattle.fm_poly.specs.Polys.{meaning}
use Rattle.fm_problem.specs.declared.query.Query.TheVariants as queries
use Rattle.fm_queries.specs.Founds.{invert_value}
use Rattle.fm_queries.specs.declared.invert.Inverting.{Inverting}
use Rattle.fm_answers.specs.Answers.{ideal_at}
use Rattle.fm_decide.proofs.BaseReports.{invert_answered}
use Rattle.fm_decide.proofs.Degrees.{invert_long}
use Rattle.fm_decide.proofs.EndedReports.{whole_stopped}
use Rattle.fm_decide.proofs.invert.answer_invert.Goals as goal

pub certify_inverting-requires-clause-degree : goal.certify_inverting-requires-clause-degree
certify_inverting-requires-clause-degree c =
    let r = c.args.problem.now.ring in
    invert_long r c.args.i (column_meaning r c.generators-generators.result.now) c.new-work.result c.decide_inverting.new.work (meaning r c.args.f.now.terms) c.in-Ok.found c.in-Ok.ensures.follows

pub returns-in_ok-certificate-in-Ok-clause-value : goal.returns-in_ok-certificate-in-Ok-clause-value
returns-in_ok-certificate-in-Ok-clause-value c =
    let q = c.args.problem.now in
    let f = meaning q.ring c.args.f.now.terms in
    let follows = subst₂ (λ gs u. FollowsPlan {X = Inverting} (invert_value q.ring c.args.i (column_meaning q.ring gs) f) (Ok c.in-Ok.found) u c.decide_inverting.new.work (plan q.ring (ask_invert c.args.i (column_meaning q.ring gs) f) u))
    c.generators-generators.ensures.same c.new-work.ensures c.in-Ok.ensures.follows in
    invert_answered q c.args.i c.args.ideal c.args.units _ c.args.f.now c.in-Ok.found _ _ (c.least_power.ensures q.ring) (c.in_ok-certificate-in-Ok.ensures (ideal_at q c.args.ideal)) follows

pub returns-in-Err-clause-value : goal.returns-in-Err-clause-value
returns-in-Err-clause-value c =
    let q = c.args.problem.now in
    let f = meaning q.ring c.args.f.now.terms in
    let follows = subst₂ (λ gs u. FollowsPlan {X = Inverting} (invert_value q.ring c.args.i (column_meaning q.ring gs) f) (Err c.in-Err.stopped) u c.decide_inverting.new.work (plan q.ring (ask_invert c.args.i (column_meaning q.ring gs) f) u))
    c.generators-generators.ensures.same c.new-work.ensures c.in-Err.ensures.follows in
    whole_stopped q (queries.Invert c.args.i c.args.ideal c.args.f.now) c.args.units _ (plan q.ring (ask_invert c.args.i (ideal_at q c.args.ideal) f)) (invert_value q.ring c.args.i (ideal_at q c.args.ideal) f)
    unanswered_by c.in-Err.stopped c.stopped_answer.result follows c.stopped_answer.ensures.value c.stopped_answer.ensures.halts
