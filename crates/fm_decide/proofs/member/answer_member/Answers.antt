use Rattle.std.proofs.Common.{Ok, Err, subst₂}
use Rattle.fm_mat.specs.Matrices.{column_meaning}
use Rattle.fm_poly.specs.Polys.{meaning}
use Rattle.fm_plan.specs.Following.{FollowsPlan, unanswered_by}
use Rattle.fm_plan.specs.Queries.{ask_member, plan}
use Rattle.fm_problem.specs.declared.query.Query.TheVariants as queries
use Rattle.fm_resolve.specs.Memberships.{membership_value}
use Rattle.fm_resolve.specs.declared.membership.Membership.{Membership}
use Rattle.fm_answers.specs.Answers.{ideal_at}
use Rattle.fm_decide.proofs.EndedReports.{whole_stopped}
use Rattle.fm_decide.proofs.ResolveReports.{member_answered}
use Rattle.fm_decide.proofs.member.answer_member.Goals as goal

pub returns-in_ok-certificate-in-Ok-clause-value : goal.returns-in_ok-certificate-in-Ok-clause-value
returns-in_ok-certificate-in-Ok-clause-value c =
    let q = c.args.problem.now in
    let f = meaning q.ring c.args.f.now.terms in
    let follows = subst₂ (λ gs u. FollowsPlan {X = Membership} (membership_value q.ring (column_meaning q.ring gs) f) (Ok c.in-Ok.found) u c.decide_member.new.work (plan q.ring (ask_member (column_meaning q.ring gs) f) u))
    c.generators-generators.ensures.same c.new-work.ensures c.in-Ok.ensures.follows in
    member_answered q c.args.ideal c.args.f.now c.args.units _ c.in-Ok.found _ _ (c.is_inside-yes.ensures q.ring) (c.in_ok-certificate-in-Ok.ensures (ideal_at q c.args.ideal) f c.args.f.now) follows

pub returns-in-Err-clause-value : goal.returns-in-Err-clause-value
returns-in-Err-clause-value c =
    let q = c.args.problem.now in
    let f = meaning q.ring c.args.f.now.terms in
    let follows = subst₂ (λ gs u. FollowsPlan {X = Membership} (membership_value q.ring (column_meaning q.ring gs) f) (Err c.in-Err.stopped) u c.decide_member.new.work (plan q.ring (ask_member (column_meaning q.ring gs) f) u))
    c.generators-generators.ensures.same c.new-work.ensures c.in-Err.ensures.follows in
    whole_stopped q (queries.Member c.args.ideal c.args.f.now) c.args.units _ (plan q.ring (ask_member (ideal_at q c.args.ideal) f)) (membership_value q.ring (ideal_at q c.args.ideal) f) unanswered_by c.in-Err.stopped c.stopped_answer.result
    follows c.stopped_answer.ensures.value c.stopped_answer.ensures.halts
