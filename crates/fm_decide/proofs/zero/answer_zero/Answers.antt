use Rattle.std.proofs.Common.{ap, subst₂, Ok, Err, ◌∙◌, length}
use Rattle.fm_mat.specs.Matrices.{column_meaning}
use Rattle.fm_plan.specs.Following.{FollowsPlan, unanswered_by}
use Rattle.fm_plan.specs.Queries.{ask_zero, plan}
use Rattle.fm_problem.specs.declared.query.Query.TheVariants as queries
use Rattle.fm_chain.specs.Chains.{ChainValue}
use Rattle.fm_queries.specs.Founds.{zero_value}
use Rattle.fm_queries.specs.declared.zero.Zero.{Zero}
use Rattle.fm_answers.specs.Answers.{ideal_at}
use Rattle.fm_decide.proofs.BaseReports.{zero_answered}
use Rattle.fm_decide.proofs.Degrees.{zero_long}
use Rattle.fm_decide.proofs.EndedReports.{whole_stopped}
use Rattle.fm_decide.proofs.zero.answer_zero.Goals as goal

pub certify_zero-requires-clause-degree : goal.certify_zero-requires-clause-degree
certify_zero-requires-clause-degree c =
    let r = c.args.problem.now.ring in
    zero_long r c.args.i (column_meaning r c.generators-generators.result.now) c.new-work.result c.decide_zero.new.work c.in-Ok.found c.in-Ok.ensures.follows

pub returns-in_ok-certificate-in-Ok-clause-value : goal.returns-in_ok-certificate-in-Ok-clause-value
returns-in_ok-certificate-in-Ok-clause-value c =
    let q = c.args.problem.now in
    let follows = subst₂ (λ gs u. FollowsPlan {X = Zero} (zero_value q.ring c.args.i (column_meaning q.ring gs)) (Ok c.in-Ok.found) u c.decide_zero.new.work (plan q.ring (ask_zero c.args.i (column_meaning q.ring gs)) u))
    c.generators-generators.ensures.same c.new-work.ensures c.in-Ok.ensures.follows in
    zero_answered q c.args.i c.args.ideal c.args.units _ c.in-Ok.found _ _ _ (c.is_inside.ensures q.ring)
    (c.stable.ensures ∙ ap (λ (d : ChainValue). length d.growth) c.chain.ensures.same) (c.in_ok-certificate-in-Ok.ensures (ideal_at q c.args.ideal)) follows

pub returns-in-Err-clause-value : goal.returns-in-Err-clause-value
returns-in-Err-clause-value c =
    let q = c.args.problem.now in
    let follows = subst₂ (λ gs u. FollowsPlan {X = Zero} (zero_value q.ring c.args.i (column_meaning q.ring gs)) (Err c.in-Err.stopped) u c.decide_zero.new.work (plan q.ring (ask_zero c.args.i (column_meaning q.ring gs)) u))
    c.generators-generators.ensures.same c.new-work.ensures c.in-Err.ensures.follows in
    whole_stopped q (queries.Zero c.args.i c.args.ideal) c.args.units _ (plan q.ring (ask_zero c.args.i (ideal_at q c.args.ideal))) (zero_value q.ring c.args.i (ideal_at q c.args.ideal))
    unanswered_by c.in-Err.stopped c.stopped_answer.result follows c.stopped_answer.ensures.value c.stopped_answer.ensures.halts
