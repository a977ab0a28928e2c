use Rattle.std.proofs.Common.{ap₂, sym, subst₂, Err, ◌∙◌}
use Rattle.fm_mat.specs.Matrices.{column_meaning}
use Rattle.fm_plan.specs.Base.{resolution_plan}
use Rattle.fm_plan.specs.Following.{FollowsPlan}
use Rattle.fm_run.specs.declared.task.Side.TheVariants.{Alone}
use Rattle.fm_resolve.specs.Resolutions.{ResolutionValue, resolution_value}
use Rattle.fm_answers.specs.Answers.{ideal_at}
use Rattle.fm_decide.proofs.ResolveReports.{resolution_answered, resolution_stopped}
use Rattle.fm_decide.proofs.resolution.answer_resolution.Goals as goal

pub returns-in_ok-certificate-in-Ok-clause-value : goal.returns-in_ok-certificate-in-Ok-clause-value
returns-in_ok-certificate-in-Ok-clause-value c =
    let q = c.args.problem.now in
    let start = ap₂ (λ gs u. resolution_plan q.ring Alone c.args.i (column_meaning q.ring gs) u) c.generators-generators.ensures.same c.new-work.ensures in
    resolution_answered q c.args.i c.args.ideal c.args.units _ c.in-Ok.x _ _ c.in-Ok.ensures.ring c.in-Ok.ensures.count c.in_ok-ranks-in-Ok.ensures
    (c.in_ok-certificate-in-Ok.ensures (ideal_at q c.args.ideal)) (sym start ∙ c.in-Ok.ensures.follows)

pub returns-in-Err-clause-value : goal.returns-in-Err-clause-value
returns-in-Err-clause-value c =
    let q = c.args.problem.now in
    let follows = subst₂ (λ gs u. FollowsPlan {X = ResolutionValue} (resolution_value q.ring) (Err c.in-Err.stopped) u c.resolve.new.work (resolution_plan q.ring Alone c.args.i (column_meaning q.ring gs) u))
    c.generators-generators.ensures.same c.new-work.ensures c.in-Err.ensures.follows in
    resolution_stopped q c.args.i c.args.ideal c.args.units _ c.in-Err.stopped c.stopped_answer.result follows c.stopped_answer.ensures.value c.stopped_answer.ensures.halts
