use Rattle.std.proofs.Common.{ap, ap₂, sym, subst₂, Err, ◌∙◌, length}
use Rattle.fm_mat.specs.Matrices.{MatrixValue, column_meaning}
use Rattle.fm_plan.specs.Base.{resolution_plan}
use Rattle.fm_plan.specs.Following.{FollowsPlan}
use Rattle.fm_run.specs.declared.task.Side.TheVariants.{Alone}
use Rattle.fm_resolve.specs.Resolutions.{ResolutionValue, resolution_value}
use Rattle.fm_syz.specs.GeneratorValues.{GeneratorsValue, PreimageValue}
use Rattle.fm_answers.specs.Answers.{ideal_at}
use Rattle.fm_decide.proofs.ExtReports.{resolution_stopped, ext_stopped, ext_answered}
use Rattle.fm_decide.proofs.ext.answer_ext.Goals as goal

pub returns-in-Err-clause-value : goal.returns-in-Err-clause-value
returns-in-Err-clause-value c =
    let q = c.args.problem.now in
    let follows = subst₂ (λ gs u. FollowsPlan {X = ResolutionValue} (resolution_value q.ring) (Err c.in-Err.stopped) u c.resolve.new.work (resolution_plan q.ring Alone c.args.i (column_meaning q.ring gs) u))
    c.generators-generators.ensures.same c.new-work.ensures c.in-Err.ensures.follows in
    resolution_stopped q c.args.i c.args.ideal c.args.units _ c.in-Err.stopped c.stopped_answer.result follows c.stopped_answer.ensures.value c.stopped_answer.ensures.halts

pub certify_ext-requires-clause-ring : goal.certify_ext-requires-clause-ring
certify_ext-requires-clause-ring c = ap (λ (x : ResolutionValue). x.first.matrix.ring) c.in-Ok-ext.ensures.resolution ∙ c.in-Ok.ensures.ring

pub certify_ext-requires-clause-degree : goal.certify_ext-requires-clause-degree
certify_ext-requires-clause-degree c = ap (λ (x : ResolutionValue). length x.next) c.in-Ok-ext.ensures.resolution ∙ c.in-Ok.ensures.count

pub returns-in_ok-certificate-in-Ok-ext-clause-value : goal.returns-in_ok-certificate-in-Ok-ext-clause-value
returns-in_ok-certificate-in-Ok-ext-clause-value c =
    let q = c.args.problem.now in
    let start = ap₂ (λ gs u. resolution_plan q.ring Alone c.args.i (column_meaning q.ring gs) u) c.generators-generators.ensures.same c.new-work.ensures in
    ext_answered q c.args.i c.args.ideal c.args.units c.in-Ok.x _ _ c.in-Ok.ensures.ring (sym start ∙ c.in-Ok.ensures.follows) c.in-Ok-ext.y _ _ _ c.in-Ok-ext.ensures.follows
    (c.from.ensures ∙ c.cols.ensures ∙ ap (λ (m : MatrixValue). length m.columns) (c.found.ensures ∙ ap (λ (x : GeneratorsValue). x.graph.matrix) (c.generators.ensures.same ∙ ap (λ (p : PreimageValue). p.generators) c.cocycles.ensures.same)))
    (c.from-in-Ok-ext.ensures ∙ c.cols-in-Ok-ext.ensures ∙ ap (λ (m : MatrixValue). length m.columns) (c.found-in-Ok-ext.ensures ∙ ap (λ (x : GeneratorsValue). x.graph.matrix) (c.generators-in-Ok-ext.ensures.same ∙ ap (λ (p : PreimageValue). p.generators) c.relations.ensures.same)))
    (c.in_ok-certificate-in-Ok-ext.ensures (ideal_at q c.args.ideal))

pub returns-in-Err-ext-clause-value : goal.returns-in-Err-ext-clause-value
returns-in-Err-ext-clause-value c =
    let q = c.args.problem.now in
    let start = ap₂ (λ gs u. resolution_plan q.ring Alone c.args.i (column_meaning q.ring gs) u) c.generators-generators.ensures.same c.new-work.ensures in
    ext_stopped q c.args.i c.args.ideal c.args.units c.in-Ok.x _ _ c.in-Ok.ensures.ring (sym start ∙ c.in-Ok.ensures.follows) c.in-Err-ext.stopped c.stopped_answer-in-Err-ext.result c.in-Err-ext.ensures.follows
    c.stopped_answer-in-Err-ext.ensures.value c.stopped_answer-in-Err-ext.ensures.halts
