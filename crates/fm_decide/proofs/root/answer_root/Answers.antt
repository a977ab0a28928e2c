use Rattle.std.proofs.Common.{ap, ap₂, sym, subst₂, Err, ◌∙◌, length}
use Rattle.fm_mat.specs.Matrices.{MatrixValue, column_meaning}
use Rattle.fm_plan.specs.Following.{FollowsPlan}
use Rattle.fm_plan.specs.Queries.{base_plan}
use Rattle.fm_run.specs.declared.task.Side.TheVariants.{Alone}
use Rattle.fm_syz.specs.GeneratorValues.{GeneratorsValue, PreimageValue}
use Rattle.fm_ext.specs.Exts.{ExtValue}
use Rattle.fm_chain.specs.Chains.{ChainValue}
use Rattle.fm_queries.specs.Bases.{BaseValue, base_meaning}
use Rattle.fm_answers.specs.Answers.{ideal_at}
use Rattle.fm_decide.proofs.BaseReports.{root_answered, root_stopped}
use Rattle.fm_decide.proofs.Degrees.{root_long}
use Rattle.fm_decide.proofs.root.answer_root.Goals as goal

pub certify_root-requires-clause-degree : goal.certify_root-requires-clause-degree
certify_root-requires-clause-degree c =
    let r = c.args.problem.now.ring in
    root_long r c.args.i (column_meaning r c.generators-generators.result.now) c.new-work.result c.compute_base.new.work c.in-Ok.base c.in-Ok.ensures.follows

pub returns-in_ok-certificate-in-Ok-clause-value : goal.returns-in_ok-certificate-in-Ok-clause-value
returns-in_ok-certificate-in-Ok-clause-value c =
    let q = c.args.problem.now in
    let start = ap₂ (λ gs u. base_plan q.ring Alone c.args.i (column_meaning q.ring gs) u) c.generators-generators.ensures.same c.new-work.ensures in
    root_answered q c.args.i c.args.ideal c.args.units _ c.in-Ok.base _ _ _
    (c.from.ensures ∙ c.cols.ensures ∙ ap (λ (m : MatrixValue). length m.columns) (c.found.ensures ∙ ap (λ (x : GeneratorsValue). x.graph.matrix)
    (c.generators.ensures.same ∙ ap (λ (p : PreimageValue). p.generators) (c.cocycles.ensures.same ∙ ap (λ (y : ExtValue). y.cocycles) c.ext.ensures.same))))
    (c.stable.ensures ∙ ap (λ (d : ChainValue). length d.growth) c.chain.ensures.same) (c.in_ok-certificate-in-Ok.ensures (ideal_at q c.args.ideal)) (sym start ∙ c.in-Ok.ensures.follows)

pub returns-in-Err-clause-value : goal.returns-in-Err-clause-value
returns-in-Err-clause-value c =
    let q = c.args.problem.now in
    let follows = subst₂ (λ gs u. FollowsPlan {X = BaseValue} (base_meaning q.ring) (Err c.in-Err.stopped) u c.compute_base.new.work (base_plan q.ring Alone c.args.i (column_meaning q.ring gs) u))
    c.generators-generators.ensures.same c.new-work.ensures c.in-Err.ensures.follows in
    root_stopped q c.args.i c.args.ideal c.args.units _ c.in-Err.stopped c.stopped_answer.result follows c.stopped_answer.ensures.value c.stopped_answer.ensures.halts
