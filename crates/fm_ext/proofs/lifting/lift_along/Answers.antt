use Rattle.std.proofs.Common.{rules, Vec, Global, take, refl, arith}
use Rattle.fm_algebra.specs.PolynomialMatrices.{matrix_unit}
use Rattle.fm_mat.specs.declared.matrix.Matrix.{Matrix}
use Rattle.fm_run.proofs.Parts.{failed}
use Rattle.fm_plan.specs.Base.{lifting}
use Rattle.fm_plan.specs.Following.{unanswered_by}
use Rattle.fm_plan.specs.Results as plans
use Rattle.fm_lift.proofs.Calls.{plan_wants, told_memory}
use Rattle.fm_resolve.specs.Resolutions.{resolution_value}
use Rattle.fm_ext.proofs.InRow.{lifting_spends, lift_told}
use Rattle.fm_ext.proofs.lifting.lift_along.Goals as goal

pub returns-in_err-graphs-clause-follows : goal.returns-in_err-graphs-clause-follows
returns-in_err-graphs-clause-follows c =
    let r = c.args.resolution.now.first.matrix.ring in
    let units = c.args.work.now in
    let all = lifting r c.args.side 1 (matrix_unit r.prime r.vars 1) (take c.args.degree (plans.graphs_of r (resolution_value r c.args.resolution.now))) units in
    failed _ unanswered_by c.from_residual.result c.in_err-graphs.field-0.0 units units all c.from_residual.ensures
    (plan_wants c.in_err-graphs.field-0.0 units units all (told_memory _ c.graphs.result _ c.in_err-graphs.ensures c.graphs.ensures.memory) (omega arith)
    (lifting_spends r c.args.side (take c.args.degree (plans.graphs_of r (resolution_value r c.args.resolution.now))) units))

pub returns-clause-follows : goal.returns-clause-follows
returns-clause-follows c = search rules

pub returns-clause-first : goal.returns-clause-first
returns-clause-first c = search rules

pub returns-clause-lifts : goal.returns-clause-lifts
returns-clause-lifts c =
    let x = c.args.resolution.now in
    lift_told (λ (ts : Vec Matrix Global). ts.items) x.first.matrix.ring c.args.side x c.graphs.ensures.resolution refl c.args.degree c.requires.degree c.frobenius_lift.result c.args.work.now c.frobenius_lift.new.work
    (returns-clause-follows c) (returns-clause-first c)
