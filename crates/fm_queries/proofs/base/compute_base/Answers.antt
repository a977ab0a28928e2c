use Rattle.std.proofs.Common.{Ok, Err, sym, ap, ◌∙◌, subst}
use Rattle.fm_mat.specs.Matrices.{column_meaning}
use Rattle.fm_run.proofs.Parts.{failed}
use Rattle.fm_plan.specs.Following.{FollowsPlan, unanswered_by}
use Rattle.fm_queries.specs.Bases.{BaseValue}
use Rattle.fm_queries.proofs.BaseRuns.{resolution_stops, base_goes}
use Rattle.fm_queries.proofs.base.compute_base.Goals as goal

pub returns-in_err-resolution-clause-follows : goal.returns-in_err-resolution-clause-follows
returns-in_err-resolution-clause-follows c =
    let r = c.args.ring in
    failed _ unanswered_by c.from_residual.result c.in_err-resolution.field-0.0 _ _ _ c.from_residual.ensures
    (resolution_stops r c.args.side c.args.degree (column_meaning r c.args.generators.now) c.args.work.now c.resolve.new.work c.in_err-resolution.field-0.0 c.in_err-resolution.ensures.follows)

pub returns-clause-follows : goal.returns-clause-follows
returns-clause-follows c =
    let r = c.args.ring in
    base_goes r c.args.side c.args.degree (column_meaning r c.args.generators.now) (λ (b : BaseValue). b) c.args.work.now c.resolve.new.work c.compute_base_of.new.work c.in_ok-resolution.resolution c.compute_base_of.result
    c.in_ok-resolution.ensures.follows c.in_ok-resolution.ensures.ring c.compute_base_of.ensures.follows
