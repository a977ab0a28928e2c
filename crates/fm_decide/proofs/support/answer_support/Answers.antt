use Rattle.std.proofs.Common.{ap, subst, subst₂, Ok, Err, ◌∙◌}
use Rattle.fm_cert.specs.Pieces.{AreOverVariables}
use Rattle.fm_mat.specs.Matrices.{MatrixValue, column_meaning}
use Rattle.fm_plan.specs.Following.{FollowsPlan, unanswered_by}
use Rattle.fm_plan.specs.Queries.{ask_support, plan}
use Rattle.fm_poly.specs.declared.ring.Ring.{Ring}
use Rattle.fm_problem.specs.declared.query.Query.TheVariants as queries
use Rattle.fm_syz.specs.GeneratorValues.{GeneratorsValue}
use Rattle.fm_queries.specs.Founds.{support_value}
use Rattle.fm_queries.specs.declared.support.Support.{Support}
use Rattle.fm_answers.specs.Answers.{ideal_at}
use Rattle.fm_decide.proofs.BaseReports.{support_answered}
use Rattle.fm_decide.proofs.Degrees.{support_long}
use Rattle.fm_decide.proofs.EndedReports.{whole_stopped}
use Rattle.fm_decide.proofs.support.answer_support.Goals as goal

pub certify_support-requires-clause-degree : goal.certify_support-requires-clause-degree
certify_support-requires-clause-degree c =
    let r = c.args.problem.now.ring in
    support_long r c.args.i (column_meaning r c.generators-generators.result.now) c.new-work.result c.compute_support.new.work c.in-Ok.found c.in-Ok.ensures.follows

pub returns-in_ok-first_entries-in-Ok-clause-value : goal.returns-in_ok-first_entries-in-Ok-clause-value
returns-in_ok-first_entries-in-Ok-clause-value c =
    let q = c.args.problem.now in
    let follows = subst₂ (λ gs u. FollowsPlan {X = Support} (support_value q.ring c.args.i (column_meaning q.ring gs)) (Ok c.in-Ok.found) u c.compute_support.new.work (plan q.ring (ask_support c.args.i (column_meaning q.ring gs)) u))
    c.generators-generators.ensures.same c.new-work.ensures c.in-Ok.ensures.follows in
    let row = c.found-row.ensures ∙ ap (λ (x : GeneratorsValue). x.graph.matrix) c.generators.ensures.same in
    support_answered q c.args.i c.args.ideal c.args.units _ c.in-Ok.found c.found-row.result.now _ _ row
    (c.in_ok-first_entries-in-Ok.ensures.value q.ring (ap (λ (m : MatrixValue). m.ring) row ∙ c.in-Ok.ensures.row)) (c.in_ok-certificate-in-Ok.ensures (ideal_at q c.args.ideal)) follows

pub returns-in_ok-first_entries-in-Ok-clause-over : goal.returns-in_ok-first_entries-in-Ok-clause-over
returns-in_ok-first_entries-in-Ok-clause-over c =
    let row = c.found-row.ensures ∙ ap (λ (x : GeneratorsValue). x.graph.matrix) c.generators.ensures.same in
    subst (λ (r : Ring). AreOverVariables r.vars c.in_ok-first_entries-in-Ok.field-0.items) (ap (λ (m : MatrixValue). m.ring) row ∙ c.in-Ok.ensures.row) c.in_ok-first_entries-in-Ok.ensures.over

pub returns-in-Err-clause-value : goal.returns-in-Err-clause-value
returns-in-Err-clause-value c =
    let q = c.args.problem.now in
    let follows = subst₂ (λ gs u. FollowsPlan {X = Support} (support_value q.ring c.args.i (column_meaning q.ring gs)) (Err c.in-Err.stopped) u c.compute_support.new.work (plan q.ring (ask_support c.args.i (column_meaning q.ring gs)) u))
    c.generators-generators.ensures.same c.new-work.ensures c.in-Err.ensures.follows in
    whole_stopped q (queries.Support c.args.i c.args.ideal) c.args.units _ (plan q.ring (ask_support c.args.i (ideal_at q c.args.ideal))) (support_value q.ring c.args.i (ideal_at q c.args.ideal))
    unanswered_by c.in-Err.stopped c.stopped_answer.result follows c.stopped_answer.ensures.value c.stopped_answer.ensures.halts
