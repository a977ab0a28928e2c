use Rattle.std.proofs.Common.{◌≡◌, ◌≤◌, Ok, Err, IfOk, Result, length, sym, ap, ◌∙◌, subst}
use Rattle.fm_mat.specs.Matrices.{column_meaning}
use Rattle.fm_poly.specs.declared.ring.Ring.{Ring}
use Rattle.fm_run.specs.declared.stop.Stop.{Stop}
use Rattle.fm_run.specs.declared.task.Side.TheVariants.{Alone}
use Rattle.fm_run.specs.declared.task.Name.TheVariants as names
use Rattle.fm_run.proofs.Parts.{failed}
use Rattle.fm_graphs.specs.Graphs.{whole_run}
use Rattle.fm_plan.specs.Following.{unanswered_by}
use Rattle.fm_plan.proofs.Following.{told_of}
use Rattle.fm_syz.specs.GraphValues.{GraphValue, graph_meaning}
use Rattle.fm_syz.specs.Insides.{HasColumns, inside_value}
use Rattle.fm_syz.specs.declared.inside.Inside.{Inside}
use Rattle.fm_lift.proofs.Calls.{told_ok}
use Rattle.fm_queries.specs.Bases.{stable_graph}
use Rattle.fm_queries.proofs.StableGraphs.{stable_ring}
use Rattle.fm_queries.proofs.CallsTold.{columns_told, whole_told}
use Rattle.fm_queries.proofs.QueryPlans.{zero_base_stops, zero_test_stops, zero_ends}
use Rattle.fm_queries.proofs.zero.decide_zero.Goals as goal

pub returns-in_err-base-clause-follows : goal.returns-in_err-base-clause-follows
returns-in_err-base-clause-follows c =
    let r = c.args.ring in
    failed _ unanswered_by c.from_residual.result c.in_err-base.field-0.0 _ _ _ c.from_residual.ensures
    (zero_base_stops r c.args.degree (column_meaning r c.args.generators.now) c.args.work.now c.compute_base.new.work c.in_err-base.field-0.0 c.in_err-base.ensures.follows)

pub whole_of-requires-clause-some : goal.whole_of-requires-clause-some
whole_of-requires-clause-some c =
    subst (λ (s : Ring). 1 ≤ s.vars) (sym (ap (λ (g : GraphValue). g.matrix.ring) c.stable_kernel.ensures.same ∙ stable_ring c.in_ok-base.base c.stable_kernel.ensures.base ∙ c.in_ok-base.ensures.ring)) c.requires.some

pub whole_of-requires-clause-few : goal.whole_of-requires-clause-few
whole_of-requires-clause-few c =
    subst (λ (s : Ring). s.vars ≤ 8) (sym (ap (λ (g : GraphValue). g.matrix.ring) c.stable_kernel.ensures.same ∙ stable_ring c.in_ok-base.base c.stable_kernel.ensures.base ∙ c.in_ok-base.ensures.ring)) c.requires.few

pub returns-in_err-whole-clause-follows : goal.returns-in_err-whole-clause-follows
returns-in_err-whole-clause-follows c =
    let r = c.args.ring in
    let b = c.in_ok-base.base in
    let ring : (stable_graph b).matrix.ring ≡ r = stable_ring b c.stable_kernel.ensures.base ∙ c.in_ok-base.ensures.ring in
    failed _ unanswered_by c.from_residual-in_err-whole.result c.in_err-whole.field-0.0 _ _ _ c.from_residual-in_err-whole.ensures
    (zero_test_stops r c.args.degree (column_meaning r c.args.generators.now) c.args.work.now c.compute_base.new.work c.whole_of.new.work b c.in_ok-base.ensures.follows c.in_err-whole.field-0.0
    (told_of (inside_value r) Alone names.Whole 0 c.compute_base.new.work c.whole_of.new.work (whole_run r (graph_meaning r (stable_graph b))) c.whole_of.result (Err c.in_err-whole.field-0.0) c.in_err-whole.ensures
    (whole_told r (stable_graph b) c.stable_kernel.result.now c.stable_kernel.ensures.same ring c.compute_base.new.work c.whole_of.new.work c.whole_of.result c.whole_of.ensures.follows)))

pub returns-clause-follows : goal.returns-clause-follows
returns-clause-follows c =
    let r = c.args.ring in
    let b = c.in_ok-base.base in
    let ring : (stable_graph b).matrix.ring ≡ r = stable_ring b c.stable_kernel.ensures.base ∙ c.in_ok-base.ensures.ring in
    zero_ends r c.args.degree (column_meaning r c.args.generators.now) c.args.work.now c.compute_base.new.work c.whole_of.new.work b c.in_ok-base.ensures.follows c.in_ok-whole.whole
    (told_of (inside_value r) Alone names.Whole 0 c.compute_base.new.work c.whole_of.new.work (whole_run r (graph_meaning r (stable_graph b))) c.whole_of.result (Ok c.in_ok-whole.whole) c.in_ok-whole.ensures
    (whole_told r (stable_graph b) c.stable_kernel.result.now c.stable_kernel.ensures.same ring c.compute_base.new.work c.whole_of.new.work c.whole_of.result c.whole_of.ensures.follows))

pub returns-clause-columns : goal.returns-clause-columns
returns-clause-columns c =
    let r = c.args.ring in
    let b = c.in_ok-base.base in
    let x = c.in_ok-whole.whole in
    let h = c.stable_kernel.result.now in
    let ring : (stable_graph b).matrix.ring ≡ r = stable_ring b c.stable_kernel.ensures.base ∙ c.in_ok-base.ensures.ring in
    columns_told r (stable_graph b) h c.stable_kernel.ensures.same ring x
    (subst (λ (y : Result Inside Stop). IfOk y (HasColumns h.matrix.ring (length h.matrix.columns))) (told_ok _ c.whole_of.result x c.in_ok-whole.ensures) c.whole_of.ensures.columns)
