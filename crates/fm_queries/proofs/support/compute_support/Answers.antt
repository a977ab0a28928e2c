use Rattle.std.proofs.Common.{◌≡◌, ◌≤◌, Ok, Err, sym, ap, ◌∙◌, subst}
use Rattle.fm_mat.specs.Matrices.{column_meaning}
use Rattle.fm_poly.specs.declared.ring.Ring.{Ring}
use Rattle.fm_run.proofs.Parts.{failed}
use Rattle.fm_plan.specs.Following.{unanswered_by}
use Rattle.fm_syz.specs.GraphValues.{GraphValue}
use Rattle.fm_syz.specs.GeneratorValues.{PreimageValue}
use Rattle.fm_queries.specs.Bases.{stable_graph}
use Rattle.fm_queries.proofs.StableGraphs.{stable_ring}
use Rattle.fm_queries.proofs.CallsTold.{annihilator_told}
use Rattle.fm_queries.proofs.QueryPlans.{support_base_stops, support_row_stops, support_ends}
use Rattle.fm_queries.proofs.support.compute_support.Goals as goal

pub returns-in_err-base-clause-follows : goal.returns-in_err-base-clause-follows
returns-in_err-base-clause-follows c =
    let r = c.args.ring in
    failed _ unanswered_by c.from_residual.result c.in_err-base.field-0.0 _ _ _ c.from_residual.ensures
    (support_base_stops r c.args.degree (column_meaning r c.args.generators.now) c.args.work.now c.compute_base.new.work c.in_err-base.field-0.0 c.in_err-base.ensures.follows)

pub annihilator-requires-clause-some : goal.annihilator-requires-clause-some
annihilator-requires-clause-some c =
    subst (λ (s : Ring). 1 ≤ s.vars) (sym (ap (λ (g : GraphValue). g.matrix.ring) c.stable_kernel.ensures.same ∙ stable_ring c.in_ok-base.base c.stable_kernel.ensures.base ∙ c.in_ok-base.ensures.ring)) c.requires.some

pub annihilator-requires-clause-few : goal.annihilator-requires-clause-few
annihilator-requires-clause-few c =
    subst (λ (s : Ring). s.vars ≤ 8) (sym (ap (λ (g : GraphValue). g.matrix.ring) c.stable_kernel.ensures.same ∙ stable_ring c.in_ok-base.base c.stable_kernel.ensures.base ∙ c.in_ok-base.ensures.ring)) c.requires.few

pub returns-in_err-annihilator-clause-follows : goal.returns-in_err-annihilator-clause-follows
returns-in_err-annihilator-clause-follows c =
    let r = c.args.ring in
    let b = c.in_ok-base.base in
    let ring : (stable_graph b).matrix.ring ≡ r = stable_ring b c.stable_kernel.ensures.base ∙ c.in_ok-base.ensures.ring in
    failed _ unanswered_by c.from_residual-in_err-annihilator.result c.in_err-annihilator.field-0.0 _ _ _ c.from_residual-in_err-annihilator.ensures
    (support_row_stops r c.args.degree (column_meaning r c.args.generators.now) c.args.work.now c.compute_base.new.work c.annihilator.new.work b c.in_ok-base.ensures.follows c.in_err-annihilator.field-0.0
    (annihilator_told r (stable_graph b) c.stable_kernel.result.now c.stable_kernel.ensures.same ring c.compute_base.new.work c.annihilator.new.work (λ (P : PreimageValue). P) (Err c.in_err-annihilator.field-0.0) c.in_err-annihilator.ensures.follows))

pub returns-clause-follows : goal.returns-clause-follows
returns-clause-follows c =
    let r = c.args.ring in
    let b = c.in_ok-base.base in
    let ring : (stable_graph b).matrix.ring ≡ r = stable_ring b c.stable_kernel.ensures.base ∙ c.in_ok-base.ensures.ring in
    support_ends r c.args.degree (column_meaning r c.args.generators.now) c.args.work.now c.compute_base.new.work c.annihilator.new.work b c.in_ok-base.ensures.follows c.in_ok-annihilator.annihilator
    (annihilator_told r (stable_graph b) c.stable_kernel.result.now c.stable_kernel.ensures.same ring c.compute_base.new.work c.annihilator.new.work (λ (P : PreimageValue). P) (Ok c.in_ok-annihilator.annihilator) c.in_ok-annihilator.ensures.follows)

pub returns-clause-row : goal.returns-clause-row
returns-clause-row c =
    let b = c.in_ok-base.base in
    c.in_ok-annihilator.ensures.ring ∙ ap (λ (g : GraphValue). g.matrix.ring) c.stable_kernel.ensures.same ∙ stable_ring b c.stable_kernel.ensures.base ∙ c.in_ok-base.ensures.ring
