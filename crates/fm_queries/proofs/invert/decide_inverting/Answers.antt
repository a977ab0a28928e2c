use Rattle.std.proofs.Common.{◌≡◌, ◌≤◌, Ok, Err, sym, ap, ◌∙◌, subst}
use Rattle.fm_mat.specs.Matrices.{column_meaning}
use Rattle.fm_poly.specs.declared.ring.Ring.{Ring}
use Rattle.fm_poly.specs.Polys.{meaning}
use Rattle.fm_run.proofs.Parts.{failed}
use Rattle.fm_plan.specs.Following.{unanswered_by}
use Rattle.fm_syz.specs.GraphValues.{GraphValue}
use Rattle.fm_support.specs.Inverting.{IsInvertedOver}
use Rattle.fm_queries.specs.Bases.{stable_graph}
use Rattle.fm_queries.proofs.StableGraphs.{stable_ring}
use Rattle.fm_queries.proofs.CallsTold.{inverting_told}
use Rattle.fm_queries.proofs.InvertPlans.{invert_base_stops, invert_stops, invert_ends}
use Rattle.fm_queries.proofs.invert.decide_inverting.Goals as goal

pub returns-in_err-base-clause-follows : goal.returns-in_err-base-clause-follows
returns-in_err-base-clause-follows c =
    let r = c.args.ring in
    failed _ unanswered_by c.from_residual.result c.in_err-base.field-0.0 _ _ _ c.from_residual.ensures
    (invert_base_stops r c.args.degree (column_meaning r c.args.generators.now) (meaning r c.args.f.now.terms) c.args.work.now c.compute_base.new.work c.in_err-base.field-0.0 c.in_err-base.ensures.follows)

pub invert-requires-clause-ring : goal.invert-requires-clause-ring
invert-requires-clause-ring c =
    c.requires.polynomial ∙ sym (ap (λ (g : GraphValue). g.matrix.ring) c.stable_kernel.ensures.same ∙ stable_ring c.in_ok-base.base c.stable_kernel.ensures.base ∙ c.in_ok-base.ensures.ring)

pub invert-requires-clause-some : goal.invert-requires-clause-some
invert-requires-clause-some c =
    subst (λ (s : Ring). 1 ≤ s.vars) (sym (ap (λ (g : GraphValue). g.matrix.ring) c.stable_kernel.ensures.same ∙ stable_ring c.in_ok-base.base c.stable_kernel.ensures.base ∙ c.in_ok-base.ensures.ring)) c.requires.some

pub invert-requires-clause-few : goal.invert-requires-clause-few
invert-requires-clause-few c =
    subst (λ (s : Ring). s.vars ≤ 8) (sym (ap (λ (g : GraphValue). g.matrix.ring) c.stable_kernel.ensures.same ∙ stable_ring c.in_ok-base.base c.stable_kernel.ensures.base ∙ c.in_ok-base.ensures.ring)) c.requires.few

pub returns-in_err-inverted-clause-follows : goal.returns-in_err-inverted-clause-follows
returns-in_err-inverted-clause-follows c =
    let r = c.args.ring in
    let b = c.in_ok-base.base in
    let ring : (stable_graph b).matrix.ring ≡ r = stable_ring b c.stable_kernel.ensures.base ∙ c.in_ok-base.ensures.ring in
    failed _ unanswered_by c.from_residual-in_err-inverted.result c.in_err-inverted.field-0.0 _ _ _ c.from_residual-in_err-inverted.ensures
    (invert_stops r c.args.degree (column_meaning r c.args.generators.now) (meaning r c.args.f.now.terms) c.args.work.now c.compute_base.new.work c.invert.new.work b c.in_ok-base.ensures.follows c.in_err-inverted.field-0.0
    (inverting_told r (stable_graph b) c.stable_kernel.result.now c.stable_kernel.ensures.same ring c.compute_base.new.work c.invert.new.work c.args.f.now.terms (Err c.in_err-inverted.field-0.0) c.in_err-inverted.ensures.follows))

pub returns-clause-follows : goal.returns-clause-follows
returns-clause-follows c =
    let r = c.args.ring in
    let b = c.in_ok-base.base in
    let ring : (stable_graph b).matrix.ring ≡ r = stable_ring b c.stable_kernel.ensures.base ∙ c.in_ok-base.ensures.ring in
    invert_ends r c.args.degree (column_meaning r c.args.generators.now) (meaning r c.args.f.now.terms) c.args.work.now c.compute_base.new.work c.invert.new.work b c.in_ok-base.ensures.follows c.in_ok-inverted.inverted
    (inverting_told r (stable_graph b) c.stable_kernel.result.now c.stable_kernel.ensures.same ring c.compute_base.new.work c.invert.new.work c.args.f.now.terms (Ok c.in_ok-inverted.inverted) c.in_ok-inverted.ensures.follows)

pub returns-clause-over : goal.returns-clause-over
returns-clause-over c = subst (λ (g : GraphValue). IsInvertedOver g c.in_ok-inverted.inverted) c.stable_kernel.ensures.same c.in_ok-inverted.ensures.over
