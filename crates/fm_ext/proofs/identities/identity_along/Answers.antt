use Rattle.std.proofs.Common.{ℕ, ◌≡◌, ◌∷◌, IfOk, Vec, Global, List, length, map, take, refl, sym, ap, ◌∙◌, subst, subst₂, arith}
use Rattle.fm_algebra.specs.PolynomialMatrices.{matrix_unit}
use Rattle.fm_graphs.specs.Graphs.{Graph, MatrixOf}
use Rattle.fm_limit.specs.Facts.{ColumnsInImage}
use Rattle.fm_limit.specs.ResolvedIdeal.{IsLiftOfIdentityOf, IsResolutionOf, row}
use Rattle.fm_lift.specs.Lifts.{AreAligned, AreGraphsFrom, AreMatricesOver, after_the_first, graphs_meaning, matrices_meaning}
use Rattle.fm_lift.proofs.Calls.{plan_wants, told_ok, told_memory}
use Rattle.fm_mat.specs.declared.matrix.Matrix.{Matrix}
use Rattle.fm_mat.specs.Matrices.{MatrixValue}
use Rattle.fm_mat.proofs.Steps.{map_length}
use Rattle.fm_plan.specs.Following.{FollowsPlan, unanswered_by}
use Rattle.fm_plan.specs.Queries.{over_identity}
use Rattle.fm_plan.specs.Results as plans
use Rattle.fm_poly.specs.declared.ring.Ring.{Ring}
use Rattle.fm_run.proofs.Parts.{failed}
use Rattle.fm_syz.specs.GraphValues.{GraphValue}
use Rattle.fm_resolve.specs.Resolutions.{graphs_of, resolution_value}
use Rattle.fm_ext.specs.Exts.{differentials}
use Rattle.fm_ext.proofs.Differentials.{first_graphs}
use Rattle.fm_ext.proofs.IdentityGraphs.{aligned_at, count_graphs, count_matrices, first_graphs_at, first_matrices, identity_spends}
use Rattle.fm_ext.proofs.identities.identity_along.Goals as goal

pub returns-in_err-graphs-clause-follows : goal.returns-in_err-graphs-clause-follows
returns-in_err-graphs-clause-follows c =
    let r = c.args.source.now.first.matrix.ring in
    let i = c.args.degree in
    let unit = matrix_unit r.prime r.vars 1 in
    let ds = take i (differentials r c.args.target.now) in
    let gs = take i (plans.graphs_of r (resolution_value r c.args.source.now)) in
    let units = c.args.work.now in
    let all = over_identity r 1 unit ds gs units in
    failed _ unanswered_by c.from_residual.result c.in_err-graphs.field-0.0 units units all c.from_residual.ensures
    (plan_wants c.in_err-graphs.field-0.0 units units all (told_memory _ c.graphs.result _ c.in_err-graphs.ensures c.graphs.ensures.memory) (omega arith) (identity_spends r 1 unit ds gs units))

pub returns-in_err-differentials-clause-follows : goal.returns-in_err-differentials-clause-follows
returns-in_err-differentials-clause-follows c =
    let r = c.args.source.now.first.matrix.ring in
    let i = c.args.degree in
    let unit = matrix_unit r.prime r.vars 1 in
    let ds = take i (differentials r c.args.target.now) in
    let gs = take i (plans.graphs_of r (resolution_value r c.args.source.now)) in
    let units = c.args.work.now in
    let all = over_identity r 1 unit ds gs units in
    failed _ unanswered_by c.from_residual-in_err-differentials.result c.in_err-differentials.field-0.0 units units all c.from_residual-in_err-differentials.ensures
    (plan_wants c.in_err-differentials.field-0.0 units units all (told_memory _ c.differentials.result _ c.in_err-differentials.ensures c.differentials.ensures.memory) (omega arith) (identity_spends r 1 unit ds gs units))

pub over_identity-requires-clause-count : goal.over_identity-requires-clause-count
over_identity-requires-clause-count c =
    let r = c.args.source.now.first.matrix.ring in
    let i = c.args.degree in
    let source = c.args.source.now in
    let target = c.args.target.now in
    let taken : map (λ g. g.now) c.in_ok-graphs.graphs.items ≡ take i (graphs_of source) =
    subst (λ x. IfOk x (λ gs. map (λ g. g.now) gs.items ≡ take i (graphs_of source))) (told_ok _ c.graphs.result c.in_ok-graphs.graphs c.in_ok-graphs.ensures) c.graphs.ensures.taken in
    let chosen : map (λ d. d.now) c.in_ok-differentials.differentials.items ≡ take i (map (λ (g : GraphValue). g.matrix) (graphs_of target)) =
    subst (λ x. IfOk x (λ ds. map (λ d. d.now) ds.items ≡ take i (map (λ (g : GraphValue). g.matrix) (graphs_of target)))) (told_ok _ c.differentials.result c.in_ok-differentials.differentials c.in_ok-differentials.ensures)
    c.differentials.ensures.value in
    let GV : map (λ g. g.now) c.deref-2.result.now ≡ take i (graphs_of source) = ap (map (λ g. g.now)) c.deref-2.ensures.value ∙ taken in
    let DV : map (λ d. d.now) c.deref.result.now ≡ take i (map (λ (g : GraphValue). g.matrix) (graphs_of target)) = ap (map (λ d. d.now)) c.deref.ensures.value ∙ chosen in
    sym (map_length (λ d. d.now) c.deref.result.now) ∙ ap length DV ∙ count_matrices r i target (omega (arith, c.requires.target)) ∙ sym (count_graphs r i source (omega (arith, c.requires.source))) ∙ sym (ap length GV)
    ∙ map_length (λ g. g.now) c.deref-2.result.now

pub over_identity-requires-clause-row : goal.over_identity-requires-clause-row
over_identity-requires-clause-row c =
    let r = c.args.source.now.first.matrix.ring in
    let i = c.args.degree in
    let source = c.args.source.now in
    let target = c.args.target.now in
    let taken : map (λ g. g.now) c.in_ok-graphs.graphs.items ≡ take i (graphs_of source) =
    subst (λ x. IfOk x (λ gs. map (λ g. g.now) gs.items ≡ take i (graphs_of source))) (told_ok _ c.graphs.result c.in_ok-graphs.graphs c.in_ok-graphs.ensures) c.graphs.ensures.taken in
    let chosen : map (λ d. d.now) c.in_ok-differentials.differentials.items ≡ take i (map (λ (g : GraphValue). g.matrix) (graphs_of target)) =
    subst (λ x. IfOk x (λ ds. map (λ d. d.now) ds.items ≡ take i (map (λ (g : GraphValue). g.matrix) (graphs_of target)))) (told_ok _ c.differentials.result c.in_ok-differentials.differentials c.in_ok-differentials.ensures)
    c.differentials.ensures.value in
    let GV : map (λ g. g.now) c.deref-2.result.now ≡ take i (graphs_of source) = ap (map (λ g. g.now)) c.deref-2.ensures.value ∙ taken in
    let DV : map (λ d. d.now) c.deref.result.now ≡ take i (map (λ (g : GraphValue). g.matrix) (graphs_of target)) = ap (map (λ d. d.now)) c.deref.ensures.value ∙ chosen in
    subst (λ (s : Ring). AreAligned s 1 1 (map (λ d. d.now) c.deref.result.now) (map (λ g. g.now) c.deref-2.result.now)) (sym c.ring.ensures)
    (subst₂ (λ ms hs. AreAligned r 1 1 ms hs) (sym DV) (sym GV) (aligned_at r i source target refl c.requires.ring c.graphs.ensures.resolution c.differentials.ensures.resolution))

pub returns-clause-follows : goal.returns-clause-follows
returns-clause-follows c =
    let r = c.args.source.now.first.matrix.ring in
    let i = c.args.degree in
    let source = c.args.source.now in
    let target = c.args.target.now in
    let taken : map (λ g. g.now) c.in_ok-graphs.graphs.items ≡ take i (graphs_of source) =
    subst (λ x. IfOk x (λ gs. map (λ g. g.now) gs.items ≡ take i (graphs_of source))) (told_ok _ c.graphs.result c.in_ok-graphs.graphs c.in_ok-graphs.ensures) c.graphs.ensures.taken in
    let chosen : map (λ d. d.now) c.in_ok-differentials.differentials.items ≡ take i (map (λ (g : GraphValue). g.matrix) (graphs_of target)) =
    subst (λ x. IfOk x (λ ds. map (λ d. d.now) ds.items ≡ take i (map (λ (g : GraphValue). g.matrix) (graphs_of target)))) (told_ok _ c.differentials.result c.in_ok-differentials.differentials c.in_ok-differentials.ensures)
    c.differentials.ensures.value in
    let GV : map (λ g. g.now) c.deref-2.result.now ≡ take i (graphs_of source) = ap (map (λ g. g.now)) c.deref-2.ensures.value ∙ taken in
    let DV : map (λ d. d.now) c.deref.result.now ≡ take i (map (λ (g : GraphValue). g.matrix) (graphs_of target)) = ap (map (λ d. d.now)) c.deref.ensures.value ∙ chosen in
    subst₂ (λ A B. FollowsPlan (λ (ls : Vec Matrix Global). after_the_first (matrices_meaning r ls.items)) c.over_identity.result c.args.work.now c.over_identity.new.work (over_identity r 1 (matrix_unit r.prime r.vars 1) A B c.args.work.now))
    (ap (matrices_meaning r) DV ∙ first_matrices r i target) (ap (graphs_meaning r) GV ∙ first_graphs r i source)
    (subst (λ (s : Ring). FollowsPlan (λ (ls : Vec Matrix Global). after_the_first (matrices_meaning s ls.items)) c.over_identity.result c.args.work.now c.over_identity.new.work
    (over_identity s 1 (matrix_unit s.prime s.vars 1) (matrices_meaning s (map (λ d. d.now) c.deref.result.now)) (graphs_meaning s (map (λ g. g.now) c.deref-2.result.now)) c.args.work.now)) c.ring.ensures c.over_identity.ensures.follows)

pub returns-clause-lifts : goal.returns-clause-lifts
returns-clause-lifts c fs gs S D contained =
    let r = c.args.source.now.first.matrix.ring in
    let i = c.args.degree in
    let source = c.args.source.now in
    let target = c.args.target.now in
    let taken : map (λ g. g.now) c.in_ok-graphs.graphs.items ≡ take i (graphs_of source) =
    subst (λ x. IfOk x (λ gs. map (λ g. g.now) gs.items ≡ take i (graphs_of source))) (told_ok _ c.graphs.result c.in_ok-graphs.graphs c.in_ok-graphs.ensures) c.graphs.ensures.taken in
    let chosen : map (λ d. d.now) c.in_ok-differentials.differentials.items ≡ take i (map (λ (g : GraphValue). g.matrix) (graphs_of target)) =
    subst (λ x. IfOk x (λ ds. map (λ d. d.now) ds.items ≡ take i (map (λ (g : GraphValue). g.matrix) (graphs_of target)))) (told_ok _ c.differentials.result c.in_ok-differentials.differentials c.in_ok-differentials.ensures)
    c.differentials.ensures.value in
    let GV : map (λ g. g.now) c.deref-2.result.now ≡ take i (graphs_of source) = ap (map (λ g. g.now)) c.deref-2.ensures.value ∙ taken in
    let DV : map (λ d. d.now) c.deref.result.now ≡ take i (map (λ (g : GraphValue). g.matrix) (graphs_of target)) = ap (map (λ d. d.now)) c.deref.ensures.value ∙ chosen in
    (subst (λ (s : Ring). (fs gs : plans.Ideal s) (i : ℕ) (ds us : List (MatrixOf s)) → IsResolutionOf s.prime s.vars gs i ds → IsResolutionOf s.prime s.vars fs i us
    → ColumnsInImage s.prime s.vars (row s.prime s.vars fs) (row s.prime s.vars gs) → length c.deref-2.result.now ≡ i → matrices_meaning s (map (λ d. d.now) c.deref.result.now) ≡ take i ds
    → AreGraphsFrom s us 0 (map (λ g. g.now) c.deref-2.result.now) → IfOk c.over_identity.result (λ (ls : Vec Matrix Global). IsLiftOfIdentityOf s.prime s.vars i ds us (matrices_meaning s ls.items))) c.ring.ensures c.over_identity.ensures.lifts)
    fs gs i (differentials r target) (differentials r source) D S contained (sym (map_length (λ g. g.now) c.deref-2.result.now) ∙ ap length GV ∙ count_graphs r i source (omega (arith, c.requires.source)))
    (ap (matrices_meaning r) DV ∙ first_matrices r i target) (subst (AreGraphsFrom r (differentials r source) 0) (sym GV) (first_graphs_at r i source))
