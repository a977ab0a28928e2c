use Rattle.std.proofs.Common.{take, refl, sym, ap, ◌∙◌, subst}
use Rattle.fm_lift.specs.Lifts.{AreInARow, graphs_meaning}
use Rattle.fm_resolve.specs.Resolutions.{graphs_of}
use Rattle.fm_ext.proofs.Differentials.{first_graphs, in_a_row}
use Rattle.fm_ext.proofs.lifting.graphs.Goals as goal

pub returns-clause-row : goal.returns-clause-row
returns-clause-row c =
    let x = c.args.resolution.now in
    let r = x.first.matrix.ring in
    subst (λ gs. AreInARow r 1 gs) (ap (λ k. take k (graphs_of x)) (sym c.from.ensures) ∙ sym c.in_ok-graphs.ensures.value) (in_a_row r c.args.degree x refl c.in_ok-graphs.ensures.resolution)

pub returns-clause-value : goal.returns-clause-value
returns-clause-value c =
    let x = c.args.resolution.now in
    let r = x.first.matrix.ring in
    ap (graphs_meaning r) (c.in_ok-graphs.ensures.value ∙ ap (λ k. take k (graphs_of x)) c.from.ensures) ∙ first_graphs r c.args.degree x
