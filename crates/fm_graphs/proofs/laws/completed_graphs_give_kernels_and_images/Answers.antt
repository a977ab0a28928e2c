use Rattle.std.proofs.Common.{◌≡◌, ◌↔◌, true, sym, ap, ◌∙◌, subst}
use Rattle.fm_algebra.specs.PolynomialMatrices.{InImage, GeneratesKernel, vector_product}
use Rattle.fm_graphs.specs.Graphs.{MatrixOf, solution, is_inside, syzygies}
use Rattle.fm_graphs.proofs.Graphs.{graph_is, syzygies_generate, lift_decides, lift_solves}
use Rattle.fm_graphs.proofs.laws.completed_graphs_give_kernels_and_images.Goals as goal

pub returns-clause-kernel : goal.returns-clause-kernel
returns-clause-kernel c = λ r A units left g s e. let G = graph_is r A s units left g e in subst (GeneratesKernel r.prime r.vars (syzygies r g)) G.1 (syzygies_generate r g G.0)

pub returns-clause-image : goal.returns-clause-image
returns-clause-image c = λ r A units left g v more rest x s e l h.
    let G = graph_is r A s units left g e in
    subst (λ M. InImage r.prime r.vars M v ↔ (is_inside r g x ≡ true)) G.1 (lift_decides r g G.0 v (l ∙ sym (ap (λ (M : MatrixOf r). M.rows) G.1)) more rest x h)

pub returns-clause-solution : goal.returns-clause-solution
returns-clause-solution c = λ r A units left g v more rest x s e l h inside.
    let G = graph_is r A s units left g e in
    ap (λ M. vector_product r.prime r.vars M (solution r g x)) (sym G.1) ∙ (lift_solves r g G.0 v (l ∙ sym (ap (λ (M : MatrixOf r). M.rows) G.1)) more rest x h inside).1
