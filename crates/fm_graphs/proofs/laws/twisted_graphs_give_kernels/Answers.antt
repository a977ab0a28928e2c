use Rattle.std.proofs.Common.{ap, ◌∙◌, subst}
use Rattle.fm_algebra.specs.PolynomialMatrices.{GeneratesKernel, matrix_twist}
use Rattle.fm_graphs.specs.Graphs.{syzygies}
use Rattle.fm_graphs.proofs.Graphs.{graph_is, syzygies_generate}
use Rattle.fm_graphs.proofs.Lifts.{twisted_is}
use Rattle.fm_graphs.proofs.laws.twisted_graphs_give_kernels.Goals as goal

pub returns : goal.returns
returns c = λ r e A units left g more rest h s ends twists.
    let G = graph_is r A s units left g ends in
    let H = twisted_is r g G.0 e more rest h twists in
    subst (GeneratesKernel r.prime r.vars (syzygies r h)) (H.1 ∙ ap (matrix_twist r.prime r.vars e) G.1) (syzygies_generate r h H.0)
