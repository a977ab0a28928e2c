use Rattle.std.proofs.Common.{IfOk, ◌≡◌, sym, subst}
use Rattle.fm_mat.specs.Matrices.{matrix_meaning}
use Rattle.fm_syz.specs.GeneratorValues.{PreimageValue}
use Rattle.fm_support.specs.Annihilators.{Annihilates}
use Rattle.fm_support.proofs.AnnihilatorRuns.{still_ok}
use Rattle.fm_support.proofs.annihilating.annihilator.Goals as goal

pub returns-clause-generates : goal.returns-clause-generates
returns-clause-generates c =
    let r = c.args.k.now.matrix.ring in
    let A = Annihilates r (matrix_meaning r c.args.k.now.matrix) in
    subst (λ a. IfOk a A) (sym c.in_task.ensures) (still_ok A _ c.annihilator_row.result c.annihilator_row.ensures.generates)

pub returns-clause-ring : goal.returns-clause-ring
returns-clause-ring c =
    let A = λ (P : PreimageValue). P.generators.graph.matrix.ring ≡ c.args.k.now.matrix.ring in
    subst (λ a. IfOk a A) (sym c.in_task.ensures) (still_ok A _ c.annihilator_row.result c.annihilator_row.ensures.ring)
