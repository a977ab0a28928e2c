-- Lifts of columns in the image are a solution.
use Rattle.std.proofs.Common.{ℕ, ◌≡◌, Contains, Result, Ok, Err, sym, ap, ◌∙◌}
use Rattle.std.specs.Prelude.{IfOk}
use Rattle.fm_algebra.specs.PolynomialMatrices.{InImage, matrix_product}
use Rattle.fm_groebner.proofs.Numbers.{contains_of_in}
use Rattle.fm_run.specs.declared.stop.Stop.{Stop}
use Rattle.fm_run.specs.Runs.{Follows}
use Rattle.fm_graphs.specs.Listing.{VectorOf}
use Rattle.fm_graphs.specs.Graphs.{lifted}
use Rattle.fm_graphs.proofs.Columns.{solutions_product}
use Rattle.fm_graphs.proofs.Lifts.{lifted_solves}
use Rattle.fm_mat.specs.Matrices.{MatrixValue, AreColumns, columns_meaning, matrix_meaning}
use Rattle.fm_syz.specs.GraphValues.{GraphValue, IsGraph, graph_meaning}
use Rattle.fm_syz.proofs.Inputs.{columns_long}

pub columns_solved : (g : GraphValue) (b : MatrixValue) → IsGraph g → AreColumns g.matrix.ring g.matrix.rows b.columns → b.rows ≡ g.matrix.rows → (units left : ℕ) (answer : Result MatrixValue Stop)
    → Follows (matrix_meaning g.matrix.ring) answer units left (lifted g.matrix.ring (graph_meaning g.matrix.ring g) (columns_meaning g.matrix.ring b.columns) units)
    → ((v : VectorOf g.matrix.ring) → Contains (columns_meaning g.matrix.ring b.columns) v → InImage g.matrix.ring.prime g.matrix.ring.vars (matrix_meaning g.matrix.ring g.matrix) v)
    → IfOk answer (λ m. matrix_product g.matrix.ring.prime g.matrix.ring.vars (matrix_meaning g.matrix.ring g.matrix) (matrix_meaning g.matrix.ring m) ≡ matrix_meaning g.matrix.ring b)
columns_solved g b G shape rows units left (Ok m) h inside =
    let r = g.matrix.ring in
    let A = matrix_meaning r g.matrix in
    let vs = columns_meaning r b.columns in
    let long = columns_long r g.matrix.rows b.columns shape in
    let s = lifted_solves r (graph_meaning r g) G.completed vs long (λ v i. inside v (contains_of_in i)) units left (matrix_meaning r m) h in
    ap (matrix_product r.prime r.vars A) s.1
    ∙ solutions_product r.prime r.vars A.rows A vs (matrix_meaning r m).columns G.completed.shape long s.0
    ∙ ap (λ n. record { rows = n; columns = vs }) (sym rows)
columns_solved g b G shape rows units left (Err stop) h inside = tt
