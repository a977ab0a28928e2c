-- The row of an annihilator, for the matrices that were built.
use Rattle.std.proofs.Common.{ℕ, ◌≡◌, ◌↔◌, [], ◌∷◌, length, IfOk, Result, Ok, Err, sym, ap, ◌∙◌, subst}
use Rattle.fm_algebra.specs.PolynomialMatrices.{HasShape, InImage, GeneratesPreimage, matrix_scalar}
use Rattle.fm_graphs.specs.Graphs.{MatrixOf}
use Rattle.fm_graphs.specs.Trims.{preimage_run}
use Rattle.fm_limit.specs.Facts.{ColumnsInImage, unit_column, diagonal_blocks}
use Rattle.fm_limit.specs.ResolvedIdeal.{InIdeal}
use Rattle.fm_limit.proofs.AnnihilatorRows.{annihilator_fact, entries_row}
use Rattle.fm_mat.specs.Matrices.{MatrixValue, matrix_meaning}
use Rattle.fm_poly.specs.declared.ring.Ring.{Ring}
use Rattle.fm_run.specs.declared.stop.Stop.{Stop}
use Rattle.fm_run.specs.declared.task.Task.{Task}
use Rattle.fm_run.specs.Runs.{Follows}
use Rattle.fm_run.specs.Tasks.{stopped_in}
use Rattle.fm_support.specs.Annihilators.{Annihilates, annihilator_work}
use Rattle.fm_syz.specs.GeneratorValues.{AreGenerators, PreimageValue, preimage_meaning}

module _ (r s : Ring) (K km unit blocks : MatrixValue) (g : ℕ) (of_s : s ≡ r) (of_unit : unit.ring ≡ s) (high : g ≡ K.rows) (same : km ≡ K) (over : K.ring ≡ r)
    (V : matrix_meaning s unit ≡ unit_column s.prime s.vars g) (D : let t = km.ring in matrix_meaning t blocks ≡ diagonal_blocks t.prime t.vars (matrix_meaning t km)) where
  column : matrix_meaning r unit ≡ unit_column r.prime r.vars K.rows
  column = subst (λ (x : Ring). matrix_meaning x unit ≡ unit_column x.prime x.vars g) of_s V ∙ ap (unit_column r.prime r.vars) high

  diagonal : matrix_meaning r blocks ≡ diagonal_blocks r.prime r.vars (matrix_meaning r K)
  diagonal = subst (λ (t : Ring). matrix_meaning t blocks ≡ diagonal_blocks t.prime t.vars (matrix_meaning t K)) over
      (subst (λ (m : MatrixValue). let t = m.ring in matrix_meaning t blocks ≡ diagonal_blocks t.prime t.vars (matrix_meaning t m)) same D)

  pub row_told : (result : Result PreimageValue Stop) (old new : ℕ) → (let t = unit.ring in Follows (preimage_meaning t) result old new (preimage_run t (matrix_meaning t unit) (matrix_meaning t blocks) old))
      → Follows (preimage_meaning r) result old new (annihilator_work r (matrix_meaning r K) old)
  row_told result old new h =
      subst (λ B. Follows (preimage_meaning r) result old new (preimage_run r (unit_column r.prime r.vars K.rows) B old)) diagonal
      (subst (λ A. Follows (preimage_meaning r) result old new (preimage_run r A (matrix_meaning r blocks) old)) column
      (subst (λ (t : Ring). Follows (preimage_meaning t) result old new (preimage_run t (matrix_meaning t unit) (matrix_meaning t blocks) old)) (of_unit ∙ of_s) h))

  -- the row has one row, and generates the preimage
  module _ (P : PreimageValue) (of_p : P.generators.graph.matrix.ring ≡ unit.ring) (one : P.generators.graph.matrix.rows ≡ length unit.columns) (single : length unit.columns ≡ 1)
      (generate : AreGenerators P.whole P.generators)
      (generates : let t = unit.ring in GeneratesPreimage t.prime t.vars (matrix_meaning t P.generators.graph.matrix) (matrix_meaning t unit) (matrix_meaning t blocks)) where
    abbrev found : MatrixOf r
    found = matrix_meaning r P.generators.graph.matrix

    fits : HasShape r.prime r.vars 1 (length found.columns) found
    fits = subst (λ (x : Ring). HasShape x.prime x.vars 1 (length (matrix_meaning x P.generators.graph.matrix).columns) (matrix_meaning x P.generators.graph.matrix)) (sym generate.graph_ring ∙ of_p ∙ of_unit ∙ of_s)
        (subst (λ n. let x = P.whole.matrix.ring in HasShape x.prime x.vars n (length (matrix_meaning x P.generators.graph.matrix).columns) (matrix_meaning x P.generators.graph.matrix)) (one ∙ single) generate.generating.found_shape)

    preimages : GeneratesPreimage r.prime r.vars found (unit_column r.prime r.vars K.rows) (diagonal_blocks r.prime r.vars (matrix_meaning r K))
    preimages =
        subst (λ B. GeneratesPreimage r.prime r.vars found (unit_column r.prime r.vars K.rows) B) diagonal
        (subst (λ A. GeneratesPreimage r.prime r.vars found A (matrix_meaning r blocks)) column
        (subst (λ (t : Ring). GeneratesPreimage t.prime t.vars (matrix_meaning t P.generators.graph.matrix) (matrix_meaning t unit) (matrix_meaning t blocks)) (of_unit ∙ of_s) generates))

    pub row_annihilates : Annihilates r (matrix_meaning r K) P
    unfolding InIdeal
    row_annihilates a = subst (λ A. InImage r.prime r.vars A (a ∷ []) ↔ ColumnsInImage r.prime r.vars (matrix_meaning r K) (matrix_scalar r.prime r.vars a K.rows)) (sym (entries_row r.prime r.vars fits))
        (annihilator_fact r.prime r.vars (record { fits = fits; generates = preimages }) a)

-- what holds of an answer holds once it is told of a task
pub still_ok : {X : Type 0} (P : X → Type 0) (task : Task) (a : Result X Stop) → IfOk a P → IfOk (stopped_in task a) P
still_ok P task (Ok x) h = h
still_ok P task (Err e) h = tt
