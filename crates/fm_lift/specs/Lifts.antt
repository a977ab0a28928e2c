-- Lifts of products through completed graphs, and matrices in a row.
use Rattle.std.specs.Prelude.{ℕ, suc, ◌≡◌, List, [], ◌∷◌, map, length}
use Rattle.fm_poly.specs.declared.ring.Ring.{Ring}
use Rattle.fm_mat.specs.Matrices.{MatrixValue, matrix_meaning}
use Rattle.fm_graphs.specs.Bounds.{multiplied}
use Rattle.fm_graphs.specs.Graphs.{MatrixOf, Graph, lifted}
use Rattle.fm_limit.specs.ResolvedIdeal.{matrix_at}
use Rattle.fm_run.specs.Runs.{Work, ◌>>=◌}
use Rattle.fm_syz.specs.GraphValues.{GraphValue, IsGraph, graph_meaning}

-- the list without its first item
abbrev pub after_the_first : {A : Type 0} → List A → List A
after_the_first [] = []
after_the_first (x ∷ xs) = xs

-- matrices over r
abbrev pub AreMatricesOver : Ring → List MatrixValue → Type 0
AreMatricesOver r [] = Unit {0}
AreMatricesOver r (m ∷ ms) = (m.ring ≡ r) × AreMatricesOver r ms

abbrev pub AreGraphs : List GraphValue → Type 0
AreGraphs [] = Unit {0}
AreGraphs (g ∷ gs) = IsGraph g × AreGraphs gs

-- graphs of matrices over r that can follow one another: each has as many rows as the one before has columns, the first one m
abbrev pub AreInARow : Ring → ℕ → List GraphValue → Type 0
AreInARow r m [] = Unit {0}
AreInARow r m (g ∷ gs) = (g.matrix.ring ≡ r) × (g.matrix.rows ≡ m) × AreInARow r (length g.matrix.columns) gs

-- matrices over r and graphs, as many, that can follow one another: an m by n matrix times the first matrix, through the first graph, and so on
abbrev pub AreAligned : Ring → (m n : ℕ) → List MatrixValue → List GraphValue → Type 0
AreAligned r m n (d ∷ ds) (g ∷ gs) =
    (d.ring ≡ r) × (d.rows ≡ n) × (g.matrix.ring ≡ r) × (g.matrix.rows ≡ m) × AreAligned r (length g.matrix.columns) (length d.columns) ds gs
AreAligned r m n [] gs = Unit {0}
AreAligned r m n (d ∷ ds) [] = Unit {0}

module _ (r : Ring) where
  abbrev pub matrices_meaning : List MatrixValue → List (MatrixOf r)
  matrices_meaning ms = map (matrix_meaning r) ms

  abbrev pub graphs_meaning : List GraphValue → List (Graph r)
  graphs_meaning gs = map (graph_meaning r) gs

  -- the columns of A * D through the graph g
  abbrev pub product_work : MatrixOf r → MatrixOf r → Graph r → Work (MatrixOf r)
  product_work A D g = multiplied r.prime r.vars A D >>= λ B. lifted r g B.columns

  -- these are graphs of the matrices of ds with the numbers j, j + 1, ..
  abbrev pub AreGraphsFrom : List (MatrixOf r) → ℕ → List GraphValue → Type 0
  AreGraphsFrom ds j [] = Unit {0}
  AreGraphsFrom ds j (g ∷ gs) = (matrix_meaning r g.matrix ≡ matrix_at r.prime r.vars ds j) × AreGraphsFrom ds (suc j) gs
