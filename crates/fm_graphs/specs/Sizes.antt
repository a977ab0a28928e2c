-- Matrices, graphs and preimages whose numbers of rows, columns and members are at most a number.
use Rattle.std.specs.Prelude.{ℕ, ◌≤◌, length}
use Rattle.fm_poly.specs.declared.ring.Ring.{Ring}
use Rattle.fm_graphs.specs.Graphs.{MatrixOf, Graph, Inside, all_inside, first_outside}
use Rattle.fm_graphs.specs.Trims.{Preimage}

module _ (r : Ring) (most : ℕ) where
  pub record IsMatrixAtMost (A : MatrixOf r) : Type 0 where
    pub rows : A.rows ≤ most
    pub columns : length A.columns ≤ most

  -- its matrix is, and so is the number of its members
  pub record IsGraphAtMost (g : Graph r) : Type 0 where
    pub matrix : IsMatrixAtMost g.matrix
    pub members : length g.members ≤ most

  -- the number of solutions is, or that of the column that is outside
  abbrev pub IsInsideAtMost : Inside r → Type 0
  IsInsideAtMost (all_inside ws) = length ws ≤ most
  IsInsideAtMost (first_outside o) = o.column ≤ most

  -- what is found is, with its graph and w, and so are the numbers of columns of x and of members of the whole graph
  pub record IsPreimageAtMost (Q : Preimage r) : Type 0 where
    pub whole : length Q.whole.members ≤ most
    pub found : IsMatrixAtMost Q.found
    pub x : length Q.x.columns ≤ most
    pub w : IsMatrixAtMost Q.w
    pub graph : IsGraphAtMost Q.graph
