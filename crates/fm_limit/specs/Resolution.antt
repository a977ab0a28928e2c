-- Complexes of free modules, over the interface of matrices.
use Rattle.std.specs.Prelude.{ℕ, zero, suc}
use Rattle.fm_algebra.specs.Matrices.{Matrices}

-- The rank of the free module P_j: P_0 has rank 1, and P_(j+1) has as many generators as d_(j+1) has columns.
abbrev pub rank_of : (ℕ → ℕ) → ℕ → ℕ
rank_of cols zero = 1
rank_of cols (suc j) = cols j

-- The rank of P_(j-1), where P_(-1) is 0.
abbrev pub rank_before : (ℕ → ℕ) → ℕ → ℕ
rank_before cols zero = zero
rank_before cols (suc j) = rank_of cols j

module _ (M : Matrices) where
  open M use {Mat, nil}

  -- Matrices d_1, d_2, .. whose shapes fit: `d j` is d_(j+1), and `cols j` the number of its columns. Of a resolution through
  -- degree i only those up to d_(i+1) count.
  pub record Complex : Type 0 where
    pub cols : ℕ → ℕ
    pub d : (j : ℕ) → Mat (rank_of cols j) (cols j)

  -- d_i, where d_0 is the matrix from P_0 to 0
  unfoldable pub d_below : (P : Complex) (i : ℕ) → Mat (rank_before P.cols i) (rank_of P.cols i)
  d_below P zero = nil zero 1
  d_below P (suc j) = P.d j
