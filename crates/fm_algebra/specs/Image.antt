-- Images, kernels and powers, over the interface of matrices.
use Rattle.std.specs.Prelude.{ℕ, zero, suc, ◌≡◌}
use Rattle.fm_algebra.specs.Matrices.{Matrices}

module _ (M : Matrices) where
  open M use {Mat, ◌⊛◌, nil, unit}

  infixl 70 ◌⊛◌
  -- B = A * X for some X. Of a vector: it is in im A. Of a matrix: each of its columns is.
  abbrev pub InImage : {m n k : ℕ} → Mat m n → Mat m k → Type 0
  InImage {m} {n} {k} A B = (X : Mat n k) × (A ⊛ X ≡ B)

  -- A * w = 0
  abbrev pub InKernel : {m n k : ℕ} → Mat m n → Mat n k → Type 0
  InKernel {m} {n} {k} A w = A ⊛ w ≡ nil m k

  -- f ^ k
  unfoldable pub pow : Mat 1 1 → ℕ → Mat 1 1
  pow f zero = unit 1
  pow f (suc k) = f ⊛ pow f k
