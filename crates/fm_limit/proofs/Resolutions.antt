-- Resolutions of ideals, Frobenius lifts and lifts of the identity, over the interface of matrices
use Rattle.std.proofs.Common.{ℕ, zero, suc, ◌<◌, ◌≡◌}
use Rattle.fm_algebra.specs.Matrices.{Matrices}
use Rattle.fm_algebra.proofs.Generation.{GeneratesKernel, SameImage}
use Rattle.fm_limit.specs.Resolution.{rank_of, Complex}

module _ (M : Matrices) where
  open M use {Mat, ◌⊛◌, unit, twist}

  infixl 70 ◌⊛◌
  -- P is a resolution through degree i of the ideal that the entries of a row generate: the entries of d_1 generate the
  -- ideal, and ker d_j = im d_(j+1) for j from 1 to i (any textbook of homological algebra).
  pub record IsResolution (g : ℕ) (ideal : Mat 1 g) (i : ℕ) (P : Complex M) : Type 0 where
    pub generators : SameImage M (P.d zero) ideal
    pub exact : (j : ℕ) → j < i → GeneratesKernel M (P.d (suc j)) (P.d j)

  -- theta_0 .. theta_i is a Frobenius lift of P: theta_0 = (1), and d_j * theta_j = theta_(j-1) * d_j^[p] for j from 1 to i
  -- (G. Lyubeznik, F-modules: applications to local cohomology and D-modules in characteristic p > 0, 1997).
  pub record IsFrobeniusLift (i : ℕ) (P : Complex M) (theta : (j : ℕ) → Mat (rank_of P.cols j) (rank_of P.cols j)) : Type 0 where
    pub first : theta zero ≡ unit 1
    pub square : (j : ℕ) → j < i → P.d j ⊛ theta (suc j) ≡ theta j ⊛ twist 1 (P.d j)

  -- lambda_0 .. lambda_i is a lift of the identity from P to Q: lambda_0 = (1), and d_j of Q times lambda_j is lambda_(j-1)
  -- times d_j of P, for j from 1 to i.
  pub record IsLiftOfIdentity (i : ℕ) (P Q : Complex M) (lambda : (j : ℕ) → Mat (rank_of Q.cols j) (rank_of P.cols j)) : Type 0 where
    pub first : lambda zero ≡ unit 1
    pub square : (j : ℕ) → j < i → Q.d j ⊛ lambda (suc j) ≡ lambda j ⊛ P.d j
