-- Direct systems over GF(p)[x1 .. xn] that are given by four matrices, in words of lists.
use Rattle.std.specs.Prelude.{ℕ, suc, ◌≡◌, List, length}
use Rattle.fm_gfp.specs.declared.prime.Prime.{Prime}
use Rattle.fm_algebra.specs.Families.{read}
use Rattle.fm_algebra.specs.Polynomials.{polynomials}
use Rattle.fm_algebra.specs.PolynomialMatrices.{PolynomialMatrix, HasShape, matrix_product, matrix_twist, GeneratesKernel, GeneratesPreimage}
use Rattle.fm_limit.specs.System.{System}
use Rattle.fm_limit.specs.SystemInstances.{of_complex, of_complex_modulo}
use Rattle.fm_limit.specs.ResolvedIdeal.{matrix_at}
use Rattle.fm_limit.specs.Classes.{matrices, width, with_rows, as_square}
use Rattle.fm_limit.specs.Facts.{ColumnsInImage, IsChain}

-- `test` is A, `modulo` is B, `bounds` is C and `step` is T: w is a cocycle of stage e if A^[q] * w lies in im B^[q], and a coboundary
-- if it lies in im C^[q]; a move multiplies by T^[q].
pub record GivenSystem (p : Prime) (n : ℕ) : Type 0 where
  pub size : ℕ
  pub test : PolynomialMatrix p n
  pub modulo : PolynomialMatrix p n
  pub bounds : PolynomialMatrix p n
  pub step : PolynomialMatrix p n

module _ (p : Prime) (n : ℕ) where
  abbrev pub system_of : GivenSystem p n → System (matrices p n)
  system_of G =
      let h = (G.test).rows in
      let A = read (polynomials p n) h G.size G.test in
      of_complex_modulo (matrices p n) h (width p n G.modulo) G.size (width p n G.bounds) A (with_rows p n h G.modulo)
      (with_rows p n G.size G.bounds) (as_square p n G.size G.step)

  -- the same where cocycles are a kernel: `modulo` does not count
  abbrev pub kernel_system_of : GivenSystem p n → System (matrices p n)
  kernel_system_of G =
      let h = (G.test).rows in
      let A = read (polynomials p n) h G.size G.test in
      of_complex (matrices p n) h G.size (width p n G.bounds) A (with_rows p n G.size G.bounds) (as_square p n G.size G.step)

  -- shapes fit, and the columns of T * C lie in im C^[p]
  pub record IsGivenSystem (G : GivenSystem p n) : Type 0 where
    pub test_fits : HasShape p n (G.test).rows G.size G.test
    pub modulo_fits : HasShape p n (G.test).rows (length (G.modulo).columns) G.modulo
    pub bounds_fit : HasShape p n G.size (length (G.bounds).columns) G.bounds
    pub step_fits : HasShape p n G.size G.size G.step
    pub moves : ColumnsInImage p n (matrix_twist p n 1 G.bounds) (matrix_product p n G.step G.bounds)

  -- N generates all w with Z * w in im C, and U is the move in these coordinates
  pub record HasMorphism (G : GivenSystem p n) (Z N U : PolynomialMatrix p n) : Type 0 where
    pub cocycles_fit : HasShape p n G.size (length Z.columns) Z
    pub relations_fit : HasShape p n (length Z.columns) (length N.columns) N
    pub morphism_fits : HasShape p n (length Z.columns) (length Z.columns) U
    pub relations : GeneratesPreimage p n N Z G.bounds
    pub morphism : matrix_product p n G.step Z ≡ matrix_product p n (matrix_twist p n 1 Z) U

  -- the facts at stage 0, with the chain through its repeat: Z generates the cocycles
  pub record GivenFacts (G : GivenSystem p n) (Z U : PolynomialMatrix p n) (Ks : List (PolynomialMatrix p n)) (t : ℕ) : Type 0 where
    pub given : IsGivenSystem G
    pub cocycles : GeneratesPreimage p n Z G.test G.modulo
    pub morphism : HasMorphism G Z (matrix_at p n Ks 0) U
    pub chain : IsChain p n U Ks (suc t)
    pub repeats : ColumnsInImage p n (matrix_at p n Ks t) (matrix_at p n Ks (suc t))

  -- the same where Z generates a kernel
  pub record KernelFacts (G : GivenSystem p n) (Z U : PolynomialMatrix p n) (Ks : List (PolynomialMatrix p n)) (t : ℕ) : Type 0 where
    pub given : IsGivenSystem G
    pub cocycles : GeneratesKernel p n Z G.test
    pub morphism : HasMorphism G Z (matrix_at p n Ks 0) U
    pub chain : IsChain p n U Ks (suc t)
    pub repeats : ColumnsInImage p n (matrix_at p n Ks t) (matrix_at p n Ks (suc t))
