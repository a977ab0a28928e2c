-- Vectors and matrices over GF(p)[x1 .. xn], their images and kernels, in the words that contracts cite.
use Rattle.std.specs.Prelude.{ℕ, ◌↔◌, List, map}
use Rattle.fm_gfp.specs.declared.prime.Prime.{Prime}
use Rattle.fm_algebra.specs.Matrix.{Matrix, IsShaped, column_matrix, product, apply, sum, negative, zero_matrix, scalar_matrix, unit_matrix, transpose, entrywise, joined, stacked, picked, InListImage, InListKernel, InListPreimage}
use Rattle.fm_algebra.specs.Polynomials.{Polynomial, polynomials, frobenius_twist}

-- a number of rows and a list of columns, each a list of polynomials; either number may be 0
abbrev pub PolynomialMatrix : Prime → ℕ → Type 0
PolynomialMatrix p n = Matrix (polynomials p n)

module _ (p : Prime) (n : ℕ) where
  -- A has r rows and c columns, each of r entries
  unfoldable pub HasShape : ℕ → ℕ → PolynomialMatrix p n → Type 0
  HasShape r c A = IsShaped (polynomials p n) r c A

  -- A * B, row by column
  unfoldable pub matrix_product : PolynomialMatrix p n → PolynomialMatrix p n → PolynomialMatrix p n
  matrix_product A B = product (polynomials p n) A B

  -- A * w
  unfoldable pub vector_product : PolynomialMatrix p n → List (Polynomial p n) → List (Polynomial p n)
  vector_product A w = apply (polynomials p n) A w

  -- A + B
  unfoldable pub matrix_sum : PolynomialMatrix p n → PolynomialMatrix p n → PolynomialMatrix p n
  matrix_sum A B = sum (polynomials p n) A B

  -- - A
  unfoldable pub matrix_negative : PolynomialMatrix p n → PolynomialMatrix p n
  matrix_negative A = negative (polynomials p n) A

  -- the zero matrix with r rows and c columns
  unfoldable pub matrix_zero : ℕ → ℕ → PolynomialMatrix p n
  matrix_zero r c = zero_matrix (polynomials p n) r c

  -- the unit matrix with r rows
  unfoldable pub matrix_unit : ℕ → PolynomialMatrix p n
  matrix_unit r = unit_matrix (polynomials p n) r

  -- f times the unit matrix with r rows
  unfoldable pub matrix_scalar : Polynomial p n → ℕ → PolynomialMatrix p n
  matrix_scalar f r = scalar_matrix (polynomials p n) f r

  -- the matrix with the one column v
  unfoldable pub matrix_column : List (Polynomial p n) → PolynomialMatrix p n
  matrix_column v = column_matrix (polynomials p n) v

  -- the transpose of A
  unfoldable pub matrix_transpose : PolynomialMatrix p n → PolynomialMatrix p n
  matrix_transpose A = transpose (polynomials p n) A

  -- [A | B]
  unfoldable pub matrix_beside : PolynomialMatrix p n → PolynomialMatrix p n → PolynomialMatrix p n
  matrix_beside A B = joined (polynomials p n) A B

  -- A above B
  unfoldable pub matrix_above : PolynomialMatrix p n → PolynomialMatrix p n → PolynomialMatrix p n
  matrix_above A B = stacked (polynomials p n) A B

  -- the columns of A with the given numbers, counted from 0
  unfoldable pub matrix_picked : PolynomialMatrix p n → List ℕ → PolynomialMatrix p n
  matrix_picked A js = picked (polynomials p n) A js

  -- the Frobenius twists A^[q] and v^[q], for q = p ^ e: each entry twisted
  unfoldable pub matrix_twist : ℕ → PolynomialMatrix p n → PolynomialMatrix p n
  matrix_twist e A = entrywise (polynomials p n) (frobenius_twist p n e) A

  unfoldable pub vector_twist : ℕ → List (Polynomial p n) → List (Polynomial p n)
  vector_twist e v = map (frobenius_twist p n e) v

  -- v is in im A: v = A * w for some w
  unfoldable pub InImage : PolynomialMatrix p n → List (Polynomial p n) → Type 0
  InImage A v = InListImage (polynomials p n) A v

  -- w is in ker A: A * w = 0
  unfoldable pub InKernel : PolynomialMatrix p n → List (Polynomial p n) → Type 0
  InKernel A w = InListKernel (polynomials p n) A w

  -- A * w is in im B
  unfoldable pub InPreimage : PolynomialMatrix p n → PolynomialMatrix p n → List (Polynomial p n) → Type 0
  InPreimage A B w = InListPreimage (polynomials p n) A B w

  -- C generates ker A
  abbrev pub GeneratesKernel : PolynomialMatrix p n → PolynomialMatrix p n → Type 0
  GeneratesKernel C A = (w : List (Polynomial p n)) → InKernel A w ↔ InImage C w

  -- C generates all w with A * w in im B
  abbrev pub GeneratesPreimage : PolynomialMatrix p n → PolynomialMatrix p n → PolynomialMatrix p n → Type 0
  GeneratesPreimage C A B = (w : List (Polynomial p n)) → InPreimage A B w ↔ InImage C w
