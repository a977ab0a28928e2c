-- The graph of a matrix: a Gröbner basis of it, position over term, gives the kernel and decides the image
-- (Adams and Loustaunau, An Introduction to Gröbner Bases, 1994, sections 3.6 and 3.7).
use Rattle.std.specs.Prelude.{ℕ, ◌+◌, ◌↔◌, List, ◌++◌, map, length, replicate, cond, eqb, Contains}
use Rattle.fm_gfp.specs.declared.prime.Prime.{Prime}
use Rattle.fm_mono.specs.declared.order.Order.{Order}
use Rattle.fm_algebra.specs.Matrix.{listed}
use Rattle.fm_algebra.specs.Polynomials.{Polynomial, polynomial_zero, polynomial_one, polynomial_negative}
use Rattle.fm_algebra.specs.PolynomialMatrices.{PolynomialMatrix, matrix_above, matrix_unit}
use Rattle.fm_groebner.specs.Bases.{IsGroebnerBasis}

module _ (p : Prime) (n : ℕ) where
  -- the matrix A above the unit matrix: its image is the graph of A, the vectors (A * w; w)
  abbrev pub graph : PolynomialMatrix p n → PolynomialMatrix p n
  graph A = matrix_above p n A (matrix_unit p n (length A.columns))

  -- how long the vectors (A * w; w) are
  abbrev pub graph_rows : PolynomialMatrix p n → ℕ
  graph_rows A = A.rows + length A.columns

  -- the members are a Gröbner basis of the graph of A
  abbrev pub IsGraphBasis : Order → PolynomialMatrix p n → List (List (Polynomial p n)) → Type 0
  IsGraphBasis o A members = IsGroebnerBasis p n (graph_rows A) o members (graph A).columns

  abbrev pub zero_vector : ℕ → List (Polynomial p n)
  zero_vector m = replicate m (polynomial_zero p n)

  -- unit vector j of length m, counted from 0
  abbrev pub unit_vector : ℕ → ℕ → List (Polynomial p n)
  unit_vector m j = listed m (λ i. cond (eqb i j) (polynomial_one p n) (polynomial_zero p n))

  -- - v
  abbrev pub vector_negative : List (Polynomial p n) → List (Polynomial p n)
  vector_negative v = map (polynomial_negative p n) v

  -- the columns are the lower blocks of the members whose upper block, of m components, is zero
  abbrev pub AreLowerBlocks : ℕ → List (List (Polynomial p n)) → List (List (Polynomial p n)) → Type 0
  AreLowerBlocks m members columns = (w : List (Polynomial p n)) → Contains columns w ↔ Contains members (zero_vector m ++ w)
