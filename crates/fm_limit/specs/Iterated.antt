-- Iterated local cohomology of GF(p)[x1 .. xn], in words of lists.
use Rattle.std.specs.Prelude.{ℕ, ◌*◌, ◌/◌, ◌%◌, length}
use Rattle.fm_gfp.specs.declared.prime.Prime.{Prime}
use Rattle.fm_algebra.specs.Matrix.{entry, table}
use Rattle.fm_algebra.specs.Polynomials.{polynomials}
use Rattle.fm_algebra.specs.PolynomialMatrices.{PolynomialMatrix, matrix_unit, matrix_transpose, matrix_beside}
use Rattle.fm_limit.specs.ResolvedIdeal.{ResolvedIdeal, matrix_at, columns_of, rank, differential}
use Rattle.fm_limit.specs.GivenModules.{GivenModule}
use Rattle.fm_limit.specs.GivenSystems.{GivenSystem}

module _ (p : Prime) (n : ℕ) where
  -- A (x) B has the entry A_(a,c) * B_(b,d) in row a * rows(B) + b and column c * cols(B) + d, counted from 0
  unfoldable pub matrix_kron : (A B : PolynomialMatrix p n) → PolynomialMatrix p n
  matrix_kron A B =
      table (polynomials p n) (A.rows * B.rows) (length A.columns * length B.columns)
      (λ i j. (polynomials p n).mul (entry (polynomials p n) A (i / B.rows) (j / length B.columns))
      (entry (polynomials p n) B (i % B.rows) (j % length B.columns)))

  -- Degree j of the ideal J, of the module G in place of the ring (Lyubeznik 1997): with d and theta of J and N and U of G, cocycles
  -- are the w with (flip(d_(j+1)) (x) 1)^[q] * w in im (1 (x) N)^[q], coboundaries are im [flip(d_j) (x) 1 | 1 (x) N]^[q], and a move
  -- multiplies by (flip(theta_j) (x) U)^[q].
  abbrev pub iterated_given : (j : ℕ) (J : ResolvedIdeal p n) → GivenModule p n → GivenSystem p n
  iterated_given j J G = record {
    size = rank p n J.differentials j * G.rank;
    test = matrix_kron (matrix_transpose p n (matrix_at p n J.differentials j)) (matrix_unit p n G.rank);
    modulo = matrix_kron (matrix_unit p n (columns_of p n J.differentials j)) G.relations;
    bounds = matrix_beside p n (matrix_kron (matrix_transpose p n (differential p n J.differentials j)) (matrix_unit p n G.rank))
        (matrix_kron (matrix_unit p n (rank p n J.differentials j)) G.relations);
    step = matrix_kron (matrix_transpose p n (matrix_at p n J.lift j)) G.morphism;
  }
