-- Resolved ideals that are done by hand: any ideal in degree 0, and a principal ideal in degree 1.
use Rattle.std.specs.Prelude.{ℕ, ◌-◌, List, [], ◌∷◌}
use Rattle.fm_gfp.specs.Primes.{prime_value}
use Rattle.fm_gfp.specs.declared.prime.Prime.{Prime}
use Rattle.fm_algebra.specs.Polynomials.{Polynomial, polynomial_power}
use Rattle.fm_algebra.specs.PolynomialMatrices.{PolynomialMatrix, matrix_unit}
use Rattle.fm_limit.specs.ResolvedIdeal.{ResolvedIdeal, row}

module _ (p : Prime) (n : ℕ) where
  -- in degree 0 the row of the generators is d_1, and theta_0 = (1)
  unfoldable pub in_degree_zero : List (Polynomial p n) → ResolvedIdeal p n
  in_degree_zero fs = record { generators = fs; differentials = row p n fs ∷ []; lift = matrix_unit p n 1 ∷ [] }

  -- the matrix with one row and one column
  abbrev pub one_entry : Polynomial p n → PolynomialMatrix p n
  one_entry f = record { rows = 1; columns = (f ∷ []) ∷ [] }

  -- the matrix with one row and no columns
  abbrev pub no_columns : PolynomialMatrix p n
  no_columns = record { rows = 1; columns = [] }

  -- the ideal of f in degree 1: d_1 = (f), d_2 has no columns, theta_0 = (1) and theta_1 = (f^(p-1))
  unfoldable pub principal : Polynomial p n → ResolvedIdeal p n
  principal f = record {
    generators = f ∷ [];
    differentials = one_entry f ∷ no_columns ∷ [];
    lift = matrix_unit p n 1 ∷ one_entry (polynomial_power p n (prime_value p - 1) f) ∷ [];
  }
