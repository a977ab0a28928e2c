-- Ideals of two products h * f and h * g over GF(2), in degree 2, done by hand.
use Rattle.std.specs.Prelude.{ℕ, List, [], ◌∷◌}
use Rattle.fm_gfp.specs.declared.prime.Prime.TheVariants.{Two}
use Rattle.fm_algebra.specs.Polynomials.{Polynomial, polynomial_zero, polynomial_one, polynomial_product}
use Rattle.fm_algebra.specs.PolynomialMatrices.{PolynomialMatrix, matrix_unit, matrix_zero}
use Rattle.fm_limit.specs.ResolvedIdeal.{ResolvedIdeal}
use Rattle.fm_limit.specs.SmallIdeals.{one_entry, no_columns}

module _ (n : ℕ) where
  -- the matrix with one row (u, v), the matrix with one column (u, v), and the diagonal matrix
  abbrev pub pair_row : (u v : Polynomial Two n) → PolynomialMatrix Two n
  pair_row u v = record { rows = 1; columns = (u ∷ []) ∷ (v ∷ []) ∷ [] }

  abbrev pub pair_column : (u v : Polynomial Two n) → PolynomialMatrix Two n
  pair_column u v = record { rows = 2; columns = (u ∷ v ∷ []) ∷ [] }

  abbrev pub pair_diagonal : (u v : Polynomial Two n) → PolynomialMatrix Two n
  pair_diagonal u v = record { rows = 2; columns = (u ∷ polynomial_zero Two n ∷ []) ∷ (polynomial_zero Two n ∷ v ∷ []) ∷ [] }

  -- the ideal of h * f and h * g: d_1 = (h f, h g), d_2 = (g, f), d_3 without columns, theta_1 = diag(h f, h g), theta_2 = (h f g)
  unfoldable pub pair_ideal : (h f g : Polynomial Two n) → ResolvedIdeal Two n
  pair_ideal h f g =
      let a = polynomial_product Two n h f in
      let b = polynomial_product Two n h g in
      record {
        generators = a ∷ b ∷ [];
        differentials = pair_row a b ∷ pair_column g f ∷ no_columns Two n ∷ [];
        lift = matrix_unit Two n 1 ∷ pair_diagonal a b ∷ one_entry Two n (polynomial_product Two n a g) ∷ [];
      }

  -- the same through degree 1 alone
  unfoldable pub pair_in_degree_one : (h f g : Polynomial Two n) → ResolvedIdeal Two n
  pair_in_degree_one h f g =
      let a = polynomial_product Two n h f in
      let b = polynomial_product Two n h g in
      record {
        generators = a ∷ b ∷ [];
        differentials = pair_row a b ∷ pair_column g f ∷ [];
        lift = matrix_unit Two n 1
            ∷ pair_diagonal a b ∷ [];
      }

  -- the ideal of f through degree 2: d_1 = (f), d_2 without columns, d_3 without rows and columns
  unfoldable pub principal_in_degree_two : Polynomial Two n → ResolvedIdeal Two n
  principal_in_degree_two f = record {
    generators = f ∷ [];
    differentials = one_entry Two n f ∷ no_columns Two n ∷ matrix_zero Two n 0 0 ∷ [];
    lift = matrix_unit Two n 1 ∷ one_entry Two n f ∷ matrix_zero Two n 0 0 ∷ [];
  }

  -- lifts of the identity: from (f^2, g) to (f, g), from (f) to (f, g) in degree 1 and in degree 2
  abbrev pub square_lift : Polynomial Two n → List (PolynomialMatrix Two n)
  square_lift f = matrix_unit Two n 1 ∷ pair_diagonal f (polynomial_one Two n) ∷ one_entry Two n f ∷ []

  abbrev pub first_lift : List (PolynomialMatrix Two n)
  first_lift = matrix_unit Two n 1 ∷ pair_column (polynomial_one Two n) (polynomial_zero Two n) ∷ []

  abbrev pub second_lift : List (PolynomialMatrix Two n)
  second_lift = matrix_unit Two n 1 ∷ pair_column (polynomial_one Two n) (polynomial_zero Two n) ∷ no_columns Two n ∷ []
