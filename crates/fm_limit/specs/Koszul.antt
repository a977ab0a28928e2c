-- Koszul cohomology of a list of elements of GF(p)[x1 .. xn] (any textbook of homological algebra), with the powers of the elements as
-- morphism.
use Rattle.std.specs.Prelude.{ℕ, zero, suc, ◌+◌, ◌-◌, List, [], ◌∷◌, length}
use Rattle.fm_gfp.specs.Primes.{prime_value}
use Rattle.fm_gfp.specs.declared.prime.Prime.{Prime}
use Rattle.fm_algebra.specs.Polynomials.{Polynomial, polynomial_power}
use Rattle.fm_algebra.specs.PolynomialMatrices.{PolynomialMatrix, matrix_product, matrix_negative, matrix_zero, matrix_unit, matrix_scalar, matrix_beside, matrix_above}
use Rattle.fm_limit.specs.GivenSystems.{GivenSystem}

-- how many subsets with j members a set of c elements has
abbrev pub subsets : (c j : ℕ) → ℕ
subsets c zero = 1
subsets zero (suc j) = 0
subsets (suc c) (suc j) = subsets c j + subsets c (suc j)

-- the number of those with one member fewer
abbrev pub subsets_before : (c j : ℕ) → ℕ
subsets_before c zero = 0
subsets_before c (suc j) = subsets c j

module _ (p : Prime) (n : ℕ) where
  -- delta_(j-1), from degree j - 1 to degree j, in the bases of the e_S for the subsets S of that size, in the order of their rising
  -- lists. Those with the first element come first: with delta of the other elements, e_(1, S) goes to - e_1 delta(e_S), and an e_S
  -- without it to f * e_(1, S) + delta(e_S).
  unfoldable pub koszul_matrix : List (Polynomial p n) → ℕ → PolynomialMatrix p n
  koszul_matrix fs zero = matrix_zero p n 1 0
  koszul_matrix [] (suc j) = matrix_zero p n 0 (subsets 0 j)
  koszul_matrix (f ∷ fs) (suc j) =
      let c = length fs in
      matrix_above p n
      (matrix_beside p n (matrix_negative p n (koszul_matrix fs j)) (matrix_scalar p n f (subsets c j)))
      (matrix_beside p n (matrix_zero p n (subsets c (suc j)) (subsets_before c j)) (koszul_matrix fs (suc j)))

  -- D_j: the diagonal matrix of the (product of the elements of S)^(p-1)
  unfoldable pub koszul_step : List (Polynomial p n) → ℕ → PolynomialMatrix p n
  koszul_step fs zero = matrix_unit p n 1
  koszul_step [] (suc j) = matrix_zero p n 0 0
  koszul_step (f ∷ fs) (suc j) =
      let c = length fs in
      let a = subsets c j in
      let b = subsets c (suc j) in
      matrix_above p n
      (matrix_beside p n (matrix_product p n (matrix_scalar p n (polynomial_power p n (prime_value p - 1) f) a) (koszul_step fs j))
      (matrix_zero p n a b))
      (matrix_beside p n (matrix_zero p n b a) (koszul_step fs (suc j)))

  -- Koszul cohomology in degree i, as a system whose cocycles are a kernel: z with delta_i^[q] * z = 0, modulo im delta_(i-1)^[q], with the
  -- move D_i^[q].
  abbrev pub koszul_given : List (Polynomial p n) → ℕ → GivenSystem p n
  koszul_given fs i = record {
    size = subsets (length fs) i;
    test = koszul_matrix fs (suc i);
    modulo = matrix_zero p n (subsets (length fs) (suc i)) 0;
    bounds = koszul_matrix fs i;
    step = koszul_step fs i;
  }
