-- Heads and Gröbner bases of submodules of free modules
-- (Adams and Loustaunau, An Introduction to Gröbner Bases, 1994, sections 3.5 and 3.6).
use Rattle.std.specs.Prelude.{◌≡◌, ℕ, zero, suc, List, Contains}
use Rattle.std.specs.declared.cmp.Ordering.TheVariants.{Greater}
use Rattle.fm_gfp.specs.declared.prime.Prime.{Prime}
use Rattle.fm_tuple.specs.Tuple.{TupleDivides}
use Rattle.fm_mono.specs.declared.order.Order.{Order}
use Rattle.fm_algebra.specs.Matrix.{component}
use Rattle.fm_algebra.specs.Polynomials.{Polynomial, polynomials, coefficient, polynomial_zero}
use Rattle.fm_algebra.specs.PolynomialMatrices.{PolynomialMatrix, InImage}
use Rattle.fm_term.specs.Places.{place_cmp}

module _ (p : Prime) (n : ℕ) where
  -- the component i of a vector, counted from 1; zero where there is none
  abbrev pub vector_component : List (Polynomial p n) → ℕ → Polynomial p n
  vector_component v zero = polynomial_zero p n
  vector_component v (suc i) = component (polynomials p n) v i

  -- x^a * e_i is the head of v: its coefficient is not 0, and no greater one's is
  pub record IsHead (o : Order) (v : List (Polynomial p n)) (i : ℕ) (a : List ℕ) : Type 0 where
    pub nonzero : ¬ (coefficient p n (vector_component v i) a ≡ 0)
    pub greatest : (j : ℕ) (b : List ℕ) → ¬ (coefficient p n (vector_component v j) b ≡ 0) → ¬ (place_cmp o j b i a ≡ Greater)

  -- the matrix of m rows whose columns generate a submodule of the free module of rank m
  abbrev pub generators : ℕ → List (List (Polynomial p n)) → PolynomialMatrix p n
  generators m gens = record { rows = m; columns = gens }

  -- some member's head divides x^a * e_i
  pub record HeadDivides (o : Order) (members : List (List (Polynomial p n))) (i : ℕ) (a : List ℕ) : Type 0 where
    pub member : List (Polynomial p n)
    pub exponents : List ℕ
    pub is_member : Contains members member
    pub is_head : IsHead o member i exponents
    pub divides : TupleDivides exponents a

  -- the members are a Gröbner basis of the submodule that the generators span: they lie in it,
  -- and the head of each of its nonzero vectors is divisible by the head of a member
  pub record IsGroebnerBasis (m : ℕ) (o : Order) (members gens : List (List (Polynomial p n))) : Type 0 where
    pub inside : (g : List (Polynomial p n)) → Contains members g → InImage p n (generators m gens) g
    pub heads : (v : List (Polynomial p n)) (i : ℕ) (a : List ℕ) → InImage p n (generators m gens) v → IsHead o v i a
        → HeadDivides o members i a
