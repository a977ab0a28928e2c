-- The program's polynomials: lists of terms, what they mean, and which of them are kept.
use Rattle.std.specs.Prelude.{ℕ, ◌<◌, ◌≡◌, List, length, map}
use Rattle.fm_gfp.specs.Primes.{prime_value}
use Rattle.fm_mono.specs.Orders.{monomial_cmp}
use Rattle.fm_algebra.specs.Polynomials.{Polynomial, polynomial_of, AreListedTerms}
use Rattle.fm_algebra.specs.Heads.{IsFalling}
use Rattle.fm_poly.specs.declared.ring.Ring.{Ring}
use Rattle.fm_poly.specs.declared.term.Term.{Term}

-- what contracts see of a polynomial
pub record PolyValue : Type 0 where
  pub ring : Ring
  pub terms : List Term

-- the exponents and the coefficient of each term
abbrev pub pairs : List Term → List (List ℕ × ℕ)
pairs ts = map (λ t. (t.mono, t.coeff)) ts

-- the polynomial that a list of terms means: their sum
unfoldable pub meaning : (r : Ring) → List Term → Polynomial r.prime r.vars
meaning r ts = polynomial_of r.prime r.vars (pairs ts)

-- the term has one exponent for each variable and a coefficient below p
pub record IsTermOf (r : Ring) (t : Term) : Type 0 where
  pub fits : length t.mono ≡ r.vars
  pub below : t.coeff < prime_value r.prime

-- the terms have one exponent for each variable and coefficients from 1 to p - 1, and fall strictly
pub record IsCanonical (r : Ring) (ts : List Term) : Type 0 where
  pub listed : AreListedTerms r.prime r.vars (pairs ts)
  pub falls : IsFalling (monomial_cmp r.order) (pairs ts)
