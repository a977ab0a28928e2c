-- The ring GF(p)[x1 .. xn], in the words that contracts cite: a coefficient is a number below p, and a monomial the tuple of its n exponents.
use Rattle.std.specs.Prelude.{◌+◌, if◌then◌else◌, ◌≡◌, ℕ, ◌^◌, ◌<◌, List, [], ◌∷◌, length}
use Rattle.std.specs.declared.cmp.Ordering.{Ordering}
use Rattle.fm_gfp.specs.Primes.{prime_value}
use Rattle.fm_gfp.specs.declared.prime.Prime.{Prime}
use Rattle.fm_algebra.specs.Ring.{Ring}
use Rattle.fm_algebra.specs.Gf.{gf, gf_is_zero, residue, prime_positive}
use Rattle.fm_algebra.specs.Poly.{Poly, coeff, tuple_eq}
use Rattle.fm_algebra.specs.PolyRing.{poly, multiple}
use Rattle.fm_algebra.specs.Power.{power}
use Rattle.fm_algebra.specs.Monomial.{monomial}
use Rattle.fm_algebra.specs.Twist.{twist, slice}
use Rattle.fm_algebra.specs.Heads.{IsHead}

-- a polynomial over GF(p) in n variables
abbrev pub Polynomial : Prime → ℕ → Type 0
Polynomial p n = Poly (gf p) n

-- the ring of these polynomials
abbrev pub polynomials : Prime → ℕ → Ring
polynomials p n = poly (gf p) (gf_is_zero p) n

module _ (p : Prime) (n : ℕ) where
  -- the coefficient of f at the exponents a
  unfoldable pub coefficient : Polynomial p n → List ℕ → ℕ
  coefficient f a = (coeff f a).number

  unfoldable pub polynomial_zero : Polynomial p n
  polynomial_zero = (polynomials p n).zero

  unfoldable pub polynomial_one : Polynomial p n
  polynomial_one = (polynomials p n).one

  -- f + g
  unfoldable pub polynomial_sum : Polynomial p n → Polynomial p n → Polynomial p n
  polynomial_sum f g = (polynomials p n).add f g

  -- f * g
  unfoldable pub polynomial_product : Polynomial p n → Polynomial p n → Polynomial p n
  polynomial_product f g = (polynomials p n).mul f g

  -- - f
  unfoldable pub polynomial_negative : Polynomial p n → Polynomial p n
  polynomial_negative f = (polynomials p n).neg f

  -- f - g
  unfoldable pub polynomial_difference : Polynomial p n → Polynomial p n → Polynomial p n
  polynomial_difference f g = polynomial_sum f (polynomial_negative g)

  -- c * f, for a number c modulo p
  unfoldable pub polynomial_multiple : ℕ → Polynomial p n → Polynomial p n
  polynomial_multiple c f = multiple (gf p) (gf_is_zero p) n (residue (prime_value p) (prime_positive p) c) f

  -- f ^ k
  unfoldable pub polynomial_power : ℕ → Polynomial p n → Polynomial p n
  polynomial_power k f = power (polynomials p n) k f

  -- c * x ^ a, for a number c modulo p and n exponents a; for any other number of exponents it is 0
  unfoldable pub polynomial_term : ℕ → List ℕ → Polynomial p n
  polynomial_term c a = monomial (gf p) (gf_is_zero p) n (residue (prime_value p) (prime_positive p) c) a

  -- the meaning of a list of terms, exponents and a number modulo p each: the sum of c * x ^ a over all (a, c) of the list
  unfoldable pub polynomial_of : List (List ℕ × ℕ) → Polynomial p n
  polynomial_of [] = polynomial_zero
  polynomial_of (t ∷ ts) = polynomial_sum (polynomial_term t.1 t.0) (polynomial_of ts)

  -- the sum of a list of polynomials
  unfoldable pub polynomial_total : List (Polynomial p n) → Polynomial p n
  polynomial_total [] = polynomial_zero
  polynomial_total (f ∷ fs) = polynomial_sum f (polynomial_total fs)

  -- the Frobenius twist f^[q], for q = p ^ e: f with every exponent multiplied by q
  unfoldable pub frobenius_twist : ℕ → Polynomial p n → Polynomial p n
  frobenius_twist e f = twist (gf p) (gf_is_zero p) n (prime_value p ^ e) f

  -- the slice of f at a tuple a of n numbers below q = p ^ e: its coefficient at b is that of f at q * b + a
  unfoldable pub frobenius_slice : ℕ → List ℕ → Polynomial p n → Polynomial p n
  frobenius_slice e a f = slice (gf p) (gf_is_zero p) n (prime_value p ^ e) a f

  -- a is the exponent tuple of the leading monomial of f in the order R
  unfoldable pub HasHead : (List ℕ → List ℕ → Ordering) → Polynomial p n → List ℕ → Type 0
  HasHead R f a = IsHead R f a

  -- every pair is n exponents and a coefficient from 1 to p - 1
  abbrev pub AreListedTerms : List (List ℕ × ℕ) → Type 0
  AreListedTerms [] = Unit {0}
  AreListedTerms (t ∷ ts) = (length t.0 ≡ n) × (0 < t.1) × (t.1 < prime_value p) × AreListedTerms ts

-- every tuple of a list of terms has n exponents
abbrev pub AllFit : ℕ → List (List ℕ × ℕ) → Type 0
AllFit n [] = Unit {0}
AllFit n (t ∷ ts) = (length t.0 ≡ n) × AllFit n ts

-- the sum of the coefficients that stand at the exponents a in a list of terms
abbrev pub listed_coefficient : List (List ℕ × ℕ) → List ℕ → ℕ
listed_coefficient [] a = 0
listed_coefficient (t ∷ ts) a = (if tuple_eq a t.0 then t.1 else 0) + listed_coefficient ts a
