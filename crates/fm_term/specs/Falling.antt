-- Falling lists of terms, the normal form of a vector of polynomials (Adams and Loustaunau, An Introduction to Gröbner Bases, 1994,
-- section 3.5).
use Rattle.std.specs.Prelude.{ℕ, ◌<◌, ◌≤◌, ◌≡◌, List, [], ◌∷◌, Option, Some, None, length, Contains}
use Rattle.fm_gfp.specs.Primes.{prime_value}
use Rattle.fm_gfp.specs.declared.prime.Prime.{Prime}
use Rattle.fm_mono.specs.declared.order.Order.{Order}
use Rattle.fm_term.specs.declared.vterm.VTerm.{VTerm}
use Rattle.fm_term.specs.Places.{Falls}

-- the term has one exponent for each of n variables and a coefficient from 1 to p - 1
pub record IsTerm (p : Prime) (n : ℕ) (t : VTerm) : Type 0 where
  pub fits : length t.mono ≡ n
  pub positive : 0 < t.coeff
  pub below : t.coeff < prime_value p

abbrev pub AreTerms : Prime → ℕ → List VTerm → Type 0
AreTerms p n [] = Unit {0}
AreTerms p n (t ∷ ts) = IsTerm p n t × AreTerms p n ts

-- each component is from 1 to m
abbrev pub AreWithin : ℕ → List VTerm → Type 0
AreWithin m [] = Unit {0}
AreWithin m (t ∷ ts) = (1 ≤ t.component) × (t.component ≤ m) × AreWithin m ts

-- the normal form of a vector of m polynomials in n variables: its nonzero terms, which fall strictly
pub record IsFalling (p : Prime) (n m : ℕ) (o : Order) (ts : List VTerm) : Type 0 where
  pub falls : Falls o ts
  pub proper : AreTerms p n ts
  pub within : AreWithin m ts

-- each of the members is in normal form
abbrev pub AreFalling : Prime → ℕ → ℕ → Order → List (List VTerm) → Type 0
AreFalling p n m o members = (ts : List VTerm) → Contains members ts → IsFalling p n m o ts

-- the normal form of a vector whose leading coefficient is 1
abbrev pub IsMonic : List VTerm → Type 0
IsMonic [] = ⊥
IsMonic (t ∷ ts) = t.coeff ≡ 1

-- each of the members is in normal form, with leading coefficient 1
abbrev pub AreMonic : Prime → ℕ → ℕ → Order → List (List VTerm) → Type 0
AreMonic p n m o members = (ts : List VTerm) → Contains members ts → IsFalling p n m o ts × IsMonic ts

-- the head, the greatest term
abbrev pub head_of : List VTerm → Option VTerm
head_of [] = None
head_of (t ∷ ts) = Some t

-- the head of a list of terms, if it has one, stands below the first m components
abbrev pub IsBelowBlock : ℕ → List VTerm → Type 0
IsBelowBlock m [] = Unit {0}
IsBelowBlock m (t ∷ ts) = m < t.component
