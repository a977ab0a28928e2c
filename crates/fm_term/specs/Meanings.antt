-- The vector of polynomials that a list of terms means.
use Rattle.std.specs.Prelude.{ℕ, suc, ◌≡◌, List, [], ◌∷◌, map, cond, eqb, length}
use Rattle.fm_gfp.specs.declared.prime.Prime.{Prime}
use Rattle.fm_algebra.specs.Matrix.{listed}
use Rattle.fm_algebra.specs.Polynomials.{Polynomial, polynomial_of}
use Rattle.fm_term.specs.declared.vterm.VTerm.{VTerm}

-- each term has n exponents
abbrev pub HaveExponents : ℕ → List VTerm → Type 0
HaveExponents n [] = Unit {0}
HaveExponents n (t ∷ ts) = (length t.mono ≡ n) × HaveExponents n ts

-- the terms in component i, as exponents and coefficients
unfoldable pub terms_in : ℕ → List VTerm → List (List ℕ × ℕ)
terms_in i [] = []
terms_in i (t ∷ ts) = cond (eqb t.component i) ((t.mono, t.coeff) ∷ terms_in i ts) (terms_in i ts)

-- the vector of m polynomials that a list of terms is the sum of
unfoldable pub vector_of : (p : Prime) (n m : ℕ) → List VTerm → List (Polynomial p n)
vector_of p n m ts = listed m (λ i. polynomial_of p n (terms_in (suc i) ts))

-- the vectors of a list of such lists
abbrev pub vectors_of : (p : Prime) (n m : ℕ) → List (List VTerm) → List (List (Polynomial p n))
vectors_of p n m tss = map (vector_of p n m) tss
