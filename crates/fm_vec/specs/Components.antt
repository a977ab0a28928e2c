-- The components of a vector, and the polynomials that they mean.
use Rattle.std.specs.Prelude.{ℕ, zero, suc, ◌==◌, ◌≡◌, if◌then◌else◌, List, [], ◌∷◌, ◌++◌}
use Rattle.fm_algebra.specs.Polynomials.{Polynomial}
use Rattle.fm_poly.specs.declared.ring.Ring.{Ring}
use Rattle.fm_poly.specs.declared.term.Term.{Term}
use Rattle.fm_poly.specs.Polys.{PolyValue, meaning}
use Rattle.fm_term.specs.declared.vterm.VTerm.{VTerm}

-- the terms in component k
abbrev pub component_terms : ℕ → List VTerm → List Term
component_terms k [] = []
component_terms k (t ∷ ts) = if t.component == k then record { mono = t.mono; coeff = t.coeff } ∷ component_terms k ts else component_terms k ts

-- component k of a vector: the sum of its terms there
unfoldable pub component_meaning : (r : Ring) → ℕ → List VTerm → Polynomial r.prime r.vars
component_meaning r k ts = meaning r (component_terms k ts)

-- the components k, .., k + n - 1, as polynomials
unfoldable pub components_meaning : (r : Ring) → ℕ → ℕ → List VTerm → List (Polynomial r.prime r.vars)
components_meaning r zero k ts = []
components_meaning r (suc n) k ts = component_meaning r k ts ∷ components_meaning r n (suc k) ts

-- a vector with n components as the list of n polynomials
unfoldable pub vector_meaning : (r : Ring) → ℕ → List VTerm → List (Polynomial r.prime r.vars)
vector_meaning r n ts = components_meaning r n 1 ts

-- the components k, .., k + n - 1, as the program's polynomials
abbrev pub column_from : Ring → ℕ → ℕ → List VTerm → List PolyValue
column_from r zero k ts = []
column_from r (suc n) k ts = record { ring = r; terms = component_terms k ts } ∷ column_from r n (suc k) ts

-- the terms of a polynomial, placed in component k
abbrev pub placed : ℕ → List Term → List VTerm
placed k [] = []
placed k (t ∷ ts) = record { component = k; mono = t.mono; coeff = t.coeff } ∷ placed k ts

-- the terms of a column of polynomials, the first of which is in component k
abbrev pub column_terms : ℕ → List PolyValue → List VTerm
column_terms k [] = []
column_terms k (f ∷ fs) = placed k f.terms ++ column_terms (suc k) fs

-- each polynomial is of the ring r
abbrev pub AreOver : Ring → List PolyValue → Type 0
AreOver r [] = Unit {0}
AreOver r (f ∷ fs) = (f.ring ≡ r) × AreOver r fs
