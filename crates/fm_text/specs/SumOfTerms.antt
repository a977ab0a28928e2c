-- The sum of written terms, as the polynomial that the program keeps.
use Rattle.std.specs.Prelude.{◌≡◌, ◌==◌, ◌++◌, if◌then◌else◌, List, [], ◌∷◌}
use Rattle.std.specs.declared.cmp.Ordering.{Ordering}
use Rattle.std.specs.declared.cmp.Ordering.TheVariants.{Less, Equal, Greater}
use Rattle.fm_mono.specs.Orders.{monomial_cmp}
use Rattle.fm_poly.specs.Polys.{PolyValue, IsCanonical}
use Rattle.fm_poly.specs.Steps.{like_sum}
use Rattle.fm_poly.specs.declared.ring.Ring.{Ring}
use Rattle.fm_poly.specs.declared.term.Term.{Term}

-- t, with its place in the order told by how it compares with u, among the falling terms u and us; `later` is t among us
abbrev pub placed : Ring → Ordering → Term → Term → List Term → List Term → List Term
placed r Greater t u us later = t ∷ u ∷ us
placed r Equal t u us later = like_sum r t u ++ us
placed r Less t u us later = u ∷ later

-- t among falling terms: it is added to the like term, or stands at its place
abbrev pub inserted : Ring → Term → List Term → List Term
inserted r t [] = t ∷ []
inserted r t (u ∷ us) = placed r (monomial_cmp r.order t.mono u.mono) t u us (inserted r t us)

-- the sum of terms in any order, as falling terms with nonzero coefficients
unfoldable pub sum_of_terms : Ring → List Term → List Term
sum_of_terms r [] = []
sum_of_terms r (t ∷ ts) = if t.coeff == 0 then sum_of_terms r ts else inserted r t (sum_of_terms r ts)

-- the polynomial that is the sum of these terms
abbrev pub polynomial_of_terms : Ring → List Term → PolyValue
polynomial_of_terms r ts = record { ring = r; terms = sum_of_terms r ts }

-- a polynomial of the ring, with falling nonzero terms
pub record IsPolynomialOf (r : Ring) (f : PolyValue) : Type 0 where
  pub of_ring : f.ring ≡ r
  pub canonical : IsCanonical r f.terms
