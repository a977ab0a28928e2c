-- What a division means: the dividend is the sum of the quotients times the members plus the rest.
use Rattle.std.specs.Prelude.{ℕ, suc, ◌≡◌, List, [], ◌∷◌}
use Rattle.fm_tuple.specs.Tuple.{TupleDivides}
use Rattle.fm_algebra.specs.Polynomials.{Polynomial, polynomial_zero, polynomial_sum, polynomial_product}
use Rattle.fm_poly.specs.declared.ring.Ring.{Ring}
use Rattle.fm_poly.specs.Polys.{meaning}
use Rattle.fm_term.specs.declared.vterm.VTerm.{VTerm}
use Rattle.fm_vec.specs.Vectors.{IsVector}
use Rattle.fm_vec.specs.Components.{component_meaning}
use Rattle.fm_complete.specs.declared.step.Step.{Step}
use Rattle.fm_complete.specs.Divisions.{quotient_terms}

-- the members are vectors with n components
abbrev pub AreVectors : Ring → ℕ → List (List VTerm) → Type 0
AreVectors r n [] = Unit {0}
AreVectors r n (g ∷ gs) = IsVector r n g × AreVectors r n gs

-- component k of the sum of the quotients times the members, which are numbered from the given number
unfoldable pub combination : (r : Ring) → ℕ → ℕ → List (List VTerm) → List Step → Polynomial r.prime r.vars
combination r k number [] steps = polynomial_zero r.prime r.vars
combination r k number (g ∷ gs) steps =
    polynomial_sum r.prime r.vars (polynomial_product r.prime r.vars (meaning r (quotient_terms number steps)) (component_meaning r k g)) (combination r k (suc number) gs steps)

-- the head of no member divides t
abbrev pub NoneDivides : List (List VTerm) → VTerm → Type 0
NoneDivides [] t = Unit {0}
NoneDivides ([] ∷ gs) t = NoneDivides gs t
NoneDivides ((b ∷ bs) ∷ gs) t = (b.component ≡ t.component → TupleDivides b.mono t.mono → ⊥) × NoneDivides gs t

-- v is zero, or the head of no member divides its head
abbrev pub IsReduced : List (List VTerm) → List VTerm → Type 0
IsReduced members [] = Unit {0}
IsReduced members (t ∷ ts) = NoneDivides members t
