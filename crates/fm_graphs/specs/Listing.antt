-- Vectors of polynomials as falling lists of terms.
use Rattle.std.specs.Prelude.{ℕ, suc, List, [], ◌∷◌}
use Rattle.fm_algebra.specs.Polynomials.{Polynomial, coefficient}
use Rattle.fm_algebra.specs.PolyRing.{support}
use Rattle.fm_poly.specs.declared.ring.Ring.{Ring}
use Rattle.fm_term.specs.declared.vterm.VTerm.{VTerm}
use Rattle.fm_vec.specs.Multiples.{put}

module _ (r : Ring) where
  abbrev pub VectorOf : Type 0
  VectorOf = List (Polynomial r.prime r.vars)

  -- the terms of f at the listed exponents, in component k, put into their places among ts
  abbrev pub with_terms : ℕ → Polynomial r.prime r.vars → List (List ℕ) → List VTerm → List VTerm
  with_terms k f [] ts = ts
  with_terms k f (a ∷ rest) ts = put r (record { component = k; mono = a; coeff = coefficient r.prime r.vars f a }) (with_terms k f rest ts)

  -- the terms of a vector whose first component is number k
  abbrev pub terms_from : ℕ → VectorOf → List VTerm
  terms_from k [] = []
  terms_from k (f ∷ fs) = with_terms k f (support f) (terms_from (suc k) fs)

  -- the falling list of the terms of a vector
  unfoldable pub terms_of : VectorOf → List VTerm
  terms_of v = terms_from 1 v
