-- The columns of a matrix as vectors.
use Rattle.std.proofs.Common.{ℕ, ◌≡◌, List, [], ◌∷◌, ◌++◌, length, refl, sym, ap, ◌∙◌, subst}
use Rattle.fm_poly.specs.declared.ring.Ring.{Ring}
use Rattle.fm_poly.specs.Polys.{PolyValue}
use Rattle.fm_term.specs.declared.vterm.VTerm.{VTerm}
use Rattle.fm_vec.specs.Vectors.{IsVector, VectorValue}
use Rattle.fm_vec.specs.Components.{AreOver, column_terms}
use Rattle.fm_complete.specs.Divisions as divisions
use Rattle.fm_graphs.specs.Listing.{terms_of}
use Rattle.fm_mat.specs.Matrices.{column_meaning}
use Rattle.fm_vec.proofs.Inverse.{meaning_of_column}
use Rattle.fm_graphs.proofs.Listing.{terms_back}
use Rattle.fm_complete.specs.Standing.{AreOfShape}

-- the terms of a column of polynomials
pub column_back : (r : Ring) (fs : List PolyValue) → AreOver r fs → IsVector r (length fs) (column_terms 1 fs) → terms_of r (column_meaning r fs) ≡ column_terms 1 fs
column_back r fs over v = ap (terms_of r) (sym (meaning_of_column r fs over)) ∙ terms_back r (length fs) (column_terms 1 fs) v

module _ (r : Ring) (v : VectorValue) (fs : List PolyValue) (made : v ≡ record { ring = r; rows = length fs; terms = column_terms 1 fs }) where
  pub vector_terms : AreOver r fs → IsVector v.ring v.rows v.terms → v.terms ≡ terms_of r (column_meaning r fs)
  vector_terms over w = ap (λ (x : VectorValue). x.terms) made ∙ sym (column_back r fs over (subst (λ (x : VectorValue). IsVector x.ring x.rows x.terms) made w))

pub terms_more : (out out' : List VectorValue) (v : VectorValue) (t : List VTerm) (ys all : List (List VTerm)) → out' ≡ out ++ v ∷ [] → v.terms ≡ t → divisions.terms_of out ++ t ∷ ys ≡ all → divisions.terms_of out' ++ ys ≡ all
terms_more out out' v t ys all e same h = ap (λ o. divisions.terms_of o ++ ys) e ∙ go out ∙ ap (λ x. divisions.terms_of out ++ x ∷ ys) same ∙ h
  where
    go : (out : List VectorValue) → divisions.terms_of (out ++ v ∷ []) ++ ys ≡ divisions.terms_of out ++ v.terms ∷ ys
    go [] = refl
    go (w ∷ out) = ap (λ l. w.terms ∷ l) (go out)

pub shape_more : (r : Ring) (rows : ℕ) (out : List VectorValue) (v : VectorValue) → AreOfShape r rows out → v.ring ≡ r → v.rows ≡ rows → AreOfShape r rows (out ++ v ∷ [])
shape_more r rows [] v o e l = (e, l, tt)
shape_more r rows (w ∷ out) v o e l = (o.0, o.1, shape_more r rows out v o.2 e l)
