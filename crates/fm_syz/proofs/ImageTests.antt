-- Whether a vector lies in the image of a matrix.
use Rattle.std.proofs.Common.{ℕ, ◌≡◌, ◌↔◌, Bool, IsTrue, IfOk, Result, Ok, Err, List, length, map, ap, ◌∙◌, subst}
use Rattle.fm_algebra.specs.PolynomialMatrices.{InImage}
use Rattle.fm_poly.specs.declared.ring.Ring.{Ring}
use Rattle.fm_poly.specs.Polys.{PolyValue}
use Rattle.fm_term.specs.declared.vterm.VTerm.{VTerm}
use Rattle.fm_run.specs.declared.stop.Stop.{Stop}
use Rattle.fm_run.specs.Runs.{Follows}
use Rattle.fm_vec.specs.Components.{AreOver, column_terms}
use Rattle.fm_vec.specs.Vectors.{IsVector, VectorValue}
use Rattle.fm_mat.specs.Matrices.{MatrixValue, AreColumns, column_meaning, columns_meaning, matrix_meaning}
use Rattle.fm_graphs.specs.Listing.{VectorOf, terms_of}
use Rattle.fm_graphs.specs.Trims.{spanned}
use Rattle.fm_graphs.proofs.Trims.{spanned_is}
use Rattle.fm_syz.proofs.ColumnTerms.{vector_terms}
use Rattle.fm_syz.proofs.Inputs.{columns_long}

module _ (r s : Ring) (ring : s ≡ r) (a : MatrixValue) (columns : List (List PolyValue)) (ts : List (List VTerm)) (same : columns ≡ a.columns) (is : ts ≡ map (terms_of s) (columns_meaning s columns)) (v : VectorValue) (fs : List PolyValue)
    (made : v ≡ record { ring = s; rows = length fs; terms = column_terms 1 fs }) where
  pub test_follows : AreOver s fs → IsVector v.ring v.rows v.terms → (answer : Result Bool Stop) (old new : ℕ)
      → ((columns : List (VectorOf s)) (w : VectorOf s) → ts ≡ map (terms_of s) columns → v.terms ≡ terms_of s w → Follows (λ yes. yes) answer old new (spanned s columns w old))
      → Follows (λ yes. yes) answer old new (spanned r (columns_meaning r a.columns) (column_meaning r fs) old)
  test_follows over vector answer old new f =
      subst (λ (q : Ring). Follows (λ yes. yes) answer old new (spanned q (columns_meaning q a.columns) (column_meaning q fs) old)) ring
      (f (columns_meaning s a.columns) (column_meaning s fs) (is ∙ ap (λ cs. map (terms_of s) (columns_meaning s cs)) same) (vector_terms s v fs made over vector))

module _ (r : Ring) (a : MatrixValue) (shape : AreColumns r a.rows a.columns) (w : VectorOf r) (fits : length w ≡ a.rows) where
  pub test_decides : (answer : Result Bool Stop) (old new : ℕ) → Follows (λ yes. yes) answer old new (spanned r (columns_meaning r a.columns) w old) → IfOk answer (λ yes. IsTrue yes ↔ InImage r.prime r.vars (matrix_meaning r a) w)
  test_decides (Ok inside) old new h = let d = spanned_is r a.rows (columns_meaning r a.columns) (columns_long r a.rows a.columns shape) w fits old new inside h in (d.1, d.0)
  test_decides (Err stop) old new h = tt
