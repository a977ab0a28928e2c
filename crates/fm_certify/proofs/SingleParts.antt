-- That matrices as they are printed are those that are held.
use Rattle.std.proofs.Common.{◌≡◌, ℕ, List, [], ◌∷◌, All, length, sym, ap, ap₂, ◌∙◌, subst}
use Rattle.std.proofs.lemmas.List.{length-map}
use Rattle.fm_algebra.specs.PolynomialMatrices.{matrix_column}
use Rattle.fm_algebra.specs.Matrix.{column_matrix}
use Rattle.fm_cert.specs.Naming.{Grid}
use Rattle.fm_answers.proofs.PrintedMatrices.{columns_back, grid_back, vector_back}
use Rattle.fm_certificates.specs.Certificates.{columns_part, matrix_part, vector_part}
use Rattle.fm_mat.specs.Matrices.{MatrixValue, column_meaning, columns_meaning, matrix_meaning}
use Rattle.fm_poly.specs.declared.ring.Ring.{Ring}
use Rattle.fm_poly.specs.Polys.{PolyValue, meaning}
use Rattle.fm_report.specs.Parts.{given}
use Rattle.fm_text.specs.SumOfTerms.{IsPolynomialOf}
use Rattle.fm_writer.specs.Claims.{given_of}

module _ (r : Ring) where
  pub matrix_given : (m : MatrixValue) → All (All (IsPolynomialOf r)) m.columns → given_of m ≡ matrix_part r (matrix_meaning r m)
  matrix_given m h = ap (λ (g : Grid). given g.rows g.columns) (sym (grid_back r m h))

  pub columns_given : (rows : ℕ) (cs : List (List PolyValue)) → All (All (IsPolynomialOf r)) cs → given rows cs ≡ columns_part r rows (columns_meaning r cs)
  columns_given rows cs h = ap (λ vs. given rows vs) (sym (columns_back r cs h))

  pub vector_given : (v : List PolyValue) → All (IsPolynomialOf r) v → given (length v) (v ∷ []) ≡ vector_part r (column_meaning r v)
  unfolding matrix_column column_matrix
  vector_given v h =
      ap₂ (λ n (w : List PolyValue). given n (w ∷ [])) (sym (length-map v (λ (f : PolyValue). meaning r f.terms))) (sym (vector_back r v h))

-- a matrix whose entries were read, of this ring
pub part_told : (r : Ring) (m told held : MatrixValue) → told ≡ m → held ≡ m → m.ring ≡ r → All (All (IsPolynomialOf told.ring)) told.columns
    → given_of held ≡ matrix_part r (matrix_meaning r m)
part_told r m told held t e ring h =
    let read : All (All (IsPolynomialOf m.ring)) m.columns = subst (λ (q : MatrixValue). All (All (IsPolynomialOf q.ring)) q.columns) t h in
    ap given_of e ∙ matrix_given r m (subst (λ (q : Ring). All (All (IsPolynomialOf q)) m.columns) ring read)

pub vars_told : (r : Ring) (m held : MatrixValue) → held ≡ m → m.ring ≡ r → held.ring.vars ≡ r.vars
vars_told r m held e ring = ap (λ (q : MatrixValue). q.ring.vars) e ∙ ap (λ (q : Ring). q.vars) ring
