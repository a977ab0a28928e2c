-- Colons by powers of an element, as facts on lists of matrices
use Rattle.std.proofs.Common.{ℕ, zero, suc, ◌+◌, ◌<◌, ◌≤◌, ◌↔◌, subst, arith, List, length}
use Rattle.fm_gfp.specs.declared.prime.Prime.{Prime}
use Rattle.fm_algebra.specs.Families.{Mat, scalar, read, element}
use Rattle.fm_algebra.specs.Image.{InImage, pow}
use Rattle.fm_algebra.proofs.Generation.{SameImage, Generates}
use Rattle.fm_algebra.specs.Polynomials.{Polynomial, polynomials, polynomial_power}
use Rattle.fm_algebra.specs.PolynomialMatrices.{PolynomialMatrix, HasShape, matrix_scalar}
use Rattle.fm_algebra.proofs.Images.{columns_within}
use Rattle.fm_algebra.proofs.ListImages.{through, turned}
use Rattle.fm_limit.specs.ResolvedIdeal.{matrix_at, columns_of}
use Rattle.fm_limit.specs.Classes.{matrices}
use Rattle.fm_limit.specs.Facts.{ColumnsInImage, IsEverything, IsColons}
use Rattle.fm_limit.proofs.Vanishing.{colon_everything, colon_rises, colon_never}
use Rattle.fm_limit.proofs.FactsRead.{matrices_laws, member}
use Rattle.fm_limit.proofs.MatrixWords.{scalar_fits, scalar_read, preimage_from, columns_from, same_from, everything_read, scalar_columns_read, powers}

module _ (p : Prime) (n : ℕ) where
  module _ {K : PolynomialMatrix p n} {f : Polynomial p n} {Cs : List (PolynomialMatrix p n)} {k : ℕ} (shape : HasShape p n K.rows (length K.columns) K) (C : IsColons p n K f Cs k) where
    abbrev g : ℕ
    g = K.rows

    abbrev A : Mat (polynomials p n) g (length K.columns)
    A = read (polynomials p n) g (length K.columns) K

    first_read : SameImage (matrices p n) (member p n g Cs zero) A
    first_read =
        same_from p n g (columns_of p n Cs zero) (length K.columns) (matrix_at p n Cs zero) K (C.fits zero (omega arith)) shape C.first

    step_read : (j : ℕ) → j < suc k → Generates (matrices p n) (member p n g Cs (suc j)) (scalar (polynomials p n) (element (polynomials p n) f) g) (member p n g Cs j)
    step_read j b =
        subst (λ X. Generates (matrices p n) (member p n g Cs (suc j)) X (member p n g Cs j)) (scalar_read p n f g) (preimage_from p n g g (columns_of p n Cs j) (columns_of p n Cs (suc j)) (matrix_at p n Cs (suc j)) (matrix_scalar p n f g) (matrix_at p n Cs j) (scalar_fits p n f g) (C.fits j (omega arith)) (C.fits (suc j) (omega arith)) (C.step j (omega arith)))

    power_read : (j : ℕ) → ColumnsInImage p n K (matrix_scalar p n (polynomial_power p n j f) K.rows) ↔ InImage (matrices p n) A (scalar (polynomials p n) (pow (matrices p n) (element (polynomials p n) f) j) g)
    power_read j =
        subst (λ a. ColumnsInImage p n K (matrix_scalar p n (polynomial_power p n j f) K.rows) ↔ InImage (matrices p n) A (scalar (polynomials p n) a g)) (powers p n f j) (scalar_columns_read p n (polynomial_power p n j f) g (length K.columns) K shape)

    -- C_j is everything exactly if f^j times the unit matrix has its columns in im K
    pub colon_fact : (j : ℕ) → j ≤ k + 1 → IsEverything p n (matrix_at p n Cs j) ↔ ColumnsInImage p n K (matrix_scalar p n (polynomial_power p n j f) K.rows)
    colon_fact j b =
        let c : j ≤ suc k = omega arith in
        through (everything_read p n g (columns_of p n Cs j) (matrix_at p n Cs j) (C.fits j b))
        (through (colon_everything (matrices_laws p n) A (element (polynomials p n) f) k first_read step_read j c) (turned (power_read j)))

    -- if C_(k+1) adds nothing to C_k, and C_k is not everything, no power of f works
    pub never_fact : ColumnsInImage p n (matrix_at p n Cs k) (matrix_at p n Cs (suc k)) → (IsEverything p n (matrix_at p n Cs k) → ⊥)
        → (m : ℕ) → ColumnsInImage p n K (matrix_scalar p n (polynomial_power p n m f) K.rows) → ⊥
    never_fact rep proper m h =
        let fk = C.fits k (omega arith) in
        let fs = C.fits (suc k) (omega arith) in
        let back : InImage (matrices p n) (member p n g Cs k) (member p n g Cs (suc k)) = (columns_from p n g (columns_of p n Cs k) (columns_of p n Cs (suc k)) (matrix_at p n Cs k) (matrix_at p n Cs (suc k)) fk fs).0 rep in
        let same : SameImage (matrices p n) (member p n g Cs k) (member p n g Cs (suc k)) = λ v. (colon_rises (matrices_laws p n) A (element (polynomials p n) f) k first_read step_read v, columns_within (matrices_laws p n) (member p n g Cs k) (member p n g Cs (suc k)) back v) in
        colon_never (matrices_laws p n) A (element (polynomials p n) f) k first_read step_read same (λ e. proper ((everything_read p n g (columns_of p n Cs k) (matrix_at p n Cs k) fk).1 (λ v. (same v).1 (e v)))) m ((power_read m).0 h)
