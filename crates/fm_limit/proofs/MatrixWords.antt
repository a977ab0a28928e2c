-- Words of contracts for vectors and matrices, read as those of families
use Rattle.std.proofs.Common.{ℕ, ◌+◌, ◌≡◌, ◌∙◌, ◌↔◌, refl, sym, ap, subst, List, length}
use Rattle.fm_gfp.specs.declared.prime.Prime.{Prime}
use Rattle.fm_algebra.specs.Matrix.{column_matrix}
use Rattle.fm_algebra.specs.Families.{mul, unit, flip, beside, each, scalar, read, vector, element}
use Rattle.fm_algebra.specs.Image as image
use Rattle.fm_algebra.specs.Image.{pow}
use Rattle.fm_algebra.proofs.Generation.{Generates, GeneratesKernel, SameImage, Everything}
use Rattle.fm_algebra.specs.Polynomials.{Polynomial, polynomials, polynomial_power, frobenius_twist}
use Rattle.fm_algebra.specs.PolynomialMatrices as words
use Rattle.fm_algebra.specs.PolynomialMatrices.{PolynomialMatrix, HasShape, matrix_product, matrix_unit, matrix_scalar, matrix_beside, matrix_column, matrix_transpose, matrix_twist, InImage, InKernel, InPreimage}
use Rattle.fm_algebra.proofs.Concrete.{polynomials_laws, polynomials_frobenius}
use Rattle.fm_algebra.proofs.FamilyLaws.{families_laws}
use Rattle.fm_algebra.proofs.FamilyPowers.{element_power}
use Rattle.fm_algebra.proofs.Images.{everything_columns}
use Rattle.fm_algebra.proofs.ListImages as lists
use Rattle.fm_algebra.proofs.ListImages.{through, turned, list_image, list_kernel}
use Rattle.fm_algebra.proofs.Tables.{read_product, product_shaped, read_transpose, transpose_shaped, read_unit, unit_shaped, read_scalar, scalar_shaped, read_joined, joined_shaped, read_entrywise, entrywise_shaped, read_column, column_shaped}
use Rattle.fm_limit.specs.ResolvedIdeal.{row}
use Rattle.fm_limit.specs.Classes.{matrices}
use Rattle.fm_limit.specs.Facts.{ColumnsInImage, IsEverything}
use Rattle.fm_limit.proofs.Reading.{generates_kernel_read, generates_read, inside_read, same_read, columns_read}

module _ (p : Prime) (n : ℕ) where
  -- ---- membership

  pub image_words : (a b : ℕ) (A : PolynomialMatrix p n) (v : List (Polynomial p n)) → HasShape p n a b A → length v ≡ a
      → InImage p n A v ↔ image.InImage (matrices p n) (read (polynomials p n) a b A) (vector (polynomials p n) a v)
  unfolding InImage HasShape
  image_words a b A v s l = list_image (polynomials p n) (frobenius_twist p n) a b A v s.0 s.1 l

  pub kernel_words : (a b : ℕ) (A : PolynomialMatrix p n) (w : List (Polynomial p n)) → HasShape p n a b A → length w ≡ b
      → InKernel p n A w ↔ image.InKernel (matrices p n) (read (polynomials p n) a b A) (vector (polynomials p n) b w)
  unfolding InKernel HasShape
  kernel_words a b A w s l = list_kernel (polynomials p n) (frobenius_twist p n) a b A w s.0 s.1 l

  -- a vector in the image has as many entries as the matrix has rows
  pub image_length : (a b : ℕ) (A : PolynomialMatrix p n) (v : List (Polynomial p n)) → HasShape p n a b A → InImage p n A v → length v ≡ a
  unfolding HasShape InImage
  image_length a b A v s h = lists.length_image (polynomials p n) (frobenius_twist p n) A v h ∙ s.0

  pub kernel_length : (a b : ℕ) (A : PolynomialMatrix p n) (w : List (Polynomial p n)) → HasShape p n a b A → InKernel p n A w → length w ≡ b
  unfolding InKernel HasShape
  kernel_length a b A w s h = h.0 ∙ s.1

  -- ---- shapes

  pub shape_rows : (a b : ℕ) (A : PolynomialMatrix p n) → HasShape p n a b A → A.rows ≡ a
  unfolding HasShape
  shape_rows a b A s = s.0

  pub shape_columns : (a b : ℕ) (A : PolynomialMatrix p n) → HasShape p n a b A → length A.columns ≡ b
  unfolding HasShape
  shape_columns a b A s = s.1

  -- ---- operations, read as those of families

  -- a product of matrices of lists, read
  pub product_read : (a b c : ℕ) (A B : PolynomialMatrix p n) → HasShape p n a b A → HasShape p n b c B
      → read (polynomials p n) a c (matrix_product p n A B) ≡ mul (polynomials p n) (read (polynomials p n) a b A) (read (polynomials p n) b c B)
  unfolding HasShape matrix_product
  product_read a b c A B s t = read_product (polynomials p n) a b c A B s.0 s.1 t.1

  pub product_fits : (a b c : ℕ) (A B : PolynomialMatrix p n) → HasShape p n a b A → HasShape p n b c B → HasShape p n a c (matrix_product p n A B)
  unfolding HasShape matrix_product
  product_fits a b c A B s t = product_shaped (polynomials p n) a c A B s.0 t.1

  pub twist_read : (e a b : ℕ) (A : PolynomialMatrix p n) → HasShape p n a b A
      → read (polynomials p n) a b (matrix_twist p n e A) ≡ each (polynomials p n) (frobenius_twist p n e) (read (polynomials p n) a b A)
  unfolding HasShape matrix_twist
  twist_read e a b A s = read_entrywise (polynomials p n) (frobenius_twist p n e) a b A s.0 s.1

  pub twist_fits : (e a b : ℕ) (A : PolynomialMatrix p n) → HasShape p n a b A → HasShape p n a b (matrix_twist p n e A)
  unfolding HasShape matrix_twist
  twist_fits e a b A s = entrywise_shaped (polynomials p n) (frobenius_twist p n e) a b A s.0 s.1

  pub transpose_read : (a b : ℕ) (A : PolynomialMatrix p n) → HasShape p n a b A
      → read (polynomials p n) b a (matrix_transpose p n A) ≡ flip (polynomials p n) (read (polynomials p n) a b A)
  unfolding HasShape matrix_transpose
  transpose_read a b A s = read_transpose (polynomials p n) a b A s.0 s.1

  pub transpose_fits : (a b : ℕ) (A : PolynomialMatrix p n) → HasShape p n a b A → HasShape p n b a (matrix_transpose p n A)
  unfolding HasShape matrix_transpose
  transpose_fits a b A s = transpose_shaped (polynomials p n) a b A s.0 s.1

  -- the transpose of a twist
  pub dual_fits : (e a b : ℕ) (A : PolynomialMatrix p n) → HasShape p n a b A → HasShape p n b a (matrix_transpose p n (matrix_twist p n e A))
  dual_fits e a b A s = transpose_fits a b (matrix_twist p n e A) (twist_fits e a b A s)

  pub dual_read : (e a b : ℕ) (A : PolynomialMatrix p n) → HasShape p n a b A
      → read (polynomials p n) b a (matrix_transpose p n (matrix_twist p n e A)) ≡ flip (polynomials p n) (each (polynomials p n) (frobenius_twist p n e) (read (polynomials p n) a b A))
  dual_read e a b A s =
      transpose_read a b (matrix_twist p n e A) (twist_fits e a b A s) ∙ ap (flip (polynomials p n) {m = a} {n = b}) (twist_read e a b A s)

  pub unit_read : (a : ℕ) → read (polynomials p n) a a (matrix_unit p n a) ≡ unit (polynomials p n) a
  unfolding matrix_unit
  unit_read a = read_unit (polynomials p n) a

  pub unit_fits : (a : ℕ) → HasShape p n a a (matrix_unit p n a)
  unfolding HasShape matrix_unit
  unit_fits a = unit_shaped (polynomials p n) a

  pub scalar_fits : (f : Polynomial p n) (a : ℕ) → HasShape p n a a (matrix_scalar p n f a)
  unfolding HasShape matrix_scalar
  scalar_fits f a = scalar_shaped (polynomials p n) f a

  pub scalar_read : (f : Polynomial p n) (a : ℕ) → read (polynomials p n) a a (matrix_scalar p n f a) ≡ scalar (polynomials p n) (element (polynomials p n) f) a
  unfolding matrix_scalar
  scalar_read f a = read_scalar (polynomials p n) f a

  pub beside_read : (m a b : ℕ) (A B : PolynomialMatrix p n) → HasShape p n m a A → HasShape p n m b B
      → read (polynomials p n) m (a + b) (matrix_beside p n A B) ≡ beside (polynomials p n) (read (polynomials p n) m a A) (read (polynomials p n) m b B)
  unfolding HasShape matrix_beside
  beside_read m a b A B s t = read_joined (polynomials p n) m a b A B s.0 s.1 t.1

  pub beside_fits : (m a b : ℕ) (A B : PolynomialMatrix p n) → HasShape p n m a A → HasShape p n m b B → HasShape p n m (a + b) (matrix_beside p n A B)
  unfolding HasShape matrix_beside
  beside_fits m a b A B s t = joined_shaped (polynomials p n) m a b A B s.0 s.1 t.1

  -- ---- the row of some polynomials
  pub row_fits : (fs : List (Polynomial p n)) → HasShape p n 1 (length fs) (row p n fs)
  unfolding HasShape row matrix_transpose matrix_column
  row_fits fs =
      let c = column_shaped (polynomials p n) (length fs) fs refl in
      transpose_shaped (polynomials p n) (length fs) 1 (column_matrix (polynomials p n) fs) c.0 c.1

  -- the row of the powers is the twist of the row
  pub row_read : (fs : List (Polynomial p n)) → read (polynomials p n) 1 (length fs) (row p n fs) ≡ flip (polynomials p n) (vector (polynomials p n) (length fs) fs)
  unfolding row matrix_transpose matrix_column
  row_read fs =
      let c = column_shaped (polynomials p n) (length fs) fs refl in
      read_transpose (polynomials p n) (length fs) 1 (column_matrix (polynomials p n) fs) c.0 c.1 ∙ ap (flip (polynomials p n) {m = length fs} {n = 1}) (read_column (polynomials p n) (length fs) fs)

  -- ---- what a matrix generates

  pub kernel_from : (m a l : ℕ) (C A : PolynomialMatrix p n) → HasShape p n m a A → HasShape p n a l C → words.GeneratesKernel p n C A
      → GeneratesKernel (matrices p n) (read (polynomials p n) a l C) (read (polynomials p n) m a A)
  unfolding HasShape InImage InKernel
  kernel_from m a l C A s t g = generates_kernel_read (polynomials p n) (frobenius_twist p n) m a l C A s.0 s.1 t.0 t.1 g

  pub preimage_from : (m a k l : ℕ) (C A B : PolynomialMatrix p n) → HasShape p n m a A → HasShape p n m k B → HasShape p n a l C → words.GeneratesPreimage p n C A B
      → Generates (matrices p n) (read (polynomials p n) a l C) (read (polynomials p n) m a A) (read (polynomials p n) m k B)
  unfolding HasShape InImage InPreimage
  preimage_from m a k l C A B s t u g = generates_read (polynomials p n) (frobenius_twist p n) m a k l C A B s.0 s.1 t.0 t.1 u.0 u.1 g

  pub inside_from : (m a k l : ℕ) (C A B : PolynomialMatrix p n) → HasShape p n m a A → HasShape p n m k B → HasShape p n a l C
      → ((w : List (Polynomial p n)) → InPreimage p n A B w → InImage p n C w)
      ↔ ((w : (matrices p n).Mat a 1) → image.InImage (matrices p n) (read (polynomials p n) m k B) (mul (polynomials p n) (read (polynomials p n) m a A) w) → image.InImage (matrices p n) (read (polynomials p n) a l C) w)
  unfolding HasShape InImage InPreimage
  inside_from m a k l C A B s t u = inside_read (polynomials p n) (frobenius_twist p n) m a k l C A B s.0 s.1 t.0 t.1 u.0 u.1

  pub columns_from : (m a k : ℕ) (A B : PolynomialMatrix p n) → HasShape p n m a A → HasShape p n m k B
      → ColumnsInImage p n A B ↔ image.InImage (matrices p n) (read (polynomials p n) m a A) (read (polynomials p n) m k B)
  unfolding HasShape InImage
  columns_from m a k A B s t = columns_read (polynomials p n) (frobenius_twist p n) (polynomials_laws p n) (polynomials_frobenius p n) m a k A B s.0 s.1 t

  -- two matrices of lists with one image
  pub same_from : (m a k : ℕ) (A B : PolynomialMatrix p n) → HasShape p n m a A → HasShape p n m k B
      → ((v : List (Polynomial p n)) → InImage p n A v ↔ InImage p n B v) → SameImage (matrices p n) (read (polynomials p n) m a A) (read (polynomials p n) m k B)
  unfolding HasShape InImage
  same_from m a k A B s t g = same_read (polynomials p n) (frobenius_twist p n) m a k A B s.0 s.1 t.0 t.1 (λ v e. g v)

  -- im A is everything exactly if it has the columns of the unit matrix
  pub everything_read : (a b : ℕ) (A : PolynomialMatrix p n) → HasShape p n a b A → IsEverything p n A ↔ Everything (matrices p n) (read (polynomials p n) a b A)
  everything_read a b A s =
      subst (λ r. ColumnsInImage p n A (matrix_unit p n r) ↔ Everything (matrices p n) (read (polynomials p n) a b A)) (sym (shape_rows a b A s))
      (through (columns_from a b a A (matrix_unit p n a) s (unit_fits a)) (subst (λ X. image.InImage (matrices p n) (read (polynomials p n) a b A) X ↔ Everything (matrices p n) (read (polynomials p n) a b A)) (sym (unit_read a)) (turned (everything_columns (families_laws (polynomials_laws p n) (polynomials_frobenius p n)) (read (polynomials p n) a b A)))))

  -- f times the unit matrix has its columns in im A
  pub scalar_columns_read : (f : Polynomial p n) (a b : ℕ) (A : PolynomialMatrix p n) → HasShape p n a b A
      → ColumnsInImage p n A (matrix_scalar p n f A.rows) ↔ image.InImage (matrices p n) (read (polynomials p n) a b A) (scalar (polynomials p n) (element (polynomials p n) f) a)
  scalar_columns_read f a b A s =
      subst (λ r. ColumnsInImage p n A (matrix_scalar p n f r) ↔ image.InImage (matrices p n) (read (polynomials p n) a b A) (scalar (polynomials p n) (element (polynomials p n) f) a)) (sym (shape_rows a b A s))
      (subst (λ X. ColumnsInImage p n A (matrix_scalar p n f a) ↔ image.InImage (matrices p n) (read (polynomials p n) a b A) X) (scalar_read f a) (columns_from a b a A (matrix_scalar p n f a) s (scalar_fits f a)))

  pub powers : (f : Polynomial p n) (k : ℕ) → element (polynomials p n) (polynomial_power p n k f) ≡ pow (matrices p n) (element (polynomials p n) f) k
  unfolding polynomial_power
  powers f k = element_power (polynomials_laws p n) (frobenius_twist p n) f k
