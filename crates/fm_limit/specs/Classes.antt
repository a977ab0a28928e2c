-- The limit of a resolved ideal of GF(p)[x1 .. xn] in degree i, in the words that contracts cite.
use Rattle.std.specs.Prelude.{ℕ, ◌≡◌, List, length}
use Rattle.fm_gfp.specs.declared.prime.Prime.{Prime}
use Rattle.fm_algebra.specs.Matrices.{Matrices}
use Rattle.fm_algebra.specs.Families.{add, neg, families, read, vector, element}
use Rattle.fm_algebra.specs.Polynomials.{Polynomial, polynomials, frobenius_twist}
use Rattle.fm_algebra.specs.PolynomialMatrices.{PolynomialMatrix, HasShape, matrix_transpose, matrix_twist, vector_product}
use Rattle.fm_algebra.specs.Image as image
use Rattle.fm_limit.specs.Resolution.{Complex}
use Rattle.fm_limit.specs.DirectSystem.{Degree, degree, IsCocycle, IsCoboundary, IsKilledBy, IsZeroInLimit, IsSameInLimit}
use Rattle.fm_limit.specs.Limit.{LimitIsZero, VanishesInverting, Annihilates, IsEnough, InducedMapIsZero, InducedMapIsOneToOne, InducedMapIsOnto, IsOntoBy, IsRoot, IsSupportIdeal}
use Rattle.fm_limit.specs.ResolvedIdeal.{ResolvedIdeal, matrix_at, columns_of, rank, row}

-- matrices over GF(p)[x1 .. xn] with the Frobenius twists
abbrev pub matrices : Prime → ℕ → Matrices
matrices p n = families (polynomials p n) (frobenius_twist p n)

module _ (p : Prime) (n : ℕ) where
  -- matrix j of a list as one with r rows and c columns
  abbrev pub read_at : (r c : ℕ) → List (PolynomialMatrix p n) → ℕ → (matrices p n).Mat r c
  read_at r c As j = read (polynomials p n) r c (matrix_at p n As j)

  -- how many columns A has; A as a matrix with r rows; and as a square one
  abbrev pub width : PolynomialMatrix p n → ℕ
  width A = length A.columns

  abbrev pub with_rows : (r : ℕ) (A : PolynomialMatrix p n) → (matrices p n).Mat r (width A)
  with_rows r A = read (polynomials p n) r (width A) A

  abbrev pub as_square : (r : ℕ) → PolynomialMatrix p n → (matrices p n).Mat r r
  as_square r A = read (polynomials p n) r r A

  -- the matrices d_1, d_2, .. of a list
  abbrev pub complex_of : List (PolynomialMatrix p n) → Complex (matrices p n)
  complex_of ds = record { cols = columns_of p n ds; d = λ j. read_at (rank p n ds j) (columns_of p n ds j) ds j }

  -- the matrices theta_0, theta_1, .. of a list
  abbrev pub theta_of : (ds ts : List (PolynomialMatrix p n)) (j : ℕ) → (matrices p n).Mat (rank p n ds j) (rank p n ds j)
  theta_of ds ts j = read_at (rank p n ds j) (rank p n ds j) ts j

  -- the matrices lambda_0, lambda_1, .. of a list, from the resolution ds to the resolution us
  abbrev pub lambda_of : (ds us ls : List (PolynomialMatrix p n)) (j : ℕ) → (matrices p n).Mat (rank p n us j) (rank p n ds j)
  lambda_of ds us ls j = read_at (rank p n us j) (rank p n ds j) ls j

  -- degree i of I: d_i, d_(i+1) and theta_i
  abbrev pub degree_in : ℕ → ResolvedIdeal p n → Degree (matrices p n)
  degree_in i I = degree (matrices p n) i (complex_of I.differentials) (theta_of I.differentials I.lift)

  -- the length of the vectors of degree i
  abbrev pub length_in : ℕ → ResolvedIdeal p n → ℕ
  length_in i I = rank p n I.differentials i

  -- the list z as a vector of degree i
  abbrev pub vector_in : (i : ℕ) (I : ResolvedIdeal p n) → List (Polynomial p n) → (matrices p n).Mat (length_in i I) 1
  vector_in i I z = vector (polynomials p n) (length_in i I) z

  -- (e, z) is a class: z has the length of degree i and is a cocycle of stage e
  pub record IsClass (i : ℕ) (I : ResolvedIdeal p n) (e : ℕ) (z : List (Polynomial p n)) : Type 0 where
    pub fits : length z ≡ length_in i I
    pub cocycle : IsCocycle (matrices p n) (degree_in i I) e (vector_in i I z)

  -- the vectors x and y differ by a coboundary of stage e
  unfoldable pub AreCohomologous : (i : ℕ) (I : ResolvedIdeal p n) (e : ℕ) (x y : List (Polynomial p n)) → Type 0
  AreCohomologous i I e x y = IsCoboundary (matrices p n) (degree_in i I) e
      (add (polynomials p n) (vector_in i I x) (neg (polynomials p n) (vector_in i I y)))

  -- one move of (e, z), to stage e + 1: the transpose of theta_i^[q] times z
  unfoldable pub moved_once : (i : ℕ) (I : ResolvedIdeal p n) (e : ℕ) → List (Polynomial p n) → List (Polynomial p n)
  moved_once i I e z = vector_product p n (matrix_transpose p n (matrix_twist p n e (matrix_at p n I.lift i))) z

  -- s moves make (e, z) a coboundary
  unfoldable pub IsCoboundaryAfter : (i : ℕ) (I : ResolvedIdeal p n) (s e : ℕ) → List (Polynomial p n) → Type 0
  IsCoboundaryAfter i I s e z = IsKilledBy (matrices p n) (degree_in i I) s e (vector_in i I z)

  -- (e, z) is zero in the limit
  unfoldable pub IsZeroClass : (i : ℕ) (I : ResolvedIdeal p n) (e : ℕ) → List (Polynomial p n) → Type 0
  IsZeroClass i I e z = IsZeroInLimit (matrices p n) (degree_in i I) e (vector_in i I z)

  -- (e, z) and (e', z') are the same in the limit
  unfoldable pub IsSameClass : (i : ℕ) (I : ResolvedIdeal p n) (e : ℕ) → List (Polynomial p n) → ℕ → List (Polynomial p n) → Type 0
  IsSameClass i I e z e' z' = IsSameInLimit (matrices p n) (degree_in i I) e (vector_in i I z) e' (vector_in i I z')

  -- the limit is zero
  unfoldable pub IsZeroLimit : ℕ → ResolvedIdeal p n → Type 0
  IsZeroLimit i I = LimitIsZero (matrices p n) (degree_in i I)

  -- the limit vanishes after inverting f
  unfoldable pub VanishesAfterInverting : ℕ → ResolvedIdeal p n → Polynomial p n → Type 0
  VanishesAfterInverting i I f = VanishesInverting (matrices p n) (degree_in i I) (element (polynomials p n) f)

  -- (0, a * z) is zero in the limit for every class (0, z)
  unfoldable pub AnnihilatesClasses : ℕ → ResolvedIdeal p n → Polynomial p n → Type 0
  AnnihilatesClasses i I a = Annihilates (matrices p n) (degree_in i I) (element (polynomials p n) a)

  -- t moves make a coboundary of every class of stage 0 that is zero in the limit
  unfoldable pub IsEnoughMoves : ℕ → ResolvedIdeal p n → ℕ → Type 0
  IsEnoughMoves i I t = IsEnough (matrices p n) (degree_in i I) t

  -- (Z, K, U) is a root of the limit, in matrices whose shapes fit
  pub record IsRootOf (i : ℕ) (I : ResolvedIdeal p n) (Z K U : PolynomialMatrix p n) : Type 0 where
    pub generators_fit : HasShape p n (length_in i I) (length Z.columns) Z
    pub kernel_fits : HasShape p n (length Z.columns) (length K.columns) K
    pub morphism_fits : HasShape p n (length Z.columns) (length Z.columns) U
    pub root : IsRoot (matrices p n) (degree_in i I) (width Z) (width K) (with_rows (length_in i I) Z) (with_rows (width Z) K)
        (as_square (width Z) U)

  -- the ideal of the given polynomials is a support ideal of the limit
  unfoldable pub IsSupportIdealOf : ℕ → ResolvedIdeal p n → List (Polynomial p n) → Type 0
  IsSupportIdealOf i I fs =
      IsSupportIdeal (matrices p n) (degree_in i I)
      (λ a. image.InImage (matrices p n) (read (polynomials p n) 1 (length fs) (row p n fs)) a)

  -- ---- the map from the classes of J to those of I that a lift ls of the identity, from the resolution of I to that of J, induces
  abbrev pub lambda_in : (i : ℕ) (J I : ResolvedIdeal p n) (ls : List (PolynomialMatrix p n))
      → (matrices p n).Mat (length_in i J) (length_in i I)
  lambda_in i J I ls = lambda_of I.differentials J.differentials ls i

  -- the image of (e, z): the transpose of lambda_i^[q] times z
  unfoldable pub image_of : (i : ℕ) (ls : List (PolynomialMatrix p n)) (e : ℕ) → List (Polynomial p n) → List (Polynomial p n)
  image_of i ls e z = vector_product p n (matrix_transpose p n (matrix_twist p n e (matrix_at p n ls i))) z

  -- it takes classes to classes
  abbrev pub IsMapOfClasses : (i : ℕ) (J I : ResolvedIdeal p n) → List (PolynomialMatrix p n) → Type 0
  IsMapOfClasses i J I ls = (e : ℕ) (z : List (Polynomial p n)) → IsClass i J e z → IsClass i I e (image_of i ls e z)

  -- every image is zero in the limit
  unfoldable pub IsZeroMap : (i : ℕ) (J I : ResolvedIdeal p n) → List (PolynomialMatrix p n) → Type 0
  IsZeroMap i J I ls = InducedMapIsZero (matrices p n) (degree_in i J) (degree_in i I) (lambda_in i J I ls)

  -- only classes that are zero in the limit have images that are
  unfoldable pub IsOneToOneMap : (i : ℕ) (J I : ResolvedIdeal p n) → List (PolynomialMatrix p n) → Type 0
  IsOneToOneMap i J I ls = InducedMapIsOneToOne (matrices p n) (degree_in i J) (degree_in i I) (lambda_in i J I ls)

  -- every class of I is the same in the limit as some image
  unfoldable pub IsOntoMap : (i : ℕ) (J I : ResolvedIdeal p n) → List (PolynomialMatrix p n) → Type 0
  IsOntoMap i J I ls = InducedMapIsOnto (matrices p n) (degree_in i J) (degree_in i I) (lambda_in i J I ls)

  -- s moves take every class of stage 0 of I to the image of a class of stage s plus a coboundary
  unfoldable pub IsOntoAfter : (i : ℕ) (J I : ResolvedIdeal p n) → List (PolynomialMatrix p n) → ℕ → Type 0
  IsOntoAfter i J I ls s = IsOntoBy (matrices p n) (degree_in i J) (degree_in i I) (lambda_in i J I ls) s
