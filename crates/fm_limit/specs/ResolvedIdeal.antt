-- Ideals of GF(p)[x1 .. xn] with a resolution and a Frobenius lift, as lists of polynomials and of matrices.
use Rattle.std.specs.Prelude.{ℕ, zero, suc, ◌+◌, ◌<◌, ◌≡◌, ◌↔◌, List, [], ◌∷◌, length, get_or}
use Rattle.fm_gfp.specs.declared.prime.Prime.{Prime}
use Rattle.fm_algebra.specs.Polynomials.{Polynomial}
use Rattle.fm_algebra.specs.PolynomialMatrices.{PolynomialMatrix, HasShape, matrix_product, matrix_unit, matrix_zero, matrix_column, matrix_transpose, matrix_twist, InImage, GeneratesKernel}
use Rattle.fm_limit.specs.Resolution.{rank_of}

-- generators of an ideal I, matrices d_1 .. d_(i+1), and matrices theta_0 .. theta_i
pub record ResolvedIdeal (p : Prime) (n : ℕ) : Type 0 where
  pub generators : List (Polynomial p n)
  pub differentials : List (PolynomialMatrix p n)
  pub lift : List (PolynomialMatrix p n)

module _ (p : Prime) (n : ℕ) where
  -- matrix j of a list, counted from 0
  unfoldable pub matrix_at : List (PolynomialMatrix p n) → ℕ → PolynomialMatrix p n
  matrix_at As j = get_or As j (matrix_zero p n 0 0)

  -- the numbers of columns of d_1, d_2, ..
  abbrev pub columns_of : List (PolynomialMatrix p n) → ℕ → ℕ
  columns_of ds j = length (matrix_at ds j).columns

  -- the rank of P_j, for matrices d_1, d_2, ..
  abbrev pub rank : List (PolynomialMatrix p n) → ℕ → ℕ
  rank ds j = rank_of (columns_of ds) j

  -- d_j, where d_0 is the matrix without rows from P_0 to 0
  unfoldable pub differential : List (PolynomialMatrix p n) → ℕ → PolynomialMatrix p n
  differential ds zero = matrix_zero p n 0 1
  differential ds (suc j) = matrix_at ds j

  -- the matrix with one row, of the given polynomials
  unfoldable pub row : List (Polynomial p n) → PolynomialMatrix p n
  row fs = matrix_transpose p n (matrix_column p n fs)

  -- f lies in the ideal that the given polynomials generate
  unfoldable pub InIdeal : List (Polynomial p n) → Polynomial p n → Type 0
  InIdeal fs f = InImage p n (row fs) (f ∷ [])

  -- the ideal of fs lies in that of gs
  abbrev pub LiesIn : (fs gs : List (Polynomial p n)) → Type 0
  LiesIn fs gs = (f : Polynomial p n) → InIdeal fs f → InIdeal gs f

  -- ds is a resolution d_1 .. d_(i+1) of the ideal of the given generators through degree i: the entries of d_1 generate the
  -- ideal, and ker d_j = im d_(j+1) for j from 1 to i (any textbook of homological algebra).
  pub record IsResolutionOf (generators : List (Polynomial p n)) (i : ℕ) (ds : List (PolynomialMatrix p n)) : Type 0 where
    pub count : length ds ≡ i + 1
    pub fits : (j : ℕ) → j < length ds → HasShape p n (rank ds j) (rank ds (suc j)) (matrix_at ds j)
    pub first : (f : Polynomial p n) → InImage p n (matrix_at ds 0) (f ∷ []) ↔ InIdeal generators f
    pub exact : (j : ℕ) → j < i → GeneratesKernel p n (matrix_at ds (suc j)) (matrix_at ds j)

  -- ts is a Frobenius lift theta_0 .. theta_i of ds: theta_0 = (1), and d_j * theta_j = theta_(j-1) * d_j^[p] for j from 1 to i
  -- (G. Lyubeznik, F-modules: applications to local cohomology and D-modules in characteristic p > 0, 1997).
  pub record IsFrobeniusLiftOf (i : ℕ) (ds ts : List (PolynomialMatrix p n)) : Type 0 where
    pub count : length ts ≡ i + 1
    pub fits : (j : ℕ) → j < length ts → HasShape p n (rank ds j) (rank ds j) (matrix_at ts j)
    pub first : matrix_at ts 0 ≡ matrix_unit p n 1
    pub square : (j : ℕ) → j < i → matrix_product p n (matrix_at ds j) (matrix_at ts (suc j))
        ≡ matrix_product p n (matrix_at ts j) (matrix_twist p n 1 (matrix_at ds j))

  -- I has a resolution through degree i with a Frobenius lift
  pub record IsResolved (i : ℕ) (I : ResolvedIdeal p n) : Type 0 where
    pub resolution : IsResolutionOf I.generators i I.differentials
    pub frobenius : IsFrobeniusLiftOf i I.differentials I.lift

  -- ls is a lift lambda_0 .. lambda_i of the identity from ds to us: lambda_0 = (1), and d_j of us times lambda_j is
  -- lambda_(j-1) times d_j of ds, for j from 1 to i.
  pub record IsLiftOfIdentityOf (i : ℕ) (ds us ls : List (PolynomialMatrix p n)) : Type 0 where
    pub count : length ls ≡ i + 1
    pub fits : (j : ℕ) → j < length ls → HasShape p n (rank us j) (rank ds j) (matrix_at ls j)
    pub first : matrix_at ls 0 ≡ matrix_unit p n 1
    pub square : (j : ℕ) → j < i → matrix_product p n (matrix_at us j) (matrix_at ls (suc j))
        ≡ matrix_product p n (matrix_at ls j) (matrix_at ds j)

  -- I and J are one ideal, resolved twice through degree i
  pub record AreOneIdeal (i : ℕ) (I J : ResolvedIdeal p n) : Type 0 where
    pub first : IsResolved i I
    pub second : IsResolved i J
    pub there : LiesIn I.generators J.generators
    pub back : LiesIn J.generators I.generators

  -- I and I' are one ideal, J and J' are one, all resolved through degree i; ls is a lift of the identity from I to J, and ms one
  -- from I' to J'
  pub record AreOneInclusion (i : ℕ) (I J I' J' : ResolvedIdeal p n) (ls ms : List (PolynomialMatrix p n)) : Type 0 where
    pub inner : AreOneIdeal i I I'
    pub outer : AreOneIdeal i J J'
    pub first : IsLiftOfIdentityOf i I.differentials J.differentials ls
    pub second : IsLiftOfIdentityOf i I'.differentials J'.differentials ms
