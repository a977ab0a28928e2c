-- The finite facts from which verdicts on the limit follow: what deciding and checking establish.
use Rattle.std.specs.Prelude.{ℕ, zero, suc, ◌+◌, ◌*◌, ◌/◌, ◌%◌, ◌<◌, ◌≤◌, ◌≡◌, ◌↔◌, List, [], length, get_or, map, cond, eqb}
use Rattle.fm_gfp.specs.declared.prime.Prime.{Prime}
use Rattle.fm_algebra.specs.Matrix.{component, entry, table}
use Rattle.fm_algebra.specs.Polynomials.{Polynomial, polynomials}
use Rattle.fm_algebra.specs.PolynomialMatrices.{PolynomialMatrix, HasShape, matrix_product, matrix_unit, matrix_scalar, vector_product, matrix_beside, matrix_transpose, matrix_twist, InImage, GeneratesKernel, GeneratesPreimage}
use Rattle.fm_limit.specs.ResolvedIdeal.{ResolvedIdeal, matrix_at, rank, differential, IsResolved, IsLiftOfIdentityOf}

module _ (p : Prime) (n : ℕ) where
  -- each column of B lies in im A
  abbrev pub ColumnsInImage : PolynomialMatrix p n → PolynomialMatrix p n → Type 0
  ColumnsInImage A B = (c : ℕ) → c < length B.columns → InImage p n A (get_or B.columns c [])

  -- im A is everything: it has each column of the unit matrix
  abbrev pub IsEverything : PolynomialMatrix p n → Type 0
  IsEverything A = ColumnsInImage A (matrix_unit p n A.rows)

  -- The module Ext^i(R/I, R) with its generating morphism (Lyubeznik 1997): Z generates the cocycles of stage 0, N generates all w
  -- with Z * w a coboundary, and U is the move in these coordinates.
  pub record PresentsExt (i : ℕ) (I : ResolvedIdeal p n) (Z N U : PolynomialMatrix p n) : Type 0 where
    pub cocycles_fit : HasShape p n (rank p n I.differentials i) (length Z.columns) Z
    pub relations_fit : HasShape p n (length Z.columns) (length N.columns) N
    pub morphism_fits : HasShape p n (length Z.columns) (length Z.columns) U
    pub cocycles : GeneratesKernel p n Z (matrix_transpose p n (matrix_at p n I.differentials i))
    pub relations : GeneratesPreimage p n N Z (matrix_transpose p n (differential p n I.differentials i))
    pub morphism : matrix_product p n (matrix_transpose p n (matrix_at p n I.lift i)) Z ≡ matrix_product p n (matrix_twist p n 1 Z) U

  -- K_0 .. K_t is a chain of U: each K_(s+1) generates all w with U * w in im K_s^[p].
  pub record IsChain (U : PolynomialMatrix p n) (Ks : List (PolynomialMatrix p n)) (t : ℕ) : Type 0 where
    pub fits : (s : ℕ) → s ≤ t → HasShape p n (length U.columns) (length (matrix_at p n Ks s).columns) (matrix_at p n Ks s)
    pub step : (s : ℕ) → s < t → GeneratesPreimage p n (matrix_at p n Ks (suc s)) U (matrix_twist p n 1 (matrix_at p n Ks s))

  -- K_0, K_1, .. is the whole chain of U: the columns of U * K_0 lie in im K_0^[p], and each K_(s+1) generates all w with U * w in
  -- im K_s^[p].
  pub record IsWholeChain (U : PolynomialMatrix p n) (K : ℕ → PolynomialMatrix p n) : Type 0 where
    pub square : HasShape p n (length U.columns) (length U.columns) U
    pub fits : (s : ℕ) → HasShape p n (length U.columns) (length (K s).columns) (K s)
    pub begins : ColumnsInImage (matrix_twist p n 1 (K 0)) (matrix_product p n U (K 0))
    pub step : (s : ℕ) → GeneratesPreimage p n (K (suc s)) U (matrix_twist p n 1 (K s))

  -- K_0 .. K_(t+1) is a chain of the square matrix U with a repeat at t: the columns of U * K_0 lie in im K_0^[p], and those of K_(t+1)
  -- in im K_t.
  pub record IsRepeatingChain (U : PolynomialMatrix p n) (Ks : List (PolynomialMatrix p n)) (t : ℕ) : Type 0 where
    pub square : HasShape p n (length U.columns) (length U.columns) U
    pub begins : ColumnsInImage (matrix_twist p n 1 (matrix_at p n Ks 0)) (matrix_product p n U (matrix_at p n Ks 0))
    pub chain : IsChain U Ks (suc t)
    pub repeats : ColumnsInImage (matrix_at p n Ks t) (matrix_at p n Ks (suc t))

  -- s steps from w at stage e; a step multiplies by U^[q] and goes to the next stage
  unfoldable pub steps_of : PolynomialMatrix p n → ℕ → ℕ → List (Polynomial p n) → List (Polynomial p n)
  steps_of U zero e w = w
  steps_of U (suc s) e w = steps_of U s (suc e) (vector_product p n (matrix_twist p n e U) w)

  -- no member of the chain before K_t has the columns of the next
  abbrev pub IsFirstRepeat : List (PolynomialMatrix p n) → ℕ → Type 0
  IsFirstRepeat Ks t = (s : ℕ) → s < t → ColumnsInImage (matrix_at p n Ks s) (matrix_at p n Ks (suc s)) → ⊥

  -- The facts of one degree: a resolution with its lift, Ext with its generating morphism, and the chain that begins with the
  -- relations, through its repeat: the columns of K_(t+1) lie in im K_t.
  pub record DegreeFacts (i : ℕ) (I : ResolvedIdeal p n) (Z U : PolynomialMatrix p n) (Ks : List (PolynomialMatrix p n))
      (t : ℕ) : Type 0 where
    pub resolved : IsResolved p n i I
    pub ext : PresentsExt i I Z (matrix_at p n Ks 0) U
    pub chain : IsChain U Ks (suc t)
    pub repeats : ColumnsInImage (matrix_at p n Ks t) (matrix_at p n Ks (suc t))

  -- w are coordinates of the vector z of stage e: z = Z^[q] * w
  abbrev pub AreCoordinates : (Z : PolynomialMatrix p n) (e : ℕ) (z w : List (Polynomial p n)) → Type 0
  AreCoordinates Z e z w = (length w ≡ length Z.columns) × (vector_product p n (matrix_twist p n e Z) w ≡ z)

  -- The facts of an inclusion of the ideal I in the ideal J: a lift of the identity, and its matrix Phi in the coordinates of both.
  pub record MapFacts (i : ℕ) (J I : ResolvedIdeal p n) (ls : List (PolynomialMatrix p n)) (ZJ ZI Phi : PolynomialMatrix p n) : Type 0 where
    pub identity : IsLiftOfIdentityOf p n i I.differentials J.differentials ls
    pub fits : HasShape p n (length ZI.columns) (length ZJ.columns) Phi
    pub square : matrix_product p n (matrix_transpose p n (matrix_at p n ls i)) ZJ ≡ matrix_product p n ZI Phi

  -- A chain W_0 .. W_t of U that begins with a matrix of the image of [N | Phi].
  pub record JoinFacts (N Phi U : PolynomialMatrix p n) (Ws : List (PolynomialMatrix p n)) (t : ℕ) : Type 0 where
    pub begins : (v : List (Polynomial p n)) → InImage p n (matrix_at p n Ws 0) v ↔ InImage p n (matrix_beside p n N Phi) v
    pub chain : IsChain U Ws t

  -- C_0 .. C_(k+1) are colons of im K by powers of f: C_0 spans im K, and each C_(j+1) generates all w with f * w in im C_j.
  pub record IsColons (K : PolynomialMatrix p n) (f : Polynomial p n) (Cs : List (PolynomialMatrix p n)) (k : ℕ) : Type 0 where
    pub fits : (j : ℕ) → j ≤ k + 1 → HasShape p n K.rows (length (matrix_at p n Cs j).columns) (matrix_at p n Cs j)
    pub first : (v : List (Polynomial p n)) → InImage p n (matrix_at p n Cs 0) v ↔ InImage p n K v
    pub step : (j : ℕ) → j ≤ k → GeneratesPreimage p n (matrix_at p n Cs (suc j)) (matrix_scalar p n f K.rows) (matrix_at p n Cs j)

  -- the unit matrix with g rows, written as one column: column after column
  unfoldable pub unit_column : ℕ → PolynomialMatrix p n
  unit_column g = table (polynomials p n) (g * g) 1 (λ i j. cond (eqb (i / g) (i % g)) (polynomials p n).one (polynomials p n).zero)

  -- as many copies of K along the diagonal as K has rows
  unfoldable pub diagonal_blocks : PolynomialMatrix p n → PolynomialMatrix p n
  diagonal_blocks K =
      let g = K.rows in
      let k = length K.columns in
      table (polynomials p n) (g * g) (g * k)
      (λ i j. cond (eqb (i / g) (j / k)) (entry (polynomials p n) K (i % g) (j % k)) (polynomials p n).zero)

  -- P is a row that generates all a with a times the unit matrix in im K, column by column: all a that send the unit matrix, as
  -- one column, into the image of the blocks of K.
  pub record IsAnnihilatorRow (K P : PolynomialMatrix p n) : Type 0 where
    pub fits : HasShape p n 1 (length P.columns) P
    pub generates : GeneratesPreimage p n P (unit_column K.rows) (diagonal_blocks K)

  -- the first entry of each column
  unfoldable pub first_entries : PolynomialMatrix p n → List (Polynomial p n)
  first_entries P = map (λ c. component (polynomials p n) c 0) P.columns
