-- What is found of a limit and of a map of limits, as one thing each: the data that always come together, and what is asked of them.
use Rattle.std.specs.Prelude.{ℕ, List}
use Rattle.fm_gfp.specs.declared.prime.Prime.{Prime}
use Rattle.fm_algebra.specs.Polynomials.{Polynomial, polynomial_power}
use Rattle.fm_algebra.specs.PolynomialMatrices.{PolynomialMatrix, matrix_scalar, matrix_twist, InImage}
use Rattle.fm_limit.specs.System.{MapMatrices}
use Rattle.fm_limit.specs.ResolvedIdeal.{ResolvedIdeal, matrix_at}
use Rattle.fm_limit.specs.Classes.{matrices, lambda_in}
use Rattle.fm_limit.specs.Facts.{ColumnsInImage, DegreeFacts, MapFacts, JoinFacts}
use Rattle.fm_limit.specs.SystemFacts.{SystemFacts, SystemMapFacts}
use Rattle.fm_limit.specs.LimitOf.{LimitOf, ideal_limit, system_from}

-- Coordinates of a limit: `cocycles` is Z, whose columns generate the cocycles of stage 0, `morphism` is U, the move in these
-- coordinates, and `kernels` is the chain K_0, K_1, .. of U, which begins with the relations and repeats at the place `repeat`.
pub record Coordinates (p : Prime) (n : ℕ) : Type 0 where
  pub cocycles : PolynomialMatrix p n
  pub morphism : PolynomialMatrix p n
  pub kernels : List (PolynomialMatrix p n)
  pub repeat : ℕ

-- a degree of a resolved ideal, with coordinates of its limit
pub record FoundDegree (p : Prime) (n : ℕ) : Type 0 where
  pub ideal : ResolvedIdeal p n
  pub found : Coordinates p n

-- any limit, with coordinates
pub record FoundLimit (p : Prime) (n : ℕ) : Type 0 where
  pub limit : LimitOf p n
  pub found : Coordinates p n

-- the map from the limit of one ideal to that of another that a lift of the identity induces; `matrix` is Phi, the map in coordinates
pub record FoundMap (p : Prime) (n : ℕ) : Type 0 where
  pub source : FoundDegree p n
  pub target : FoundDegree p n
  pub lift : List (PolynomialMatrix p n)
  pub matrix : PolynomialMatrix p n

-- a map between any two limits, by its matrix at each stage, and in coordinates
pub record FoundLimitMap (p : Prime) (n : ℕ) : Type 0 where
  pub source : FoundLimit p n
  pub target : FoundLimit p n
  pub map : MapMatrices (matrices p n) (system_from p n source.limit) (system_from p n target.limit)
  pub matrix : PolynomialMatrix p n

module _ (p : Prime) (n : ℕ) where
  -- K_s
  abbrev pub kernel_at : Coordinates p n → ℕ → PolynomialMatrix p n
  kernel_at C s = matrix_at p n C.kernels s

  -- K_t, the member at the repeat: the stable kernel
  abbrev pub stable_kernel : Coordinates p n → PolynomialMatrix p n
  stable_kernel C = kernel_at C C.repeat

  -- w lies in im K_s^[q], for q = p ^ e
  abbrev pub InKernelAt : Coordinates p n → (s e : ℕ) → List (Polynomial p n) → Type 0
  InKernelAt C s e w = InImage p n (matrix_twist p n e (kernel_at C s)) w

  -- a times every vector lies in im K: the columns of a times the unit matrix do
  abbrev pub SendsInto : PolynomialMatrix p n → Polynomial p n → Type 0
  SendsInto K a = ColumnsInImage p n K (matrix_scalar p n a K.rows)

  -- f^k times every vector lies in im K
  abbrev pub PowerSendsInto : PolynomialMatrix p n → Polynomial p n → ℕ → Type 0
  PowerSendsInto K f k = SendsInto K (polynomial_power p n k f)

  -- the facts of degree i hold
  abbrev pub IsFoundDegree : ℕ → FoundDegree p n → Type 0
  IsFoundDegree i D = DegreeFacts p n i D.ideal D.found.cocycles D.found.morphism D.found.kernels D.found.repeat

  -- the facts of the limit hold
  abbrev pub IsFoundLimit : FoundLimit p n → Type 0
  IsFoundLimit D = SystemFacts p n (system_from p n D.limit) D.found.cocycles D.found.morphism D.found.kernels D.found.repeat

  -- the facts of both sides and of the map hold
  pub record IsFoundMap (i : ℕ) (F : FoundMap p n) : Type 0 where
    pub source : IsFoundDegree i F.source
    pub target : IsFoundDegree i F.target
    pub map : MapFacts p n i F.source.ideal F.target.ideal F.lift F.source.found.cocycles F.target.found.cocycles F.matrix

  pub record IsFoundLimitMap (F : FoundLimitMap p n) : Type 0 where
    pub source : IsFoundLimit F.source
    pub target : IsFoundLimit F.target
    pub map : SystemMapFacts p n (system_from p n F.source.limit)
        (system_from p n F.target.limit) F.map F.source.found.cocycles F.target.found.cocycles F.matrix

  -- W_0 .. W_t is the chain of the target's morphism that begins with [N | Phi]
  abbrev pub IsJoin : (target : Coordinates p n) (Phi : PolynomialMatrix p n) → List (PolynomialMatrix p n) → ℕ → Type 0
  IsJoin target Phi Ws t = JoinFacts p n (kernel_at target 0) Phi target.morphism Ws t

  -- the map of an inclusion of ideals as a map of limits
  abbrev pub along : ℕ → FoundMap p n → FoundLimitMap p n
  along i F = record {
    source = record { limit = ideal_limit i F.source.ideal; found = F.source.found };
    target = record { limit = ideal_limit i F.target.ideal; found = F.target.found };
    map = λ e. (matrices p n).flip ((matrices p n).twist e (lambda_in p n i F.source.ideal F.target.ideal F.lift));
    matrix = F.matrix;
  }
