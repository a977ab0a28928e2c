-- Direct systems over GF(p)[x1 .. xn] in words of lists: classes, the finite facts from which verdicts follow, and when verdicts hold.
use Rattle.std.specs.Prelude.{ℕ, suc, ◌+◌, ◌≡◌, ◌↔◌, Bool, IsTrue, List, length, Option, Some, None}
use Rattle.fm_gfp.specs.declared.prime.Prime.{Prime}
use Rattle.fm_algebra.specs.Families.{read, vector, element}
use Rattle.fm_algebra.specs.Image as image
use Rattle.fm_algebra.specs.Polynomials.{Polynomial, polynomials, polynomial_power}
use Rattle.fm_algebra.specs.PolynomialMatrices.{PolynomialMatrix, HasShape}
use Rattle.fm_limit.specs.System.{System, IsKilledBy, IsZeroInLimit, LimitIsZero, VanishesInverting, Annihilates, IsEnough, IsSupportIdeal, IsRoot, IsPresentedBy, MovesCoboundaries, MapMatrices, MapIsZero, MapIsOneToOne, MapIsOnto, IsOntoBy, MapCommutes}
use Rattle.fm_limit.specs.ResolvedIdeal.{matrix_at, row, InIdeal}
use Rattle.fm_limit.specs.Classes.{matrices, width, with_rows, as_square}
use Rattle.fm_limit.specs.Facts.{ColumnsInImage, IsChain}
use Rattle.fm_limit.specs.Verdicts.{IsLeast}

module _ (p : Prime) (n : ℕ) where
  -- the list z as a vector of S
  abbrev pub vector_of : (S : System (matrices p n)) → List (Polynomial p n) → (matrices p n).Mat S.size 1
  vector_of S z = vector (polynomials p n) S.size z

  -- (e, z) is a class of S
  pub record IsClassOf (S : System (matrices p n)) (e : ℕ) (z : List (Polynomial p n)) : Type 0 where
    pub fits : length z ≡ S.size
    pub cocycle : S.IsCocycle e (vector_of S z)

  -- Z, N and U present the system
  abbrev pub Presents : System (matrices p n) → (Z N U : PolynomialMatrix p n) → Type 0
  Presents S Z N U =
      let g = width p n Z in
      IsPresentedBy (matrices p n) S g (width p n N) (with_rows p n S.size Z) (with_rows p n g N) (as_square p n g U)

  -- The facts of a system: coboundaries are moved to coboundaries; Z, K_0 and U present it; the chain through its repeat: the columns
  -- of K_(t+1) lie in im K_t.
  pub record SystemFacts (S : System (matrices p n)) (Z U : PolynomialMatrix p n) (Ks : List (PolynomialMatrix p n)) (t : ℕ) : Type 0 where
    pub cocycles_fit : HasShape p n S.size (length Z.columns) Z
    pub morphism_fits : HasShape p n (length Z.columns) (length Z.columns) U
    pub moves : MovesCoboundaries (matrices p n) S
    pub presents : Presents S Z (matrix_at p n Ks 0) U
    pub chain : IsChain p n U Ks (suc t)
    pub repeats : ColumnsInImage p n (matrix_at p n Ks t) (matrix_at p n Ks (suc t))

  -- ---- verdicts on the limit of a system
  -- the limit is zero, yes or no, and t is the least number of moves that is enough
  abbrev pub ZeroHolds : System (matrices p n) → Bool → ℕ → Type 0
  ZeroHolds S answer t = (IsTrue answer ↔ LimitIsZero (matrices p n) S) × IsLeast (IsEnough (matrices p n) S) t

  -- from stage e on, (e, z) is a coboundary first at the given stage; or it never is
  abbrev pub StageHolds : (S : System (matrices p n)) (e : ℕ) → List (Polynomial p n) → Option ℕ → Type 0
  StageHolds S e z (Some stage) = (s : ℕ) × (e + s ≡ stage) × IsLeast (λ s. IsKilledBy (matrices p n) S s e (vector_of S z)) s
  StageHolds S e z None = IsZeroInLimit (matrices p n) S e (vector_of S z) → ⊥

  abbrev pub ClassHolds : (S : System (matrices p n)) (e : ℕ) → List (Polynomial p n) → Option ℕ → Type 0
  ClassHolds S e z stage = IsClassOf S e z × StageHolds S e z stage

  -- the limit vanishes after inverting f, and k is the least power that annihilates every class of stage 0; or it does not vanish
  abbrev pub InvertingHolds : System (matrices p n) → Polynomial p n → Option ℕ → Type 0
  InvertingHolds S f (Some k) =
      VanishesInverting (matrices p n) S (element (polynomials p n) f)
      × IsLeast (λ k. Annihilates (matrices p n) S (element (polynomials p n) (polynomial_power p n k f))) k
  InvertingHolds S f None = VanishesInverting (matrices p n) S (element (polynomials p n) f) → ⊥

  -- the ideal is a support ideal, and its members are the a that annihilate
  abbrev pub SupportHolds : System (matrices p n) → List (Polynomial p n) → Type 0
  SupportHolds S fs =
      IsSupportIdeal (matrices p n) S (λ a. image.InImage (matrices p n) (read (polynomials p n) 1 (length fs) (row p n fs)) a)
      × ((a : Polynomial p n) → InIdeal p n fs a ↔ Annihilates (matrices p n) S (element (polynomials p n) a))

  -- (Z, K, U) is a root of the limit, in matrices whose shapes fit
  pub record IsRootIn (S : System (matrices p n)) (Z K U : PolynomialMatrix p n) : Type 0 where
    pub generators_fit : HasShape p n S.size (length Z.columns) Z
    pub kernel_fits : HasShape p n (length Z.columns) (length K.columns) K
    pub morphism_fits : HasShape p n (length Z.columns) (length Z.columns) U
    pub root : IsRoot (matrices p n) S (width p n Z) (width p n K) (with_rows p n S.size Z) (with_rows p n (width p n Z) K)
        (as_square p n (width p n Z) U)

  -- ---- maps between systems
  -- f * ZS^[q] = ZT^[q] * Phi^[q] at stage e
  abbrev pub IsSquareAt : (S T : System (matrices p n)) → MapMatrices (matrices p n) S T → (ZS ZT Phi : PolynomialMatrix p n) → ℕ → Type 0
  IsSquareAt S T f ZS ZT Phi e =
      let M = matrices p n in
      M.◌⊛◌ (f e) (M.twist e (with_rows p n S.size ZS))
      ≡ M.◌⊛◌ (M.twist e (with_rows p n T.size ZT)) (M.twist e (read (polynomials p n) (width p n ZT) (width p n ZS) Phi))

  -- The facts of a map: moving and mapping differ by coboundaries, and Phi is the map in the coordinates of both sides.
  pub record SystemMapFacts (S T : System (matrices p n)) (f : MapMatrices (matrices p n) S T)
      (ZS ZT Phi : PolynomialMatrix p n) : Type 0 where
    pub fits : HasShape p n (length ZT.columns) (length ZS.columns) Phi
    pub commutes : MapCommutes (matrices p n) S T f
    pub squares : (e : ℕ) → IsSquareAt S T f ZS ZT Phi e

  -- the map takes classes to classes
  abbrev pub TakesClasses : (S T : System (matrices p n)) → MapMatrices (matrices p n) S T → Type 0
  TakesClasses S T f = (e : ℕ) (z : (matrices p n).Mat S.size 1) → S.IsCocycle e z → T.IsCocycle e ((matrices p n).◌⊛◌ (f e) z)

  -- the map is onto, and s is the least number of moves that shows it on stage 0; or it is not onto
  abbrev pub OntoHolds : (S T : System (matrices p n)) → MapMatrices (matrices p n) S T → Option ℕ → Type 0
  OntoHolds S T f (Some s) = MapIsOnto (matrices p n) S T f × IsLeast (IsOntoBy (matrices p n) S T f) s
  OntoHolds S T f None = MapIsOnto (matrices p n) S T f → ⊥

  -- the map takes classes to classes, is zero or not, one to one or not, and onto or not
  abbrev pub MapHolds : (S T : System (matrices p n)) → MapMatrices (matrices p n) S T → (is_zero is_one : Bool) → Option ℕ → Type 0
  MapHolds S T f is_zero is_one onto =
      TakesClasses S T f
      × (IsTrue is_zero ↔ MapIsZero (matrices p n) S T f)
      × (IsTrue is_one ↔ MapIsOneToOne (matrices p n) S T f)
      × OntoHolds S T f onto
