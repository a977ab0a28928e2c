-- Direct systems by stages, and their limits: which vectors are cocycles and coboundaries of each stage, and the matrix of a move.
use Rattle.std.specs.Prelude.{ℕ, zero, suc, ◌+◌, ◌<◌, ◌≡◌, ◌↔◌}
use Rattle.fm_algebra.specs.Matrices.{Matrices}
use Rattle.fm_algebra.specs.Image.{InImage, pow}

module _ (M : Matrices) where
  open M use {Mat, ◌⊛◌, ◌⊕◌, neg, basis, twist}

  infixl 70 ◌⊛◌
  infixl 60 ◌⊕◌
  -- The module of stage e is made of the cocycles of stage e modulo its coboundaries, and one move takes the class (e, z) to
  -- (e + 1, step e * z).
  pub record System : Type 1 where
    pub size : ℕ
    pub IsCocycle : ℕ → Mat size 1 → Type 0
    pub IsCoboundary : ℕ → Mat size 1 → Type 0
    pub step : ℕ → Mat size size

  -- one move of (e, z)
  abbrev pub move : (S : System) → ℕ → Mat S.size 1 → Mat S.size 1
  move S e z = S.step e ⊛ z

  -- s moves from stage e
  unfoldable pub moved : (S : System) → ℕ → ℕ → Mat S.size 1 → Mat S.size 1
  moved S zero e z = z
  moved S (suc s) e z = moved S s (suc e) (move S e z)

  -- s moves make (e, z) a coboundary
  abbrev pub IsKilledBy : (S : System) → ℕ → ℕ → Mat S.size 1 → Type 0
  IsKilledBy S s e z = S.IsCoboundary (e + s) (moved S s e z)

  -- (e, z) is zero in the limit: some number of moves makes it a coboundary
  abbrev pub IsZeroInLimit : (S : System) → ℕ → Mat S.size 1 → Type 0
  IsZeroInLimit S e z = (s : ℕ) × IsKilledBy S s e z

  -- (e, z) and (e', z') are the same in the limit: moved to some common stage they differ by a coboundary
  abbrev pub IsSameInLimit : (S : System) → ℕ → Mat S.size 1 → ℕ → Mat S.size 1 → Type 0
  IsSameInLimit S e z e' z' = (s : ℕ) × (s' : ℕ) × (e + s ≡ e' + s') × S.IsCoboundary (e + s) (moved S s e z ⊕ neg (moved S s' e' z'))

  -- the limit is zero: every class is zero in it
  abbrev pub LimitIsZero : System → Type 0
  LimitIsZero S = (e : ℕ) (z : Mat S.size 1) → S.IsCocycle e z → IsZeroInLimit S e z

  -- the limit vanishes after inverting f: for each class (e, z) some (e, f^k * z) is zero in the limit
  abbrev pub VanishesInverting : System → Mat 1 1 → Type 0
  VanishesInverting S f = (e : ℕ) (z : Mat S.size 1) → S.IsCocycle e z → (k : ℕ) × IsZeroInLimit S e (z ⊛ pow M f k)

  -- a sends every class of stage 0 to one that is zero in the limit
  abbrev pub Annihilates : System → Mat 1 1 → Type 0
  Annihilates S a = (z : Mat S.size 1) → S.IsCocycle zero z → IsZeroInLimit S zero (z ⊛ a)

  -- s moves make a coboundary of every class of stage 0 that is zero in the limit
  abbrev pub IsEnough : System → ℕ → Type 0
  IsEnough S s = (z : Mat S.size 1) → S.IsCocycle zero z → IsZeroInLimit S zero z → IsKilledBy S s zero z

  -- An ideal, by its members, is a support ideal: the limit vanishes after inverting f exactly if a power of f is a member.
  abbrev pub IsSupportIdeal : System → (Mat 1 1 → Type 0) → Type 0
  IsSupportIdeal S member = (f : Mat 1 1) → VanishesInverting S f ↔ ((k : ℕ) × member (pow M f k))

  -- (Z, K, U) is a root of the limit (Lyubeznik 1997). `generates` and `moves`: the classes of the columns of Z generate it, and
  -- U is the move in these coordinates. `classes` and `embeds`: im K^[q] is what is zero in the limit at stage e.
  pub record IsRoot (S : System) (g k : ℕ) (Z : Mat S.size g) (K : Mat g k) (U : Mat g g) : Type 0 where
    pub generates : (e : ℕ) (z : Mat S.size 1) → S.IsCocycle e z → (w : Mat g 1) × S.IsCoboundary e (z ⊕ neg (twist e Z ⊛ w))
    pub classes : (e : ℕ) (w : Mat g 1) → S.IsCocycle e (twist e Z ⊛ w)
    pub embeds : (e : ℕ) (w : Mat g 1) → IsZeroInLimit S e (twist e Z ⊛ w) ↔ InImage M (twist e K) w
    pub moves : (c : ℕ) (h : c < g) → S.IsCoboundary 1 ((S.step zero ⊛ Z ⊕ neg (twist 1 Z ⊛ U)) ⊛ basis g c h)

  -- ---- a map from the classes of S to those of T, by its matrix at each stage
  abbrev pub MapMatrices : (S T : System) → Type 0
  MapMatrices S T = (e : ℕ) → Mat T.size S.size

  -- every image is zero in the limit
  abbrev pub MapIsZero : (S T : System) → MapMatrices S T → Type 0
  MapIsZero S T f = (e : ℕ) (z : Mat S.size 1) → S.IsCocycle e z → IsZeroInLimit T e (f e ⊛ z)

  -- only classes that are zero in the limit have images that are zero in the limit
  abbrev pub MapIsOneToOne : (S T : System) → MapMatrices S T → Type 0
  MapIsOneToOne S T f = (e : ℕ) (z : Mat S.size 1) → S.IsCocycle e z → IsZeroInLimit T e (f e ⊛ z) → IsZeroInLimit S e z

  -- every class of the target is the same as some image
  abbrev pub MapIsOnto : (S T : System) → MapMatrices S T → Type 0
  MapIsOnto S T f =
      (e : ℕ) (z : Mat T.size 1) → T.IsCocycle e z
      → (e' : ℕ) × (z' : Mat S.size 1) × S.IsCocycle e' z' × IsSameInLimit T e z e' (f e' ⊛ z')

  -- s moves take every class of stage 0 of the target to the image of a class of stage s plus a coboundary
  abbrev pub IsOntoBy : (S T : System) → MapMatrices S T → ℕ → Type 0
  IsOntoBy S T f s =
      (z : Mat T.size 1) → T.IsCocycle zero z
      → (z' : Mat S.size 1) × S.IsCocycle s z' × T.IsCoboundary s (moved T s zero z ⊕ neg (f s ⊛ z'))

  -- ---- presentations
  -- The system has a generating morphism (Lyubeznik 1997): at each stage Z^[q] generates the cocycles, N^[q] all w with Z^[q] * w a
  -- coboundary, and U^[q] is the move in these coordinates.
  pub record IsPresentedBy (S : System) (g n : ℕ) (Z : Mat S.size g) (N : Mat g n) (U : Mat g g) : Type 0 where
    pub cocycles : (e : ℕ) (z : Mat S.size 1) → InImage M (twist e Z) z ↔ S.IsCocycle e z
    pub relations : (e : ℕ) (w : Mat g 1) → InImage M (twist e N) w ↔ S.IsCoboundary e (twist e Z ⊛ w)
    pub moves : (e : ℕ) → S.step e ⊛ twist e Z ≡ twist (suc e) Z ⊛ twist e U

  -- coboundaries are moved to coboundaries
  abbrev pub MovesCoboundaries : System → Type 0
  MovesCoboundaries S = (e : ℕ) (z : Mat S.size 1) → S.IsCoboundary e z → S.IsCoboundary (suc e) (move S e z)

  -- moving and mapping a class, in either order, differ by a coboundary
  abbrev pub MapCommutes : (S T : System) → MapMatrices S T → Type 0
  MapCommutes S T f = (e : ℕ) (z : Mat S.size 1) → S.IsCocycle e z → T.IsCoboundary (suc e)
      (f (suc e) ⊛ move S e z ⊕ neg (move T e (f e ⊛ z)))
