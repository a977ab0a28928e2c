-- What is asked of the limit: vanishing, induced maps, roots and support ideals.
use Rattle.std.specs.Prelude.{ℕ, ◌↔◌}
use Rattle.fm_algebra.specs.Matrices.{Matrices}
use Rattle.fm_algebra.specs.Image.{InImage}
use Rattle.fm_limit.specs.System as system
use Rattle.fm_limit.specs.DirectSystem.{Degree, degree_system, IsCocycle, IsCoboundary, IsZeroInLimit}

module _ (M : Matrices) where
  open M use {Mat, ◌⊛◌, ◌⊕◌, neg, flip, twist}

  infixl 70 ◌⊛◌
  infixl 60 ◌⊕◌
  -- the limit is zero: every class is zero in it
  abbrev pub LimitIsZero : Degree M → Type 0
  LimitIsZero D = system.LimitIsZero M (degree_system M D)

  -- the limit vanishes after inverting f: for each class (e, z) some (e, f^k * z) is zero in the limit
  abbrev pub VanishesInverting : Degree M → Mat 1 1 → Type 0
  VanishesInverting D = system.VanishesInverting M (degree_system M D)

  -- a sends every class of stage 0 to one that is zero in the limit
  abbrev pub Annihilates : Degree M → Mat 1 1 → Type 0
  Annihilates D = system.Annihilates M (degree_system M D)

  -- s moves make a coboundary of every class of stage 0 that is zero in the limit
  abbrev pub IsEnough : Degree M → ℕ → Type 0
  IsEnough D = system.IsEnough M (degree_system M D)

  -- the map that a lift of the identity induces, from the classes of S to those of T
  abbrev pub mapped : (S T : Degree M) → Mat S.mid T.mid → ℕ → Mat S.mid 1 → Mat T.mid 1
  mapped S T lambda e z = flip (twist e lambda) ⊛ z

  -- every image is zero in the limit
  abbrev pub InducedMapIsZero : (S T : Degree M) → Mat S.mid T.mid → Type 0
  InducedMapIsZero S T lambda = system.MapIsZero M (degree_system M S) (degree_system M T) (λ e. flip (twist e lambda))

  -- only classes that are zero in the limit have images that are zero in the limit
  abbrev pub InducedMapIsOneToOne : (S T : Degree M) → Mat S.mid T.mid → Type 0
  InducedMapIsOneToOne S T lambda = system.MapIsOneToOne M (degree_system M S) (degree_system M T) (λ e. flip (twist e lambda))

  -- every class of the target is the same as some image
  abbrev pub InducedMapIsOnto : (S T : Degree M) → Mat S.mid T.mid → Type 0
  InducedMapIsOnto S T lambda = system.MapIsOnto M (degree_system M S) (degree_system M T) (λ e. flip (twist e lambda))

  -- s moves take every class of stage 0 of the target to the image of a class of stage s plus a coboundary
  abbrev pub IsOntoBy : (S T : Degree M) → Mat S.mid T.mid → ℕ → Type 0
  IsOntoBy S T lambda = system.IsOntoBy M (degree_system M S) (degree_system M T) (λ e. flip (twist e lambda))

  -- (Z, K, U) is a root of the limit (Lyubeznik 1997). `generates` and `moves`: the classes of the columns of Z generate it, and
  -- U is the move in these coordinates. `classes` and `embeds`: im K^[q] is what is zero in the limit at stage e.
  pub record IsRoot (D : Degree M) (g k : ℕ) (Z : Mat D.mid g) (K : Mat g k) (U : Mat g g) : Type 0 where
    pub generates : (e : ℕ) (z : Mat D.mid 1) → IsCocycle M D e z → (w : Mat g 1) × IsCoboundary M D e (z ⊕ neg (twist e Z ⊛ w))
    pub classes : (e : ℕ) (w : Mat g 1) → IsCocycle M D e (twist e Z ⊛ w)
    pub embeds : (e : ℕ) (w : Mat g 1) → IsZeroInLimit M D e (twist e Z ⊛ w) ↔ InImage M (twist e K) w
    pub moves : InImage M (flip (twist 1 D.below)) (flip D.theta ⊛ Z ⊕ neg (twist 1 Z ⊛ U))

  -- An ideal, by its members, is a support ideal: the limit vanishes after inverting f exactly if a power of f is a member.
  abbrev pub IsSupportIdeal : Degree M → (Mat 1 1 → Type 0) → Type 0
  IsSupportIdeal D = system.IsSupportIdeal M (degree_system M D)
