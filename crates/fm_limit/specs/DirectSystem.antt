-- The direct system of the modules Ext^i(R/I^[q], R), by stages: cocycles, coboundaries, classes and moves.
use Rattle.std.specs.Prelude.{ℕ}
use Rattle.fm_algebra.specs.Matrices.{Matrices}
use Rattle.fm_algebra.specs.Image.{InImage, InKernel}
use Rattle.fm_limit.specs.System as system
use Rattle.fm_limit.specs.System.{System}
use Rattle.fm_limit.specs.Resolution.{rank_of, rank_before, Complex, d_below}

module _ (M : Matrices) where
  open M use {Mat, ◌⊛◌, ◌⊕◌, neg, flip, twist}

  infixl 70 ◌⊛◌
  infixl 60 ◌⊕◌
  -- what the classes of one degree are made of: `below` is d_i, `above` is d_(i+1), and `theta` is theta_i
  pub record Degree : Type 0 where
    pub low : ℕ
    pub mid : ℕ
    pub high : ℕ
    pub below : Mat low mid
    pub above : Mat mid high
    pub theta : Mat mid mid

  -- degree i of a resolution P with a Frobenius lift
  abbrev pub degree : (i : ℕ) (P : Complex M) → ((j : ℕ) → Mat (rank_of P.cols j) (rank_of P.cols j)) → Degree
  degree i P theta = record {
    low = rank_before P.cols i;
    mid = rank_of P.cols i;
    high = P.cols i;
    below = d_below M P i;
    above = P.d i;
    theta = theta i;
  }

  -- z is a cocycle of stage e: the transpose of d_(i+1)^[q] sends it to 0, for q = p ^ e
  abbrev pub IsCocycle : (D : Degree) → ℕ → Mat D.mid 1 → Type 0
  IsCocycle D e z = InKernel M (flip (twist e D.above)) z

  -- z is a coboundary of stage e: it is in the image of the transpose of d_i^[q]
  abbrev pub IsCoboundary : (D : Degree) → ℕ → Mat D.mid 1 → Type 0
  IsCoboundary D e z = InImage M (flip (twist e D.below)) z

  -- one move takes the class (e, z) to (e + 1, flip (theta_i^[q]) * z)
  abbrev pub move : (D : Degree) → ℕ → Mat D.mid 1 → Mat D.mid 1
  move D e z = flip (twist e D.theta) ⊛ z

  -- the classes of one degree as a direct system
  abbrev pub degree_system : Degree → System M
  degree_system D = record { size = D.mid; IsCocycle = IsCocycle D; IsCoboundary = IsCoboundary D; step = λ e. flip (twist e D.theta) }

  -- s moves from stage e
  abbrev pub moved : (D : Degree) → ℕ → ℕ → Mat D.mid 1 → Mat D.mid 1
  moved D = system.moved M (degree_system D)

  -- s moves make (e, z) a coboundary
  abbrev pub IsKilledBy : (D : Degree) → ℕ → ℕ → Mat D.mid 1 → Type 0
  IsKilledBy D = system.IsKilledBy M (degree_system D)

  -- (e, z) is zero in the limit: some number of moves makes it a coboundary
  abbrev pub IsZeroInLimit : (D : Degree) → ℕ → Mat D.mid 1 → Type 0
  IsZeroInLimit D = system.IsZeroInLimit M (degree_system D)

  -- (e, z) and (e', z') are the same in the limit: moved to some common stage they differ by a coboundary
  abbrev pub IsSameInLimit : (D : Degree) → ℕ → Mat D.mid 1 → ℕ → Mat D.mid 1 → Type 0
  IsSameInLimit D = system.IsSameInLimit M (degree_system D)
