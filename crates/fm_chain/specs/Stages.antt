-- Moves that kill classes.
use Rattle.std.specs.Prelude.{ℕ, ◌<◌, ◌^◌, ◌≡◌, List, [], ◌∷◌, length, option_map}
use Rattle.fm_poly.specs.declared.ring.Ring.{Ring}
use Rattle.fm_algebra.specs.PolynomialMatrices.{InImage, matrix_twist, vector_product}
use Rattle.fm_graphs.specs.Graphs.{MatrixOf}
use Rattle.fm_graphs.specs.Listing.{VectorOf}
use Rattle.fm_limit.specs.ResolvedIdeal.{matrix_at}
use Rattle.fm_mat.specs.Matrices.{column_meaning}
use Rattle.fm_plan.specs.Results as plans
use Rattle.fm_syz.specs.GraphValues.{GraphValue}
use Rattle.fm_syz.specs.declared.lifted.Lifted.{Lifted}
use Rattle.fm_syz.specs.declared.lifted.Lifted.TheVariants as lifts
use Rattle.fm_vec.specs.Components.{AreOver}
use Rattle.fm_chain.specs.Chains.{outside_value}
use Rattle.fm_chain.specs.declared.stages.Killed.{Killed}
use Rattle.fm_chain.specs.declared.stages.Killed.TheVariants as kills

-- a solution has fewer than 2^32 entries
abbrev pub HasFew : Lifted → Type 0
HasFew (lifts.InImage w) = length w.items < 2 ^ 32
HasFew (lifts.NotInImage o) = Unit {0}

module _ (r : Ring) where
  abbrev pub killed_value : Killed → plans.Killed r
  killed_value (kills.At moves w before) = plans.killed_at moves (column_meaning r w.items) (option_map outside_value before)
  killed_value (kills.Never before) = plans.never_killed (option_map outside_value before)

  -- the solution is over r, with fewer than 2^32 entries
  abbrev pub IsKilledOver : Killed → Type 0
  IsKilledOver (kills.At moves w before) = AreOver r w.items × (length w.items < 2 ^ 32)
  IsKilledOver (kills.Never before) = Unit {0}

  -- graphs over r with m rows
  abbrev pub AreGraphsOf : ℕ → List GraphValue → Type 0
  AreGraphsOf m [] = Unit {0}
  AreGraphsOf m (g ∷ gs) = (g.matrix.ring ≡ r) × (g.matrix.rows ≡ m) × AreGraphsOf m gs

-- The coordinates w of a class at stage e, and the kernels K_0, K_1, ..: s moves kill the class exactly where w lies in the image of the twist of K_s
-- by p^e.
module _ (r : Ring) (e : ℕ) (w : VectorOf r) (Ks : List (MatrixOf r)) where
  abbrev pub kernel : ℕ → MatrixOf r
  kernel s = matrix_twist r.prime r.vars e (matrix_at r.prime r.vars Ks s)

  abbrev pub IsKilledBy : ℕ → Type 0
  IsKilledBy s = InImage r.prime r.vars (kernel s) w

  -- the least number of moves that kill it, with a solution; or none of these does
  abbrev pub IsLeast : Killed → Type 0
  IsLeast (kills.At s v before) =
      (s < length Ks) × (vector_product r.prime r.vars (kernel s) (column_meaning r v.items) ≡ w) × (length v.items ≡ length (kernel s).columns)
      × ((k : ℕ) → k < s → ¬ (IsKilledBy k))
  IsLeast (kills.Never before) = (k : ℕ) → k < length Ks → ¬ (IsKilledBy k)
