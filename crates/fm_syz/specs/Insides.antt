-- The answer whether columns lie in an image, as the standard run gives it.
use Rattle.std.specs.Prelude.{ℕ, zero, suc, List, [], ◌∷◌, length, ◌≡◌, ◌<◌, ◌^◌, if◌then◌else◌}
use Rattle.fm_algebra.specs.PolynomialMatrices as algebra
use Rattle.fm_algebra.specs.PolynomialMatrices.{matrix_product, vector_product}
use Rattle.fm_complete.specs.Completions.{numbers}
use Rattle.fm_complete.specs.Reductions.{Reduced}
use Rattle.fm_vec.specs.Components.{AreOver}
use Rattle.fm_poly.specs.declared.ring.Ring.{Ring}
use Rattle.fm_mat.specs.Matrices.{AreColumns, column_meaning, columns_meaning}
use Rattle.fm_graphs.specs.Listing.{VectorOf}
use Rattle.fm_graphs.specs.Graphs.{MatrixOf, Graph, Outside, all_inside, first_outside, with_solution, is_inside, solution}
use Rattle.fm_graphs.specs.Graphs as runs
use Rattle.fm_syz.specs.declared.inside.Inside.{Inside}
use Rattle.fm_syz.specs.declared.inside.Inside.TheVariants.{All, First}
use Rattle.fm_syz.specs.declared.lifted.Lifted.{Lifted}
use Rattle.fm_syz.specs.declared.lifted.Lifted.TheVariants.{InImage, NotInImage}

abbrev pub inside_value : (r : Ring) → Inside → runs.Inside r
inside_value r (All ws) = all_inside (columns_meaning r ws.items)
inside_value r (First o) = first_outside (record { column = o.column; by = o.by.items; rest = o.rest.terms })

-- the answer that the division of a vector above zeros gives
abbrev pub answer_of : (r : Ring) → Graph r → Reduced → runs.Inside r
answer_of r g x =
    if is_inside r g x then all_inside (solution r g x ∷ []) else first_outside (record { column = 1; by = numbers x.steps; rest = x.rest })

abbrev pub lifted_value : (r : Ring) → Lifted → runs.Inside r
lifted_value r (InImage w) = all_inside (column_meaning r w.items ∷ [])
lifted_value r (NotInImage o) = first_outside (record { column = o.column; by = o.by.items; rest = o.rest.terms })

-- a solution of A * w = v, or v is not in the image of A
abbrev pub IsLiftOf : (r : Ring) → MatrixOf r → VectorOf r → Lifted → Type 0
IsLiftOf r A v (InImage w) =
    AreOver r w.items × (length w.items ≡ length A.columns) × (vector_product r.prime r.vars A (column_meaning r w.items) ≡ v)
IsLiftOf r A v (NotInImage o) = ¬ (algebra.InImage r.prime r.vars A v)

-- the column with this number, counted from 1, is the first that is not in the image of A
abbrev pub IsFirstOutside : (r : Ring) → MatrixOf r → ℕ → List (VectorOf r) → Type 0
IsFirstOutside r A k [] = ⊥
IsFirstOutside r A zero (v ∷ vs) = ⊥
IsFirstOutside r A (suc zero) (v ∷ vs) = ¬ (algebra.InImage r.prime r.vars A v)
IsFirstOutside r A (suc (suc k)) (v ∷ vs) = algebra.InImage r.prime r.vars A v × IsFirstOutside r A (suc k) vs

-- solutions are columns over r with m entries, fewer than 2^32
abbrev pub HasColumns : (r : Ring) → ℕ → Inside → Type 0
HasColumns r m (All ws) = AreColumns r m ws.items × (length ws.items < 2 ^ 32)
HasColumns r m (First o) = Unit {0}

-- a solution of A * W = M, or the first column of M that is not in the image of A
abbrev pub IsInsideOf : (r : Ring) → MatrixOf r → MatrixOf r → Inside → Type 0
IsInsideOf r A M (All ws) = matrix_product r.prime r.vars A (record { rows = length A.columns; columns = columns_meaning r ws.items }) ≡ M
IsInsideOf r A M (First o) = IsFirstOutside r A o.column M.columns

abbrev pub with_solutions : (r : Ring) → List (VectorOf r) → runs.Inside r → runs.Inside r
with_solutions r [] y = y
with_solutions r (w ∷ ws) y = with_solution r w (with_solutions r ws y)
