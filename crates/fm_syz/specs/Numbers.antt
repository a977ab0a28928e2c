-- Columns by their numbers, counted from 1.
use Rattle.std.specs.Prelude.{ℕ, zero, suc, ◌-◌, ◌<◌, ◌≤◌, List, [], ◌∷◌, map, get_or}
use Rattle.fm_poly.specs.declared.ring.Ring.{Ring}
use Rattle.fm_graphs.specs.Listing.{VectorOf}
use Rattle.fm_graphs.specs.Graphs.{MatrixOf}

-- count numbers in a row
abbrev pub numbers_from : (first count : ℕ) → List ℕ
numbers_from first zero = []
numbers_from first (suc count) = first ∷ numbers_from (suc first) count

-- the numbers rise, above low and up to high
abbrev pub AreRising : (low high : ℕ) → List ℕ → Type 0
AreRising low high [] = low ≤ high
AreRising low high (k ∷ ks) = (low < k) × AreRising k high ks

abbrev pub column_at : (r : Ring) → MatrixOf r → ℕ → VectorOf r
column_at r A k = get_or A.columns (k - 1) []

-- the columns with these numbers
abbrev pub columns_at : (r : Ring) → MatrixOf r → List ℕ → MatrixOf r
columns_at r A ks = record { rows = A.rows; columns = map (column_at r A) ks }
