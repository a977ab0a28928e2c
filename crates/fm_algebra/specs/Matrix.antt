-- Vectors and matrices over a ring: the entries of sums, products, transposes and joins; images and kernels (any textbook
-- of linear algebra).
use Rattle.std.specs.Prelude.{ℕ, zero, ◌+◌, ◌-◌, ◌<◌, ◌≡◌, List, [], ◌∷◌, map, length, replicate, get_or, cond, eqb, ltb}
use Rattle.std.specs.List.{range_with_len}
use Rattle.fm_algebra.specs.Ring.{Ring}
use Rattle.fm_algebra.specs.FiniteSums.{finite_sum}

-- a number of rows and a list of columns; either number may be 0
pub record Matrix (R : Ring) : Type 0 where
  pub rows : ℕ
  pub columns : List (List R.Carrier)

-- the list f 0, .., f (n - 1)
unfoldable pub listed : {X : Type 0} → ℕ → (ℕ → X) → List X
listed n f = map f (range_with_len zero n)

module _ (R : Ring) where
  -- the number of columns
  abbrev pub cols : Matrix R → ℕ
  cols A = length A.columns

  -- entry i of a vector; zero outside
  unfoldable pub component : List R.Carrier → ℕ → R.Carrier
  component v i = get_or v i R.zero

  -- the entry in row i and column j, counted from 0; zero outside
  unfoldable pub entry : Matrix R → ℕ → ℕ → R.Carrier
  entry A i j = get_or (get_or A.columns j []) i R.zero

  -- the matrix with m rows and n columns whose entries are f i j
  unfoldable pub table : ℕ → ℕ → (ℕ → ℕ → R.Carrier) → Matrix R
  table m n f = record { rows = m; columns = listed n (λ j. listed m (λ i. f i j)) }

  -- A has m rows and n columns, each of m entries
  abbrev pub IsShaped : ℕ → ℕ → Matrix R → Type 0
  IsShaped m n A = (A.rows ≡ m) × (cols A ≡ n) × ((j : ℕ) → j < n → length (get_or A.columns j []) ≡ m)

  -- the matrix with the one column v
  unfoldable pub column_matrix : List R.Carrier → Matrix R
  column_matrix v = record { rows = length v; columns = v ∷ [] }

  -- the entry of A * B in row i and column j is the sum of A i k * B k j over all k
  unfoldable pub product : Matrix R → Matrix R → Matrix R
  product A B = table A.rows (cols B) (λ i j. finite_sum R (cols A) (λ k h. R.mul (entry A i k) (entry B k j)))

  -- A * w
  unfoldable pub apply : Matrix R → List R.Carrier → List R.Carrier
  apply A w = listed A.rows (λ i. finite_sum R (cols A) (λ k h. R.mul (entry A i k) (component w k)))

  -- A + B
  unfoldable pub sum : Matrix R → Matrix R → Matrix R
  sum A B = table A.rows (cols A) (λ i j. R.add (entry A i j) (entry B i j))

  -- - A
  unfoldable pub negative : Matrix R → Matrix R
  negative A = table A.rows (cols A) (λ i j. R.neg (entry A i j))

  -- the zero matrix
  unfoldable pub zero_matrix : ℕ → ℕ → Matrix R
  zero_matrix m n = table m n (λ i j. R.zero)

  -- f times the unit matrix
  unfoldable pub scalar_matrix : R.Carrier → ℕ → Matrix R
  scalar_matrix f n = table n n (λ i j. cond (eqb i j) f R.zero)

  -- the unit matrix
  unfoldable pub unit_matrix : ℕ → Matrix R
  unit_matrix n = scalar_matrix R.one n

  -- the transpose
  unfoldable pub transpose : Matrix R → Matrix R
  transpose A = table (cols A) A.rows (λ i j. entry A j i)

  -- each entry by a map of the ring, as a twist
  unfoldable pub entrywise : (R.Carrier → R.Carrier) → Matrix R → Matrix R
  entrywise t A = table A.rows (cols A) (λ i j. t (entry A i j))

  -- [A | B]
  unfoldable pub joined : Matrix R → Matrix R → Matrix R
  joined A B = table A.rows (cols A + cols B) (λ i j. cond (ltb j (cols A)) (entry A i j) (entry B i (j - cols A)))

  -- A above B
  unfoldable pub stacked : Matrix R → Matrix R → Matrix R
  stacked A B = table (A.rows + B.rows) (cols A) (λ i j. cond (ltb i A.rows) (entry A i j) (entry B (i - A.rows) j))

  -- the columns of A with the given numbers, counted from 0
  unfoldable pub picked : Matrix R → List ℕ → Matrix R
  picked A js = record { rows = A.rows; columns = map (λ j. get_or A.columns j []) js }

  -- v is in im A: v = A * w for some w
  abbrev pub InListImage : Matrix R → List R.Carrier → Type 0
  InListImage A v = (w : List R.Carrier) × (length w ≡ cols A) × (apply A w ≡ v)

  -- w is in ker A: A * w = 0
  abbrev pub InListKernel : Matrix R → List R.Carrier → Type 0
  InListKernel A w = (length w ≡ cols A) × (apply A w ≡ replicate A.rows R.zero)

  -- A * w is in im B
  abbrev pub InListPreimage : Matrix R → Matrix R → List R.Carrier → Type 0
  InListPreimage A B w = (length w ≡ cols A) × InListImage B (apply A w)
