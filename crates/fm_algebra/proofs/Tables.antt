-- Matrices of lists and families of entries: each operation is read as that of families
use Rattle.std.proofs.Common.{ℕ, zero, suc, ◌+◌, ◌-◌, ◌<◌, ◌≤◌, ◌≡◌, ◌∙◌, ◌⊎◌, refl, sym, ap, ap₂, subst, arith, zero-add, cond, eqb, ltb, List, [], ◌∷◌, length, replicate, map, get_or, inl, inr}
use native.Mathlib.Bridge.{le_prop}
use Rattle.std.proofs.Math.ListN.{get_or-map}
use Rattle.std.proofs.lemmas.Bool.{cases_lt, lt-ltb, le-ltb}
use Rattle.std.proofs.lemmas.List.{get_or-map as get_or_map, ext_get_or, get_or-replicate}
use Rattle.std.proofs.lemmas.List.FromFn.{length-map-range_with_len, get_or-map-range_with_len}
use Rattle.fm_algebra.specs.Ring.{Ring}
use Rattle.fm_algebra.specs.FiniteSums.{finite_sum}
use Rattle.fm_algebra.specs.Matrix.{Matrix, cols, component, entry, listed, table, IsShaped, column_matrix, product, apply, sum, negative, zero_matrix, scalar_matrix, unit_matrix, transpose, entrywise, joined, stacked, picked}
use Rattle.fm_algebra.specs.Families.{Mat, mul, add, neg, nil, unit, flip, each, scalar, either, beside, stack, read, vector, element}

pub length-listed : {X : Type 0} (n : ℕ) (f : ℕ → X) → length (listed n f) ≡ n
unfolding listed
length-listed n f = length-map-range_with_len f zero n

pub get_or-listed : {X : Type 0} (n i : ℕ) (d : X) (f : ℕ → X) → i < n → get_or (listed n f) i d ≡ f i
unfolding listed
get_or-listed n i d f h = get_or-map-range_with_len f zero n i i d h (zero-add i)

module _ (R : Ring) where
  pub entry_table : (m n i j : ℕ) (f : ℕ → ℕ → R.Carrier) → i < m → j < n → entry R (table R m n f) i j ≡ f i j
  unfolding entry table
  entry_table m n i j f a b =
      ap (λ c. get_or c i R.zero) (get_or-listed n j [] (λ j. listed m (λ i. f i j)) b) ∙ get_or-listed m i R.zero (λ i. f i j) a

  pub table_shaped : (r c m n : ℕ) (f : ℕ → ℕ → R.Carrier) → r ≡ m → c ≡ n → IsShaped R m n (table R r c f)
  unfolding table
  table_shaped r c m n f p q = (
    p,
    length-listed c (λ j. listed r (λ i. f i j)) ∙ q,
    λ j h. ap length (get_or-listed c j [] (λ j. listed r (λ i. f i j)) (subst (λ x. j < x) (sym q) h))
        ∙ length-listed r (λ i. f i j)
        ∙ p,
  )

  -- the numbers of rows and columns of a table
  pub rows_table : (m n : ℕ) (f : ℕ → ℕ → R.Carrier) → (table R m n f).rows ≡ m
  unfolding table
  rows_table m n f = refl

  pub cols_table : (m n : ℕ) (f : ℕ → ℕ → R.Carrier) → cols R (table R m n f) ≡ n
  unfolding table
  cols_table m n f = length-listed n (λ j. listed m (λ i. f i j))

  -- matrices of one shape with the same entries
  pub matrix_ext : (m n : ℕ) (A B : Matrix R) → IsShaped R m n A → IsShaped R m n B
      → ((i j : ℕ) → i < m → j < n → entry R A i j ≡ entry R B i j) → A ≡ B
  unfolding entry
  matrix_ext m n A B a b h = λ t. record { rows = (a.0 ∙ sym b.0) t; columns = columns t }
    where
      column : (j : ℕ) → j < n → get_or A.columns j [] ≡ get_or B.columns j []
      column j c =
          ext_get_or R.zero (get_or A.columns j []) (get_or B.columns j []) (a.2 j c ∙ sym (b.2 j c)) (λ i d. h i j (subst (λ x. i < x) (a.2 j c) d) c)

      columns : A.columns ≡ B.columns
      columns = ext_get_or [] A.columns B.columns (a.1 ∙ sym b.1) (λ j c. column j (subst (λ x. j < x) a.1 c))

  pub read_injective : (m n : ℕ) (A B : Matrix R) → IsShaped R m n A → IsShaped R m n B → read R m n A ≡ read R m n B → A ≡ B
  read_injective m n A B a b e = matrix_ext m n A B a b (λ i j c d. ap (λ X. X i c j d) e)

  -- ---- reading an operation
  pub read_table : (r c m n : ℕ) (f : ℕ → ℕ → R.Carrier) → r ≡ m → c ≡ n → read R m n (table R r c f) ≡ (λ i a j b. f i j)
  read_table r c m n f p q = λ t i a j b. entry_table r c i j f (subst (λ x. i < x) (sym p) a) (subst (λ x. j < x) (sym q) b) t

  pub read_product : (m n k : ℕ) (A B : Matrix R) → A.rows ≡ m → cols R A ≡ n → cols R B ≡ k
      → read R m k (product R A B) ≡ mul R (read R m n A) (read R n k B)
  unfolding product mul
  read_product m n k A B p q r =
      read_table A.rows (cols R B) m k (λ i j. finite_sum R (cols R A) (λ s h. R.mul (entry R A i s) (entry R B s j))) p r
      ∙ (λ t i a j b. sum_cast_at i j t)
    where
      sum_cast_at : (i j : ℕ) → finite_sum R (cols R A) (λ s h. R.mul (entry R A i s) (entry R B s j)) ≡ finite_sum R n (λ s h. R.mul (entry R A i s) (entry R B s j))
      sum_cast_at i j = ap (λ x. finite_sum R x (λ s h. R.mul (entry R A i s) (entry R B s j))) q

  pub product_shaped : (m k : ℕ) (A B : Matrix R) → A.rows ≡ m → cols R B ≡ k → IsShaped R m k (product R A B)
  unfolding product
  product_shaped m k A B p q = table_shaped A.rows (cols R B) m k (λ i j. finite_sum R (cols R A) (λ s h. R.mul (entry R A i s) (entry R B s j))) p q

  pub read_sum : (m n : ℕ) (A B : Matrix R) → A.rows ≡ m → cols R A ≡ n → read R m n (sum R A B) ≡ add R (read R m n A) (read R m n B)
  unfolding sum add
  read_sum m n A B p q = read_table A.rows (cols R A) m n (λ i j. R.add (entry R A i j) (entry R B i j)) p q

  pub read_negative : (m n : ℕ) (A : Matrix R) → A.rows ≡ m → cols R A ≡ n → read R m n (negative R A) ≡ neg R (read R m n A)
  unfolding negative neg
  read_negative m n A p q = read_table A.rows (cols R A) m n (λ i j. R.neg (entry R A i j)) p q

  pub read_zero : (m n : ℕ) → read R m n (zero_matrix R m n) ≡ nil R m n
  unfolding zero_matrix nil
  read_zero m n = read_table m n m n (λ i j. R.zero) refl refl

  pub read_scalar : (f : R.Carrier) (n : ℕ) → read R n n (scalar_matrix R f n) ≡ scalar R (element R f) n
  unfolding scalar_matrix scalar
  read_scalar f n = read_table n n n n (λ i j. cond (eqb i j) f R.zero) refl refl

  pub read_unit : (n : ℕ) → read R n n (unit_matrix R n) ≡ unit R n
  unfolding unit_matrix scalar_matrix unit
  read_unit n = read_table n n n n (λ i j. cond (eqb i j) R.one R.zero) refl refl

  pub read_transpose : (m n : ℕ) (A : Matrix R) → A.rows ≡ m → cols R A ≡ n → read R n m (transpose R A) ≡ flip R (read R m n A)
  unfolding transpose flip
  read_transpose m n A p q = read_table (cols R A) A.rows n m (λ i j. entry R A j i) q p

  pub read_entrywise : (t : R.Carrier → R.Carrier) (m n : ℕ) (A : Matrix R) → A.rows ≡ m → cols R A ≡ n
      → read R m n (entrywise R t A) ≡ each R t (read R m n A)
  unfolding entrywise each
  read_entrywise t m n A p q = read_table A.rows (cols R A) m n (λ i j. t (entry R A i j)) p q

  -- a choice by a test is a choice by cases
  choose : (n k : ℕ) (j : ℕ) (b : j < n + k) (t : (j < n) ⊎ (n ≤ j)) (f g : ℕ → R.Carrier)
      → cond (ltb j n) (f j) (g (j - n)) ≡ either R {n = n} {k = k} j b t (λ j h. f j) (λ j h. g j)
  unfolding either
  choose n k j b (inl h) f g = ap (λ x. cond x (f j) (g (j - n))) (lt-ltb j n h)
  choose n k j b (inr h) f g = ap (λ x. cond x (f j) (g (j - n))) (le-ltb j n h)

  pub read_joined : (m n k : ℕ) (A B : Matrix R) → A.rows ≡ m → cols R A ≡ n → cols R B ≡ k
      → read R m (n + k) (joined R A B) ≡ beside R (read R m n A) (read R m k B)
  unfolding joined beside
  read_joined m n k A B p q r =
      read_table A.rows (cols R A + cols R B) m (n + k) (λ i j. cond (ltb j (cols R A)) (entry R A i j) (entry R B i (j - cols R A))) p (ap₂ (λ x y. x + y) q r)
      ∙ (λ t i a j b. ap (λ x. cond (ltb j x) (entry R A i j) (entry R B i (j - x))) q t)
      ∙ (λ t i a j b. choose n k j b (cases_lt j n) (λ j. entry R A i j) (λ j. entry R B i j) t)

  pub read_stacked : (m n k : ℕ) (A B : Matrix R) → A.rows ≡ m → B.rows ≡ k → cols R A ≡ n
      → read R (m + k) n (stacked R A B) ≡ stack R (read R m n A) (read R k n B)
  unfolding stacked stack
  read_stacked m n k A B p q r =
      read_table (A.rows + B.rows) (cols R A) (m + k) n (λ i j. cond (ltb i A.rows) (entry R A i j) (entry R B (i - A.rows) j)) (ap₂ (λ x y. x + y) p q) r
      ∙ (λ t i a j b. ap (λ x. cond (ltb i x) (entry R A i j) (entry R B (i - x) j)) p t)
      ∙ (λ t i a j b. choose m k i a (cases_lt i m) (λ i. entry R A i j) (λ i. entry R B i j) t)

  pub column_shaped : (n : ℕ) (v : List R.Carrier) → length v ≡ n → IsShaped R n 1 (column_matrix R v)
  unfolding column_matrix
  column_shaped n v e = (e, refl, λ j h. let z : zero ≡ j = omega arith in subst (λ x. length (get_or (v ∷ []) x []) ≡ n) z e)

  pub read_column : (n : ℕ) (v : List R.Carrier) → read R n 1 (column_matrix R v) ≡ vector R n v
  unfolding column_matrix entry component
  read_column n v =
      λ t i a j b. (let z : j ≡ zero = omega arith in ap (λ x. get_or (get_or (v ∷ []) x []) i R.zero) z) t

  -- ---- vectors
  pub length-apply : (A : Matrix R) (w : List R.Carrier) → length (apply R A w) ≡ A.rows
  unfolding apply
  length-apply A w = length-listed A.rows (λ i. finite_sum R (cols R A) (λ k h. R.mul (entry R A i k) (component R w k)))

  pub vector_listed : (m : ℕ) (f : ℕ → R.Carrier) → vector R m (listed m f) ≡ (λ i a j b. f i)
  unfolding component
  vector_listed m f = λ t i a j b. get_or-listed m i R.zero f a t

  pub vector_injective : (m : ℕ) (u v : List R.Carrier) → length u ≡ m → length v ≡ m → vector R m u ≡ vector R m v → u ≡ v
  unfolding component
  vector_injective m u v p q e =
      ext_get_or R.zero u v (p ∙ sym q) (λ i c. let o : zero < 1 = omega arith in ap (λ X. X i (subst (λ x. i < x) p c) zero o) e)

  pub vector_apply : (m n : ℕ) (A : Matrix R) (w : List R.Carrier) → A.rows ≡ m → cols R A ≡ n
      → vector R m (apply R A w) ≡ mul R (read R m n A) (vector R n w)
  unfolding apply mul
  vector_apply m n A w p q =
      ap (λ x. vector R m (listed x (λ i. finite_sum R (cols R A) (λ k h. R.mul (entry R A i k) (component R w k))))) p
      ∙ vector_listed m (λ i. finite_sum R (cols R A) (λ k h. R.mul (entry R A i k) (component R w k)))
      ∙ (λ t i a j b. ap (λ x. finite_sum R x (λ k h. R.mul (entry R A i k) (component R w k))) q t)

  pub vector_zero : (m : ℕ) → vector R m (replicate m R.zero) ≡ nil R m 1
  unfolding component nil
  vector_zero m = λ t i a j b. get_or-replicate m i R.zero R.zero a t

  pub vector_map : (t : R.Carrier → R.Carrier) → t R.zero ≡ R.zero → (m : ℕ) (v : List R.Carrier) → vector R m (map t v) ≡ each R t (vector R m v)
  unfolding component each
  vector_map t z m v =
      λ s i a j b. (ap (λ x. get_or (map t v) i x) (sym z) ∙ component_map t v i) s
    where
      component_map : (t : R.Carrier → R.Carrier) (v : List R.Carrier) (i : ℕ) → get_or (map t v) i (t R.zero) ≡ t (get_or v i R.zero)
      component_map t v i = get_or-map t v i R.zero

  -- ---- a family as a matrix of lists
  pick : (n j : ℕ) → (j < n → R.Carrier) → (j < n) ⊎ (n ≤ j) → R.Carrier
  pick n j f (inl h) = f h
  pick n j f (inr h) = R.zero

  pick_below : (n j : ℕ) (f : j < n → R.Carrier) (t : (j < n) ⊎ (n ≤ j)) (h : j < n) → pick n j f t ≡ f h
  unfolding pick
  pick_below n j f (inl g) h = ap f (le_prop {n = suc j} {m = n} g h)
  pick_below n j f (inr g) h = absurd (omega arith)

  -- the entries of a family; zero outside
  pub entry_of : {m n : ℕ} → Mat R m n → ℕ → ℕ → R.Carrier
  entry_of {m} {n} X i j = pick m i (λ a. pick n j (λ b. X i a j b) (cases_lt j n)) (cases_lt i m)

  pub entry_of_is : {m n : ℕ} (X : Mat R m n) (i : ℕ) (a : i < m) (j : ℕ) (b : j < n) → entry_of X i j ≡ X i a j b
  unfolding entry_of
  entry_of_is {m} {n} X i a j b =
      pick_below m i (λ a. pick n j (λ b. X i a j b) (cases_lt j n)) (cases_lt i m) a ∙ pick_below n j (λ b. X i a j b) (cases_lt j n) b

  -- the matrix of lists with the entries of a family
  pub write : (m n : ℕ) → Mat R m n → Matrix R
  write m n X = table R m n (entry_of X)

  pub write_shaped : (m n : ℕ) (X : Mat R m n) → IsShaped R m n (write m n X)
  unfolding write
  write_shaped m n X = table_shaped m n m n (entry_of X) refl refl

  pub read_write : (m n : ℕ) (X : Mat R m n) → read R m n (write m n X) ≡ X
  unfolding write
  read_write m n X = read_table m n m n (entry_of X) refl refl ∙ (λ t i a j b. entry_of_is X i a j b t)

  -- a vector of the families as a list
  pub list_of : (n : ℕ) → Mat R n 1 → List R.Carrier
  list_of n X = listed n (λ i. entry_of X i zero)

  pub length-list_of : (n : ℕ) (X : Mat R n 1) → length (list_of n X) ≡ n
  unfolding list_of
  length-list_of n X = length-listed n (λ i. entry_of X i zero)

  pub vector_list_of : (n : ℕ) (X : Mat R n 1) → vector R n (list_of n X) ≡ X
  unfolding list_of
  vector_list_of n X = vector_listed n (λ i. entry_of X i zero) ∙ (λ t i a j b. go i a j b t)
    where
      go : (i : ℕ) (a : i < n) (j : ℕ) (b : j < 1) → entry_of X i zero ≡ X i a j b
      go i a j b = let z : zero ≡ j = omega arith in ap (λ x. entry_of X i x) z ∙ entry_of_is X i a j b

  -- ---- shapes of results
  pub sum_shaped : (m n : ℕ) (A B : Matrix R) → A.rows ≡ m → cols R A ≡ n → IsShaped R m n (sum R A B)
  unfolding sum
  sum_shaped m n A B p q = table_shaped A.rows (cols R A) m n (λ i j. R.add (entry R A i j) (entry R B i j)) p q

  pub negative_shaped : (m n : ℕ) (A : Matrix R) → A.rows ≡ m → cols R A ≡ n → IsShaped R m n (negative R A)
  unfolding negative
  negative_shaped m n A p q = table_shaped A.rows (cols R A) m n (λ i j. R.neg (entry R A i j)) p q

  pub zero_shaped : (m n : ℕ) → IsShaped R m n (zero_matrix R m n)
  unfolding zero_matrix
  zero_shaped m n = table_shaped m n m n (λ i j. R.zero) refl refl

  pub scalar_shaped : (f : R.Carrier) (n : ℕ) → IsShaped R n n (scalar_matrix R f n)
  unfolding scalar_matrix
  scalar_shaped f n = table_shaped n n n n (λ i j. cond (eqb i j) f R.zero) refl refl

  pub unit_shaped : (n : ℕ) → IsShaped R n n (unit_matrix R n)
  unfolding unit_matrix
  unit_shaped n = scalar_shaped R.one n

  pub transpose_shaped : (m n : ℕ) (A : Matrix R) → A.rows ≡ m → cols R A ≡ n → IsShaped R n m (transpose R A)
  unfolding transpose
  transpose_shaped m n A p q = table_shaped (cols R A) A.rows n m (λ i j. entry R A j i) q p

  pub entrywise_shaped : (t : R.Carrier → R.Carrier) (m n : ℕ) (A : Matrix R) → A.rows ≡ m → cols R A ≡ n → IsShaped R m n (entrywise R t A)
  unfolding entrywise
  entrywise_shaped t m n A p q = table_shaped A.rows (cols R A) m n (λ i j. t (entry R A i j)) p q

  pub joined_shaped : (m n k : ℕ) (A B : Matrix R) → A.rows ≡ m → cols R A ≡ n → cols R B ≡ k → IsShaped R m (n + k) (joined R A B)
  unfolding joined
  joined_shaped m n k A B p q r =
      table_shaped A.rows (cols R A + cols R B) m (n + k) (λ i j. cond (ltb j (cols R A)) (entry R A i j) (entry R B i (j - cols R A))) p (ap₂ (λ x y. x + y) q r)

  pub stacked_shaped : (m n k : ℕ) (A B : Matrix R) → A.rows ≡ m → B.rows ≡ k → cols R A ≡ n → IsShaped R (m + k) n (stacked R A B)
  unfolding stacked
  stacked_shaped m n k A B p q r =
      table_shaped (A.rows + B.rows) (cols R A) (m + k) n (λ i j. cond (ltb i A.rows) (entry R A i j) (entry R B (i - A.rows) j)) (ap₂ (λ x y. x + y) p q) r

  -- ---- picked columns
  pub entry_picked : (A : Matrix R) (js : List ℕ) (i j : ℕ) → j < length js → entry R (picked R A js) i j ≡ entry R A i (get_or js j zero)
  unfolding entry picked
  entry_picked A js i j h = ap (λ c. get_or c i R.zero) (get_or_map (λ j. get_or A.columns j []) js j zero [] h)
