-- Matrices within the bound on exponents: what is made of their entries is within it too, products and twists where their tests say so.
use Rattle.std.proofs.Common.{ℕ, zero, suc, ◌-◌, ◌<◌, ◌≡◌, cond, eqb, ltb, Bool, true, false, List, [], ◌∷◌, ◌++◌, map, replicate, take, drop, get_or, refl, ◌∙◌}
use Rattle.std.proofs.lemmas.Bool.{and_parts, and_from}
use Rattle.std.proofs.lemmas.List.Folds.{list_all-append}
use Rattle.std.specs.List.{list_all, filter, range_with_len}
use Rattle.fm_tuple.specs.Tuple.{tuple_sum}
use Rattle.fm_gfp.specs.declared.prime.Prime.{Prime}
use Rattle.fm_mono.specs.Bounded.{is_bounded}
use Rattle.fm_algebra.specs.Ring.{Ring as AlgebraRing}
use Rattle.fm_algebra.specs.FiniteSums.{finite_sum, below, last}
use Rattle.fm_algebra.specs.Matrix.{cols, listed, entry, table, column_matrix, product, zero_matrix, scalar_matrix, unit_matrix, transpose, entrywise, joined, stacked}
use Rattle.fm_algebra.specs.Polynomials.{Polynomial, polynomials, polynomial_zero, polynomial_one, polynomial_sum, polynomial_product, frobenius_twist}
use Rattle.fm_algebra.specs.PolyRing.{support}
use Rattle.fm_algebra.specs.PolynomialMatrices.{PolynomialMatrix, matrix_product, matrix_zero, matrix_unit, matrix_scalar, matrix_column, matrix_transpose, matrix_beside, matrix_above, matrix_twist}
use Rattle.fm_mat.specs.Bounds.{product_fits, products_fit, twist_fits, entries_fit}
use Rattle.fm_graphs.specs.Within.{is_within, are_within, entries_within}
use Rattle.fm_graphs.proofs.WithinPolynomials.{nothing_fails, one_within, sum_within, product_within, twist_within}

-- ---- tests of lists
module _ {X : Type 0} (test : X → Bool) where
  pub all_take : (k : ℕ) (xs : List X) → list_all test xs ≡ true → list_all test (take k xs) ≡ true
  all_take zero xs h = refl
  all_take (suc k) [] h = refl
  all_take (suc k) (x ∷ xs) h = let h = and_parts _ _ h in and_from _ _ h.0 (all_take k xs h.1)

  pub all_drop : (k : ℕ) (xs : List X) → list_all test xs ≡ true → list_all test (drop k xs) ≡ true
  all_drop zero xs h = h
  all_drop (suc k) [] h = refl
  all_drop (suc k) (x ∷ xs) h = all_drop k xs (and_parts _ _ h).1

  pub all_filter : (keep : X → Bool) (xs : List X) → list_all test xs ≡ true → list_all test (filter keep xs) ≡ true
  all_filter keep [] h = refl
  all_filter keep (x ∷ xs) h = let h = and_parts _ _ h in go (keep x) h.0 (all_filter keep xs h.1)
    where
      go : (b : Bool) → test x ≡ true → list_all test (filter keep xs) ≡ true → list_all test (cond b (x ∷ filter keep xs) (filter keep xs)) ≡ true
      go true own later = and_from _ _ own later
      go false own later = later

  pub all_append : (xs ys : List X) → list_all test xs ≡ true → list_all test ys ≡ true → list_all test (xs ++ ys) ≡ true
  all_append xs ys h k = list_all-append test xs ys ∙ and_from _ _ h k

  pub all_replicate : (k : ℕ) (x : X) → test x ≡ true → list_all test (replicate k x) ≡ true
  all_replicate zero x h = refl
  all_replicate (suc k) x h = and_from _ _ h (all_replicate k x h)

  pub one_of : (xs : List X) (i : ℕ) (d : X) → test d ≡ true → list_all test xs ≡ true → test (get_or xs i d) ≡ true
  one_of [] i d own h = own
  one_of (x ∷ xs) zero d own h = (and_parts _ _ h).0
  one_of (x ∷ xs) (suc i) d own h = one_of xs i d own (and_parts _ _ h).1

  pub all_map : {Y : Type 0} (given : Y → Bool) (f : Y → X) → ((y : Y) → given y ≡ true → test (f y) ≡ true) → (ys : List Y) → list_all given ys ≡ true → list_all test (map f ys) ≡ true
  all_map given f keeps [] h = refl
  all_map given f keeps (y ∷ ys) h = let h = and_parts _ _ h in and_from _ _ (keeps y h.0) (all_map given f keeps ys h.1)

  all_listed : (k : ℕ) (f : ℕ → X) → ((i : ℕ) → test (f i) ≡ true) → list_all test (listed k f) ≡ true
  unfolding listed
  all_listed k f h = go (range_with_len zero k)
    where
      go : (is : List ℕ) → list_all test (map f is) ≡ true
      go [] = refl
      go (i ∷ is) = and_from _ _ (h i) (go is)

module _ (p : Prime) (n : ℕ) where
  abbrev P : AlgebraRing
  P = polynomials p n

  abbrev Within : Polynomial p n → Type 0
  Within f = is_within p n f ≡ true

  abbrev MatrixWithin : PolynomialMatrix p n → Type 0
  MatrixWithin A = entries_within p n A ≡ true

  -- ---- entries
  pub zero_within : Within P.zero
  unfolding polynomial_zero
  zero_within = nothing_fails p n is_bounded

  pub unit_within : Within P.one
  unfolding polynomial_one
  unit_within = one_within p n

  pub chosen : (b : Bool) (f g : Polynomial p n) → Within f → Within g → Within (cond b f g)
  chosen true f g h k = h
  chosen false f g h k = k

  pub entry_within : (A : PolynomialMatrix p n) → MatrixWithin A → (i j : ℕ) → Within (entry P A i j)
  unfolding entry
  entry_within A w i j = one_of (is_within p n) (get_or A.columns j []) i P.zero zero_within (one_of (are_within p n) A.columns j [] refl w)

  pub table_within : (m c : ℕ) (f : ℕ → ℕ → Polynomial p n) → ((i j : ℕ) → Within (f i j)) → MatrixWithin (table P m c f)
  unfolding table
  table_within m c f h = all_listed (are_within p n) c (λ j. listed m (λ i. f i j)) (λ j. all_listed (is_within p n) m (λ i. f i j) (λ i. h i j))

  -- ---- matrices of entries
  pub zeros_within : (m c : ℕ) → MatrixWithin (matrix_zero p n m c)
  unfolding matrix_zero zero_matrix
  zeros_within m c = table_within m c (λ i j. P.zero) (λ i j. zero_within)

  pub scalar_within : (f : Polynomial p n) (m : ℕ) → Within f → MatrixWithin (matrix_scalar p n f m)
  unfolding matrix_scalar scalar_matrix
  scalar_within f m h = table_within m m (λ i j. cond (eqb i j) f P.zero) (λ i j. chosen (eqb i j) f P.zero h zero_within)

  pub units_within : (m : ℕ) → MatrixWithin (matrix_unit p n m)
  unfolding matrix_unit unit_matrix matrix_scalar
  units_within m = scalar_within P.one m unit_within

  pub column_within : (v : List (Polynomial p n)) → are_within p n v ≡ true → MatrixWithin (matrix_column p n v)
  unfolding matrix_column column_matrix
  column_within v h = and_from _ _ h refl

  pub transpose_within : (A : PolynomialMatrix p n) → MatrixWithin A → MatrixWithin (matrix_transpose p n A)
  unfolding matrix_transpose transpose
  transpose_within A w = table_within (cols P A) A.rows (λ i j. entry P A j i) (λ i j. entry_within A w j i)

  pub beside_within : (A B : PolynomialMatrix p n) → MatrixWithin A → MatrixWithin B → MatrixWithin (matrix_beside p n A B)
  unfolding matrix_beside joined
  beside_within A B w v = table_within _ _ _ (λ i j. chosen (ltb j (cols P A)) (entry P A i j) (entry P B i (j - cols P A)) (entry_within A w i j) (entry_within B v i (j - cols P A)))

  pub above_within : (A B : PolynomialMatrix p n) → MatrixWithin A → MatrixWithin B → MatrixWithin (matrix_above p n A B)
  unfolding matrix_above stacked
  above_within A B w v = table_within _ _ _ (λ i j. chosen (ltb i A.rows) (entry P A i j) (entry P B (i - A.rows) j) (entry_within A w i j) (entry_within B v (i - A.rows) j))

  -- ---- twists and products
  pub twisted_within : (e : ℕ) (A : PolynomialMatrix p n) → entries_fit p n e A ≡ true → MatrixWithin (matrix_twist p n e A)
  unfolding matrix_twist entrywise entry polynomial_zero
  twisted_within e A h = table_within A.rows (cols P A) (λ i j. frobenius_twist p n e (entry P A i j)) (λ i j. twist_within p n e (entry P A i j)
      (one_of (twist_fits p n e) (get_or A.columns j []) i P.zero (nothing_fails p n _) (one_of (λ c. list_all (twist_fits p n e) c) A.columns j [] refl h)))

  total_within : (k : ℕ) (f : (i : ℕ) → i < k → Polynomial p n) → ((i : ℕ) (h : i < k) → Within (f i h)) → Within (finite_sum P k f)
  unfolding finite_sum polynomial_sum
  total_within zero f h = zero_within
  total_within (suc k) f h = sum_within p n (finite_sum P k (λ i l. f i (below l))) (f k (last k)) (total_within k (λ i l. f i (below l)) (λ i l. h i (below l))) (h k (last k))

  -- a test of products with 0
  zero_after : (f : Polynomial p n) → product_fits p n f P.zero ≡ true
  unfolding polynomial_zero
  zero_after f = go (support f)
    where
      go : (ks : List (List ℕ)) → list_all (λ a. list_all (λ b. is_bounded (tuple_sum a b)) (support P.zero)) ks ≡ true
      go [] = refl
      go (k ∷ ks) = and_from _ _ (nothing_fails p n _) (go ks)

  zero_before : (g : Polynomial p n) → product_fits p n P.zero g ≡ true
  unfolding polynomial_zero
  zero_before g = nothing_fails p n _

  entries_fit_at : (cs : List (List (Polynomial p n))) (w : List (Polynomial p n)) → products_fit p n cs w ≡ true → (i k : ℕ) → product_fits p n (get_or (get_or cs k []) i P.zero) (get_or w k P.zero) ≡ true
  entries_fit_at [] w h i k = zero_before (get_or w k P.zero)
  entries_fit_at (c ∷ cs) [] h i k = zero_after (get_or (get_or (c ∷ cs) k []) i P.zero)
  entries_fit_at (c ∷ cs) (g ∷ gs) h i zero = one_of (λ f. product_fits p n f g) c i P.zero (zero_before g) (and_parts (list_all (λ f. product_fits p n f g) c) (products_fit p n cs gs) h).0
  entries_fit_at (c ∷ cs) (g ∷ gs) h i (suc k) = entries_fit_at cs gs (and_parts (list_all (λ f. product_fits p n f g) c) (products_fit p n cs gs) h).1 i k

  no_entries : (cs : List (List (Polynomial p n))) → products_fit p n cs [] ≡ true
  no_entries [] = refl
  no_entries (c ∷ cs) = refl

  pub multiplied_within : (A B : PolynomialMatrix p n) → list_all (products_fit p n A.columns) B.columns ≡ true → MatrixWithin (matrix_product p n A B)
  unfolding matrix_product product entry polynomial_product
  multiplied_within A B h = table_within A.rows (cols P B) _ (λ i j. total_within (cols P A) _ (λ k l. product_within p n (entry P A i k) (entry P B k j)
      (entries_fit_at A.columns (get_or B.columns j []) (one_of (products_fit p n A.columns) B.columns j [] (no_entries A.columns) h) i k)))
