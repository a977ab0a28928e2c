-- A matrix above the unit matrix, and blocks of vectors.
use Rattle.std.proofs.Common.{◌≡◌, ℕ, ◌+◌, ◌-◌, ◌<◌, Bool, true, false, cond, eqb, ltb, List, [], ◌∷◌, ◌++◌, map, length, replicate, get_or, drop, refl, sym, ap, ap₂, ◌∙◌, subst, arith}
use Rattle.std.proofs.Math.ListN.{get_or-map as get_or-map-any}
use Rattle.std.proofs.lemmas.Bool.{lt-ltb, le-ltb}
use Rattle.std.proofs.lemmas.List.{ext_get_or, get_or-map, get_or_append_left, get_or-append-add, get_or-replicate, get_or-drop, length-append, length-map, length-replicate, length-drop}
use native.Mathlib.Decide.{dec_lt}
use Rattle.fm_algebra.specs.Ring.{Ring, IsRing}
use Rattle.fm_algebra.specs.FiniteSums.{finite_sum}
use Rattle.fm_algebra.specs.Matrix.{Matrix, cols, component, entry, listed, apply, table, stacked, unit_matrix, scalar_matrix, entrywise}
use Rattle.fm_algebra.proofs.Algebra.{zero_mul}
use Rattle.fm_algebra.proofs.FiniteSums.{sum_zero, sum_only, sum_cast, where_same, where_other}
use Rattle.fm_algebra.proofs.Tables.{length-listed, get_or-listed, entry_table, length-apply, vector_injective, cols_table, rows_table}

-- two joins whose first parts have one length
pub append_injective : {A : Type 0} (u u' v v' : List A) → length u ≡ length u' → u ++ v ≡ u' ++ v' → (u ≡ u') × (v ≡ v')
append_injective [] [] v v' l e = (refl, e)
append_injective [] (x ∷ u') v v' l e = absurd (omega arith)
append_injective (x ∷ u) [] v v' l e = absurd (omega arith)
append_injective (x ∷ u) (y ∷ u') v v' l e =
    let first : x ≡ y = cc e in
    let others : u ++ v ≡ u' ++ v' = cc e in
    let ih = append_injective u u' v v' (omega arith) others in
    (ap₂ (λ a b. a ∷ b) first ih.0, ih.1)

module _ (R : Ring) (L : IsRing R) where
  open R use {Carrier, zero as 𝟘, one as 𝟙, add as ◌⊕◌, mul as ◌⊗◌}

  infixl 60 ◌⊕◌
  infixl 70 ◌⊗◌
  abbrev pub zeros : ℕ → List Carrier
  zeros m = replicate m 𝟘

  -- components in the first part and in the second part of a join
  pub component_left : (u v : List Carrier) (i : ℕ) → i < length u → component R (u ++ v) i ≡ component R u i
  unfolding component
  component_left u v i h = get_or_append_left u v 𝟘 i h

  pub component_right : (m : ℕ) (u v : List Carrier) (i : ℕ) → length u ≡ m → component R (u ++ v) (m + i) ≡ component R v i
  unfolding component
  component_right m u v i l = ap (λ k. get_or (u ++ v) (k + i) 𝟘) (sym l) ∙ get_or-append-add u v i 𝟘

  pub component_zeros : (m i : ℕ) → i < m → component R (zeros m) i ≡ 𝟘
  unfolding component
  component_zeros m i h = get_or-replicate m i 𝟘 𝟘 h

  -- two vectors of length m + c that agree in both blocks
  pub same_blocks : (m c : ℕ) (u v : List Carrier) → length u ≡ m + c → length v ≡ m + c → ((i : ℕ) → i < m → component R u i ≡ component R v i)
      → ((j : ℕ) → j < c → component R u (m + j) ≡ component R v (m + j)) → u ≡ v
  same_blocks m c u v k l f g = vector_injective R (m + c) u v k l (λ z i a j b. each i a z)
    where
      each : (i : ℕ) → i < m + c → component R u i ≡ component R v i
      each i a = elim (dec_lt i m) [
        | yes h ↦ f i h
        | no w ↦ let e : m + (i - m) ≡ i = omega arith in subst (λ x. component R u x ≡ component R v x) e (g (i - m) (omega (arith, a, w)))
      ]

  pub same_components : (m : ℕ) (u v : List Carrier) → length u ≡ m → length v ≡ m → ((i : ℕ) → i < m → component R u i ≡ component R v i) → u ≡ v
  same_components m u v k l f = vector_injective R m u v k l (λ z i a j b. f i a z)

  pub apply_component : (A : Matrix R) (w : List Carrier) (i : ℕ) → i < A.rows → component R (apply R A w) i ≡ finite_sum R (cols R A) (λ k h. entry R A i k ⊗ component R w k)
  unfolding apply component
  apply_component A w i h = get_or-listed A.rows i 𝟘 (λ i. finite_sum R (cols R A) (λ k h. entry R A i k ⊗ component R w k)) h

  -- ---- the matrix A above the unit matrix
  module _ (A : Matrix R) where
    abbrev pub graph_matrix : Matrix R
    graph_matrix = stacked R A (unit_matrix R (cols R A))

    abbrev pub graph_generated : Matrix R
    graph_generated = record { rows = A.rows + cols R A; columns = graph_matrix.columns }

    pub graph_cols : cols R graph_matrix ≡ cols R A
    unfolding stacked
    graph_cols = cols_table R (A.rows + (unit_matrix R (cols R A)).rows) (cols R A) _

    entry_upper : (i k : ℕ) → i < A.rows → k < cols R A → entry R graph_generated i k ≡ entry R A i k
    unfolding stacked unit_matrix scalar_matrix entry table
    entry_upper i k h l = entry_table R (A.rows + cols R A) (cols R A) i k (λ i j. cond (ltb i A.rows) (entry R A i j) (entry R (unit_matrix R (cols R A)) (i - A.rows) j)) (omega arith) l
        ∙ ap (λ b. cond b (entry R A i k) (entry R (unit_matrix R (cols R A)) (i - A.rows) k)) (lt-ltb i A.rows h)

    entry_lower : (i k : ℕ) → i < cols R A → k < cols R A → entry R graph_generated (A.rows + i) k ≡ cond (eqb i k) 𝟙 𝟘
    unfolding stacked unit_matrix scalar_matrix entry table
    entry_lower i k h l =
        let back : A.rows + i - A.rows ≡ i = omega arith in
        entry_table R (A.rows + cols R A) (cols R A) (A.rows + i) k (λ i j. cond (ltb i A.rows) (entry R A i j) (entry R (unit_matrix R (cols R A)) (i - A.rows) j)) (omega arith) l
        ∙ ap (λ b. cond b (entry R A (A.rows + i) k) (entry R (unit_matrix R (cols R A)) (A.rows + i - A.rows) k)) (le-ltb (A.rows + i) A.rows (omega arith))
        ∙ ap (λ x. entry R (unit_matrix R (cols R A)) x k) back
        ∙ entry_table R (cols R A) (cols R A) i k (λ i j. cond (eqb i j) 𝟙 𝟘) h l

    column_length : (k : ℕ) → k < cols R A → length (get_or graph_matrix.columns k []) ≡ A.rows + cols R A
    unfolding stacked unit_matrix scalar_matrix table
    column_length k l = ap length (get_or-listed (cols R A) k [] (λ j. listed (A.rows + cols R A) (λ i. cond (ltb i A.rows) (entry R A i j) (entry R (unit_matrix R (cols R A)) (i - A.rows) j))) l)
        ∙ length-listed (A.rows + cols R A) (λ i. cond (ltb i A.rows) (entry R A i k) (entry R (unit_matrix R (cols R A)) (i - A.rows) k))

    own_entry : (i j : ℕ) → entry R A i j ≡ component R (get_or A.columns j []) i
    unfolding component entry
    own_entry i j = refl

    listed_component : (i j : ℕ) → i < cols R A → component R (listed (cols R A) (λ i. cond (eqb i j) 𝟙 𝟘)) i ≡ cond (eqb i j) 𝟙 𝟘
    unfolding component
    listed_component i j b = get_or-listed (cols R A) i 𝟘 (λ i. cond (eqb i j) 𝟙 𝟘) b

    column_entry : (k i : ℕ) → component R (get_or graph_matrix.columns k []) i ≡ entry R graph_generated i k
    unfolding component entry
    column_entry k i = refl

    -- its columns are those of A, each above a unit vector
    pub graph_columns_listed : ((j : ℕ) → j < cols R A → length (get_or A.columns j []) ≡ A.rows)
        → graph_matrix.columns ≡ listed (cols R A) (λ j. get_or A.columns j [] ++ listed (cols R A) (λ i. cond (eqb i j) 𝟙 𝟘))
    graph_columns_listed shaped = ext_get_or [] graph_matrix.columns (listed (cols R A) (λ j. get_or A.columns j [] ++ listed (cols R A) (λ i. cond (eqb i j) 𝟙 𝟘)))
        (graph_cols ∙ sym (length-listed (cols R A) (λ j. get_or A.columns j [] ++ listed (cols R A) (λ i. cond (eqb i j) 𝟙 𝟘))))
        (λ j h. let l = subst (λ x. j < x) graph_cols h in
        same_blocks A.rows (cols R A) (get_or graph_matrix.columns j []) (get_or A.columns j [] ++ listed (cols R A) (λ i. cond (eqb i j) 𝟙 𝟘)) (column_length j l)
        (length-append (get_or A.columns j []) (listed (cols R A) (λ i. cond (eqb i j) 𝟙 𝟘)) ∙ ap₂ (λ x y. x + y) (shaped j l) (length-listed (cols R A) (λ i. cond (eqb i j) 𝟙 𝟘)))
        (λ i b. column_entry j i ∙ entry_upper i j b l ∙ own_entry i j ∙ sym (component_left (get_or A.columns j []) (listed (cols R A) (λ i. cond (eqb i j) 𝟙 𝟘)) i (subst (λ x. i < x) (sym (shaped j l)) b)))
        (λ i b. column_entry j (A.rows + i) ∙ entry_lower i j b l
        ∙ sym (component_right A.rows (get_or A.columns j []) (listed (cols R A) (λ i. cond (eqb i j) 𝟙 𝟘)) i (shaped j l) ∙ listed_component i j b))
        ∙ sym (get_or-listed (cols R A) j [] (λ j. get_or A.columns j [] ++ listed (cols R A) (λ i. cond (eqb i j) 𝟙 𝟘)) l))

    -- its product with w is (A * w; w)
    pub graph_apply : (w : List Carrier) → length w ≡ cols R A → apply R graph_generated w ≡ apply R A w ++ w
    graph_apply w l = same_blocks A.rows (cols R A) (apply R graph_generated w) (apply R A w ++ w) (length-apply R graph_generated w)
        (length-append (apply R A w) w ∙ ap₂ (λ x y. x + y) (length-apply R A w) l)
        (λ i h. apply_component graph_generated w i (omega arith)
        ∙ sum_cast L (cols R graph_matrix) (cols R A) (λ k b. entry R graph_generated i k ⊗ component R w k) (λ k b. entry R A i k ⊗ component R w k) graph_cols
        (λ k a b. ap (λ x. x ⊗ component R w k) (entry_upper i k h b))
        ∙ sym (component_left (apply R A w) w i (subst (λ x. i < x) (sym (length-apply R A w)) h) ∙ apply_component A w i h))
        (λ i h. apply_component graph_generated w (A.rows + i) (omega arith)
        ∙ sum_cast L (cols R graph_matrix) (cols R A) (λ k b. entry R graph_generated (A.rows + i) k ⊗ component R w k) (λ k b. cond (eqb i k) 𝟙 𝟘 ⊗ component R w k) graph_cols
        (λ k a b. ap (λ x. x ⊗ component R w k) (entry_lower i k h b))
        ∙ sum_only L (cols R A) i (λ k b. cond (eqb i k) 𝟙 𝟘 ⊗ component R w k) h (λ k b ne. ap (λ x. x ⊗ component R w k) (where_other L i k 𝟙 (λ e. ne (sym e))) ∙ zero_mul L (component R w k))
        ∙ ap (λ x. x ⊗ component R w i) (where_same L i 𝟙) ∙ L.one_mul (component R w i)
        ∙ sym (component_right A.rows (apply R A w) w i (length-apply R A w)))

  -- ---- columns below zeros
  module _ (m c : ℕ) (columns : List (List Carrier)) where
    abbrev pub lowered : Matrix R
    lowered = record { rows = m + c; columns = map (λ v. zeros m ++ v) columns }

    lowered_column : (k : ℕ) → k < length columns → get_or lowered.columns k [] ≡ zeros m ++ get_or columns k []
    lowered_column k h = get_or-map (λ v. zeros m ++ v) columns k [] [] h

    -- the product is the product of the columns, below zeros
    pub lowered_apply : (w : List Carrier) → apply R lowered w ≡ zeros m ++ apply R (record { rows = c; columns = columns }) w
    unfolding entry
    lowered_apply w = same_blocks m c (apply R lowered w) (zeros m ++ apply R (record { rows = c; columns = columns }) w) (length-apply R lowered w)
        (length-append (zeros m) (apply R (record { rows = c; columns = columns }) w) ∙ ap₂ (λ x y. x + y) (length-replicate m 𝟘) (length-apply R (record { rows = c; columns = columns }) w))
        (λ i h. apply_component lowered w i (omega arith)
        ∙ sum_cast L (length lowered.columns) (length columns) (λ k b. entry R lowered i k ⊗ component R w k) (λ k b. 𝟘) (length-map columns (λ v. zeros m ++ v))
        (λ k a b. ap (λ x. x ⊗ component R w k) (upper i k h b) ∙ zero_mul L (component R w k))
        ∙ sum_zero L (length columns)
        ∙ sym (component_left (zeros m) (apply R (record { rows = c; columns = columns }) w) i (subst (λ x. i < x) (sym (length-replicate m 𝟘)) h) ∙ component_zeros m i h))
        (λ i h. apply_component lowered w (m + i) (omega arith)
        ∙ sum_cast L (length lowered.columns) (length columns) (λ k b. entry R lowered (m + i) k ⊗ component R w k) (λ k b. entry R (record { rows = c; columns = columns }) i k ⊗ component R w k)
        (length-map columns (λ v. zeros m ++ v)) (λ k a b. ap (λ x. x ⊗ component R w k) (lower i k b))
        ∙ sym (component_right m (zeros m) (apply R (record { rows = c; columns = columns }) w) i (length-replicate m 𝟘) ∙ apply_component (record { rows = c; columns = columns }) w i h))
      where
        upper : (i k : ℕ) → i < m → k < length columns → get_or (get_or lowered.columns k []) i 𝟘 ≡ 𝟘
        upper i k h b = ap (λ v. get_or v i 𝟘) (lowered_column k b) ∙ get_or_append_left (zeros m) (get_or columns k []) 𝟘 i (subst (λ x. i < x) (sym (length-replicate m 𝟘)) h) ∙ get_or-replicate m i 𝟘 𝟘 h

        lower : (i k : ℕ) → k < length columns → get_or (get_or lowered.columns k []) (m + i) 𝟘 ≡ get_or (get_or columns k []) i 𝟘
        lower i k b = ap (λ v. get_or v (m + i) 𝟘) (lowered_column k b) ∙ ap (λ x. get_or (zeros m ++ get_or columns k []) (x + i) 𝟘) (sym (length-replicate m 𝟘)) ∙ get_or-append-add (zeros m) (get_or columns k []) i 𝟘

  -- a vector that is zero in the first block
  pub below_zeros : (m c : ℕ) (v : List Carrier) → length v ≡ m + c → ((i : ℕ) → i < m → component R v i ≡ 𝟘) → v ≡ zeros m ++ drop m v
  unfolding component
  below_zeros m c v l z = same_blocks m c v (zeros m ++ drop m v) l (length-append (zeros m) (drop m v) ∙ ap₂ (λ x y. x + y) (length-replicate m 𝟘) rest)
      (λ i h. z i h ∙ sym (component_left (zeros m) (drop m v) i (subst (λ x. i < x) (sym (length-replicate m 𝟘)) h) ∙ component_zeros m i h))
      (λ j h. sym (component_right m (zeros m) (drop m v) j (length-replicate m 𝟘) ∙ get_or-drop m v j 𝟘))
    where
      rest : length (drop m v) ≡ c
      rest = length-drop m v ∙ ap (λ x. x - m) l ∙ omega arith

  -- ---- a map of the entries
  module _ (A : Matrix R) (φ : Carrier → Carrier) (on_zero : φ 𝟘 ≡ 𝟘) (on_one : φ 𝟙 ≡ 𝟙) where
    pub mapped_rows : (entrywise R φ A).rows ≡ A.rows
    unfolding entrywise
    mapped_rows = rows_table R A.rows (cols R A) (λ i j. φ (entry R A i j))

    pub mapped_cols : cols R (entrywise R φ A) ≡ cols R A
    unfolding entrywise
    mapped_cols = cols_table R A.rows (cols R A) (λ i j. φ (entry R A i j))

    mapped_entry : (i k : ℕ) → i < A.rows → k < cols R A → entry R (entrywise R φ A) i k ≡ φ (entry R A i k)
    unfolding entrywise
    mapped_entry i k h l = entry_table R A.rows (cols R A) i k (λ i j. φ (entry R A i j)) h l

    column_component : (i k : ℕ) → component R (map φ (get_or (graph_matrix A).columns k [])) i ≡ φ (entry R (graph_generated A) i k)
    unfolding component entry
    column_component i k = ap (get_or (map φ (get_or (graph_matrix A).columns k [])) i) (sym on_zero) ∙ get_or-map-any φ (get_or (graph_matrix A).columns k []) i 𝟘

    same_graph_column : (k : ℕ) → k < cols R A → map φ (get_or (graph_matrix A).columns k []) ≡ get_or (graph_matrix (entrywise R φ A)).columns k []
    unfolding component entry
    same_graph_column k l = same_blocks A.rows (cols R A) (map φ (get_or (graph_matrix A).columns k [])) (get_or (graph_matrix (entrywise R φ A)).columns k [])
        (length-map (get_or (graph_matrix A).columns k []) φ ∙ column_length A k l)
        (column_length (entrywise R φ A) k (subst (λ x. k < x) (sym mapped_cols) l) ∙ ap₂ (λ x y. x + y) mapped_rows mapped_cols)
        (λ i h. column_component i k ∙ ap φ (entry_upper A i k h l) ∙ sym (mapped_entry i k h l)
        ∙ sym (entry_upper (entrywise R φ A) i k (subst (λ x. i < x) (sym mapped_rows) h) (subst (λ x. k < x) (sym mapped_cols) l)))
        (λ i h. column_component (A.rows + i) k ∙ ap φ (entry_lower A i k h l) ∙ on_cond (eqb i k)
        ∙ sym (ap (λ x. entry R (graph_generated (entrywise R φ A)) (x + i) k) (sym mapped_rows)
        ∙ entry_lower (entrywise R φ A) i k (subst (λ x. i < x) (sym mapped_cols) h) (subst (λ x. k < x) (sym mapped_cols) l)))
      where
        on_cond : (b : Bool) → φ (cond b 𝟙 𝟘) ≡ cond b 𝟙 𝟘
        on_cond true = on_one
        on_cond false = on_zero

    -- the columns of the graph, mapped, are those of the graph of the mapped matrix
    pub mapped_graph : map (map φ) (graph_matrix A).columns ≡ (graph_matrix (entrywise R φ A)).columns
    mapped_graph = ext_get_or [] (map (map φ) (graph_matrix A).columns) (graph_matrix (entrywise R φ A)).columns
        (length-map (graph_matrix A).columns (map φ) ∙ graph_cols A ∙ sym (graph_cols (entrywise R φ A) ∙ mapped_cols))
        (λ k h. get_or-map-any (map φ) (graph_matrix A).columns k [] ∙ same_graph_column k (subst (λ x. k < x) (length-map (graph_matrix A).columns (map φ) ∙ graph_cols A) h))
