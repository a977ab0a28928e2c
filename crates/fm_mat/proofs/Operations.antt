-- Transposes, unit matrices and joins of matrices by their columns.
use Rattle.std.proofs.Common.{ℕ, zero, suc, ◌+◌, ◌-◌, ◌<◌, ◌≤◌, ◌≡◌, ◌⊎◌, inl, inr, cond, ltb, List, [], ◌∷◌, ◌++◌, map, length, get_or, refl, sym, ap, ap₂, ◌∙◌, subst, arith, zero-add}
use Rattle.std.proofs.lemmas.Bool.{cases_lt, lt-ltb, le-ltb}
use Rattle.std.proofs.lemmas.List.{get_or_append_left, get_or-append_right, length-append, map-append}
use Rattle.std.proofs.lemmas.List.FromFn.{map-range_with_len_more}
use Rattle.fm_gfp.specs.declared.prime.Prime.{Prime}
use Rattle.fm_algebra.specs.Matrix.{component, entry, listed, table, IsShaped, transpose, scalar_matrix, unit_matrix, joined, stacked, picked}
use Rattle.fm_algebra.specs.Ring.{Ring}
use Rattle.fm_algebra.specs.Polynomials.{Polynomial, polynomials, polynomial_zero, polynomial_one}
use Rattle.fm_algebra.specs.PolynomialMatrices.{PolynomialMatrix, matrix_transpose, matrix_unit, matrix_beside, matrix_above, matrix_picked}
use Rattle.fm_algebra.proofs.Tables.{matrix_ext, entry_table, joined_shaped, stacked_shaped}
use Rattle.fm_groebner.specs.Graphs.{unit_vector}
use Rattle.fm_mat.specs.Columns.{each_above, row_of}
use Rattle.fm_mat.proofs.Acting.{Long, listed_map}

listed_more : {X : Type 0} (k : ℕ) (f : ℕ → X) → listed (k + 1) f ≡ listed k f ++ f k ∷ []
unfolding listed
listed_more k f = map-range_with_len_more f 0 k k (zero-add k)

pub listed_none : {X : Type 0} (f : ℕ → X) → listed 0 f ≡ []
unfolding listed
listed_none f = refl

-- one more at the end
pub listed_push : {X Y : Type 0} (F : X → Y) (f : ℕ → Y) (k : ℕ) (out : List X) (h : X) (out' : List X) → out' ≡ out ++ h ∷ [] → F h ≡ f k → map F out ≡ listed k f → map F out' ≡ listed (k + 1) f
listed_push F f k out h out' e v w = ap (map F) e ∙ map-append F out (h ∷ []) ∙ ap₂ (λ xs x. xs ++ x ∷ []) w v ∙ sym (listed_more k f)

pub each_above_length : {X : Type 0} (cs ds : List (List X)) → length ds ≡ length cs → length (each_above cs ds) ≡ length cs
each_above_length [] ds e = refl
each_above_length (c ∷ cs) [] e = absurd (omega (arith, e))
each_above_length (c ∷ cs) (d ∷ ds) e = ap suc (each_above_length cs ds (omega (arith, e)))

each_above_at : {X : Type 0} (cs ds : List (List X)) (j : ℕ) → length ds ≡ length cs → get_or (each_above cs ds) j [] ≡ get_or cs j [] ++ get_or ds j []
each_above_at [] [] j e = refl
each_above_at [] (d ∷ ds) j e = absurd (omega (arith, e))
each_above_at (c ∷ cs) [] j e = absurd (omega (arith, e))
each_above_at (c ∷ cs) (d ∷ ds) zero e = refl
each_above_at (c ∷ cs) (d ∷ ds) (suc j) e = each_above_at cs ds j (omega (arith, e))

module _ (p : Prime) (n : ℕ) where
  abbrev R : Ring
  R = polynomials p n

  abbrev Column : Type 0
  Column = List (Polynomial p n)

  long_at : (m : ℕ) (cs : List Column) (j : ℕ) → Long p n m cs → j < length cs → length (get_or cs j []) ≡ m
  long_at m [] j l h = absurd (omega (arith, h))
  long_at m (c ∷ cs) zero l h = l.0
  long_at m (c ∷ cs) (suc j) l h = long_at m cs j l.1 (omega (arith, h))

  pub long_append : (m : ℕ) (cs ds : List Column) → Long p n m cs → Long p n m ds → Long p n m (cs ++ ds)
  long_append m [] ds l k = k
  long_append m (c ∷ cs) ds l k = (l.0, long_append m cs ds l.1 k)

  long_above : (m k : ℕ) (cs ds : List Column) → Long p n m cs → Long p n k ds → Long p n (m + k) (each_above cs ds)
  long_above m k [] ds l h = tt
  long_above m k (c ∷ cs) [] l h = tt
  long_above m k (c ∷ cs) (d ∷ ds) l h = (length-append c d ∙ ap₂ (λ x y. x + y) l.0 h.0, long_above m k cs ds l.1 h.1)

  abbrev of_columns : ℕ → List Column → PolynomialMatrix p n
  of_columns m cs = record { rows = m; columns = cs }

  long_shaped : (m c : ℕ) (cs : List Column) → Long p n m cs → length cs ≡ c → IsShaped R m c (of_columns m cs)
  long_shaped m c cs l e = (refl, e, λ j h. long_at m cs j l (omega (arith, h, e)))

  pub transpose_is : (A : PolynomialMatrix p n) → matrix_transpose p n A ≡ of_columns (length A.columns) (listed A.rows (λ i. row_of p n i A.columns))
  unfolding matrix_transpose transpose table entry component
  transpose_is A = λ t. record { rows = length A.columns; columns = listed A.rows (λ i. listed_map (λ c. get_or c i R.zero) [] A.columns t) }

  pub unit_is : (m : ℕ) → matrix_unit p n m ≡ of_columns m (listed m (unit_vector p n m))
  unfolding matrix_unit unit_matrix scalar_matrix table polynomial_one polynomial_zero
  unit_is m = refl

  pub picked_is : (A : PolynomialMatrix p n) (js : List ℕ) → matrix_picked p n A js ≡ of_columns A.rows (map (λ j. get_or A.columns j []) js)
  unfolding matrix_picked picked
  picked_is A js = refl

  pub beside_is : (m : ℕ) (cs ds : List Column) → Long p n m cs → Long p n m ds → matrix_beside p n (of_columns m cs) (of_columns m ds) ≡ of_columns m (cs ++ ds)
  unfolding matrix_beside joined entry
  beside_is m cs ds l k = matrix_ext R m (length cs + length ds) (matrix_beside p n (of_columns m cs) (of_columns m ds)) (of_columns m (cs ++ ds))
      (joined_shaped R m (length cs) (length ds) (of_columns m cs) (of_columns m ds) refl refl refl)
      (long_shaped m (length cs + length ds) (cs ++ ds) (long_append m cs ds l k) (length-append cs ds))
      (λ i j h b. entry_table R m (length cs + length ds) i j (λ i j. cond (ltb j (length cs)) (entry R (of_columns m cs) i j) (entry R (of_columns m ds) i (j - length cs))) h b
      ∙ side i j (cases_lt j (length cs)))
    where
      side : (i j : ℕ) → (j < length cs) ⊎ (length cs ≤ j)
          → cond (ltb j (length cs)) (entry R (of_columns m cs) i j) (entry R (of_columns m ds) i (j - length cs)) ≡ entry R (of_columns m (cs ++ ds)) i j
      side i j (inl s) = ap (λ b. cond b (entry R (of_columns m cs) i j) (entry R (of_columns m ds) i (j - length cs))) (lt-ltb j (length cs) s)
          ∙ ap (λ c. get_or c i R.zero) (sym (get_or_append_left cs ds [] j s))
      side i j (inr s) = ap (λ b. cond b (entry R (of_columns m cs) i j) (entry R (of_columns m ds) i (j - length cs))) (le-ltb j (length cs) s)
          ∙ ap (λ c. get_or c i R.zero) (sym (get_or-append_right cs ds (length cs) j [] refl s))

  pub above_is : (m k : ℕ) (cs ds : List Column) → Long p n m cs → Long p n k ds → length ds ≡ length cs
      → matrix_above p n (of_columns m cs) (of_columns k ds) ≡ of_columns (m + k) (each_above cs ds)
  unfolding matrix_above stacked entry
  above_is m k cs ds l h e = matrix_ext R (m + k) (length cs) (matrix_above p n (of_columns m cs) (of_columns k ds)) (of_columns (m + k) (each_above cs ds))
      (stacked_shaped R m (length cs) k (of_columns m cs) (of_columns k ds) refl refl refl)
      (long_shaped (m + k) (length cs) (each_above cs ds) (long_above m k cs ds l h) (each_above_length cs ds e))
      (λ i j b c. entry_table R (m + k) (length cs) i j (λ i j. cond (ltb i m) (entry R (of_columns m cs) i j) (entry R (of_columns k ds) (i - m) j)) b c
      ∙ side i j (long_at m cs j l c) (cases_lt i m)
      ∙ ap (λ v. get_or v i R.zero) (sym (each_above_at cs ds j e)))
    where
      side : (i j : ℕ) → length (get_or cs j []) ≡ m → (i < m) ⊎ (m ≤ i)
          → cond (ltb i m) (entry R (of_columns m cs) i j) (entry R (of_columns k ds) (i - m) j) ≡ get_or (get_or cs j [] ++ get_or ds j []) i R.zero
      side i j long (inl s) = ap (λ b. cond b (entry R (of_columns m cs) i j) (entry R (of_columns k ds) (i - m) j)) (lt-ltb i m s)
          ∙ sym (get_or_append_left (get_or cs j []) (get_or ds j []) R.zero i (subst (λ x. i < x) (sym long) s))
      side i j long (inr s) = ap (λ b. cond b (entry R (of_columns m cs) i j) (entry R (of_columns k ds) (i - m) j)) (le-ltb i m s)
          ∙ sym (get_or-append_right (get_or cs j []) (get_or ds j []) m i R.zero long s)
