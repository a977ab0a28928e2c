-- The columns of a product are combinations of columns.
use Rattle.std.proofs.Common.{ℕ, zero, suc, ◌<◌, ◌≡◌, List, [], ◌∷◌, map, length, get_or, refl, sym, ap, ap₂, ◌∙◌, arith}
use Rattle.std.proofs.lemmas.List.{get_or-map, ext_get_or, get_or-replicate}
use Rattle.fm_gfp.specs.declared.prime.Prime.{Prime}
use Rattle.fm_algebra.specs.Ring.{Ring, IsRing}
use Rattle.fm_algebra.specs.FiniteSums.{finite_sum}
use Rattle.fm_algebra.specs.Matrix.{component, entry, listed, apply, product, table, entrywise}
use Rattle.fm_algebra.specs.Polynomials.{Polynomial, polynomials, polynomial_sum, polynomial_product, polynomial_zero, frobenius_twist}
use Rattle.fm_algebra.specs.PolynomialMatrices.{PolynomialMatrix, matrix_product, matrix_twist, vector_product}
use Rattle.fm_algebra.proofs.Algebra.{add_zero}
use Rattle.fm_algebra.proofs.Concrete.{polynomials_laws}
use Rattle.fm_algebra.proofs.Tables.{length-listed, get_or-listed, length-apply}
use Rattle.fm_groebner.specs.Graphs.{zero_vector}
use Rattle.fm_groebner.proofs.GraphMatrices.{same_components, apply_component}
use Rattle.fm_mat.specs.Acting.{with_product, acted}

pub listed_map : {X Y : Type 0} (F : X → Y) (d : X) (xs : List X) → listed (length xs) (λ j. F (get_or xs j d)) ≡ map F xs
listed_map F d xs = ext_get_or (F d) (listed (length xs) (λ j. F (get_or xs j d))) (map F xs) (length-listed (length xs) (λ j. F (get_or xs j d)) ∙ sym (long xs))
    (λ i h. let b : i < length xs = inside i h in get_or-listed (length xs) i (F d) (λ j. F (get_or xs j d)) b ∙ sym (get_or-map F xs i d (F d) b))
  where
    long : (ys : List _) → length (map F ys) ≡ length ys
    long [] = refl
    long (y ∷ ys) = ap suc (long ys)

    inside : (i : ℕ) → i < length (listed (length xs) (λ j. F (get_or xs j d))) → i < length xs
    inside i h = omega (arith, h, length-listed (length xs) (λ j. F (get_or xs j d)))

module _ (p : Prime) (n : ℕ) where
  abbrev R : Ring
  R = polynomials p n

  abbrev L : IsRing R
  L = polynomials_laws p n

  abbrev Column : Type 0
  Column = List (Polynomial p n)

  abbrev pub Long : ℕ → List Column → Type 0
  Long m [] = Unit {0}
  Long m (c ∷ cs) = (length c ≡ m) × Long m cs

  pub columns_product : (A B : PolynomialMatrix p n) → matrix_product p n A B ≡ record { rows = A.rows; columns = map (vector_product p n A) B.columns }
  unfolding matrix_product product table vector_product apply entry component
  columns_product A B = λ t. record { rows = A.rows; columns = listed_map (vector_product p n A) [] B.columns t }

  sum_first : (k : ℕ) (F : ℕ → R.Carrier) → finite_sum R (suc k) (λ i h. F i) ≡ R.add (F 0) (finite_sum R k (λ i h. F (suc i)))
  unfolding finite_sum
  sum_first zero F = L.zero_add (F 0) ∙ sym (add_zero L (F 0))
  sum_first (suc k) F = ap (λ x. R.add x (F (suc k))) (sum_first k F) ∙ L.add_assoc (F 0) (finite_sum R k (λ i h. F (suc i))) (F (suc k))

  dot : ℕ → List Column → Column → R.Carrier
  dot i cs ws = finite_sum R (length cs) (λ k h. R.mul (component R (get_or cs k []) i) (component R ws k))

  dot_none : (i : ℕ) (ws : Column) → dot i [] ws ≡ R.zero
  unfolding dot finite_sum
  dot_none i ws = refl

  dot_first : (i : ℕ) (c : Column) (cs : List Column) (g : Polynomial p n) (gs : Column) → dot i (c ∷ cs) (g ∷ gs) ≡ R.add (R.mul (component R c i) g) (dot i cs gs)
  unfolding dot component
  dot_first i c cs g gs = sum_first (length cs) (λ k. R.mul (get_or (get_or (c ∷ cs) k []) i R.zero) (get_or (g ∷ gs) k R.zero))

  length_with : (m : ℕ) (s c : Column) (g : Polynomial p n) → length s ≡ m → length c ≡ m → length (with_product p n s c g) ≡ m
  length_with m [] c g k l = k
  length_with m (x ∷ s) [] g k l = absurd (omega (arith, k, l))
  length_with zero (x ∷ s) (y ∷ c) g k l = absurd (omega (arith, k))
  length_with (suc m) (x ∷ s) (y ∷ c) g k l = ap suc (length_with m s c g (omega (arith, k)) (omega (arith, l)))

  component_with : (i m : ℕ) (s c : Column) (g : Polynomial p n) → length s ≡ m → length c ≡ m → i < m → component R (with_product p n s c g) i ≡ R.add (component R s i) (R.mul (component R c i) g)
  unfolding component polynomial_sum polynomial_product
  component_with i m [] c g k l h = absurd (omega (arith, k, h))
  component_with i m (x ∷ s) [] g k l h = absurd (omega (arith, k, l))
  component_with i zero (x ∷ s) (y ∷ c) g k l h = absurd (omega (arith, k))
  component_with zero (suc m) (x ∷ s) (y ∷ c) g k l h = refl
  component_with (suc i) (suc m) (x ∷ s) (y ∷ c) g k l h = component_with i m s c g (omega (arith, k)) (omega (arith, l)) (omega (arith, h))

  length_acted : (m : ℕ) (cs : List Column) (ws s : Column) → length s ≡ m → Long m cs → length (acted p n s cs ws) ≡ m
  length_acted m [] ws s k l = k
  length_acted m (c ∷ cs) [] s k l = k
  length_acted m (c ∷ cs) (g ∷ gs) s k l = length_acted m cs gs (with_product p n s c g) (length_with m s c g k l.0) l.1

  acted_component : (i m : ℕ) (cs : List Column) (ws s : Column) → length s ≡ m → Long m cs → length ws ≡ length cs → i < m → component R (acted p n s cs ws) i ≡ R.add (component R s i) (dot i cs ws)
  acted_component i m [] ws s k l e h = sym (ap (R.add (component R s i)) (dot_none i ws) ∙ add_zero L (component R s i))
  acted_component i m (c ∷ cs) [] s k l e h = absurd (omega (arith, e))
  acted_component i m (c ∷ cs) (g ∷ gs) s k l e h =
      acted_component i m cs gs (with_product p n s c g) (length_with m s c g k l.0) l.1 (omega (arith, e)) h
      ∙ ap (λ x. R.add x (dot i cs gs)) (component_with i m s c g k l.0 h)
      ∙ L.add_assoc (component R s i) (R.mul (component R c i) g) (dot i cs gs)
      ∙ ap (R.add (component R s i)) (sym (dot_first i c cs g gs))

  zero_component : (m i : ℕ) → i < m → component R (zero_vector p n m) i ≡ R.zero
  unfolding component polynomial_zero
  zero_component m i h = get_or-replicate m i R.zero R.zero h

  length_zeros : (m : ℕ) → length (zero_vector p n m) ≡ m
  length_zeros zero = refl
  length_zeros (suc m) = ap suc (length_zeros m)

  apply_dot : (m : ℕ) (cs : List Column) (ws : Column) (i : ℕ) → i < m → component R (vector_product p n (record { rows = m; columns = cs }) ws) i ≡ dot i cs ws
  unfolding vector_product dot entry component
  apply_dot m cs ws i h = apply_component R L (record { rows = m; columns = cs }) ws i h

  length_product : (m : ℕ) (cs : List Column) (ws : Column) → length (vector_product p n (record { rows = m; columns = cs }) ws) ≡ m
  unfolding vector_product
  length_product m cs ws = length-apply R (record { rows = m; columns = cs }) ws

  -- a matrix times a vector, column by column
  pub acted_is : (m : ℕ) (cs : List Column) (ws : Column) → Long m cs → length ws ≡ length cs → acted p n (zero_vector p n m) cs ws ≡ vector_product p n (record { rows = m; columns = cs }) ws
  acted_is m cs ws l e = same_components R L m (acted p n (zero_vector p n m) cs ws) (vector_product p n (record { rows = m; columns = cs }) ws)
      (length_acted m cs ws (zero_vector p n m) (length_zeros m) l) (length_product m cs ws)
      (λ i h. acted_component i m cs ws (zero_vector p n m) (length_zeros m) l e h
      ∙ ap (λ x. R.add x (dot i cs ws)) (zero_component m i h) ∙ L.zero_add (dot i cs ws) ∙ sym (apply_dot m cs ws i h))

  -- a twist, column by column
  twist_columns : (e m : ℕ) (cs : List Column) → Long m cs → map (λ c. listed m (λ i. frobenius_twist p n e (component R c i))) cs ≡ map (map (frobenius_twist p n e)) cs
  unfolding component
  twist_columns e m [] l = refl
  twist_columns e m (c ∷ cs) l =
      ap₂ (λ x xs. x ∷ xs) (ap (λ k. listed k (λ i. frobenius_twist p n e (get_or c i R.zero))) (sym l.0) ∙ listed_map (frobenius_twist p n e) R.zero c) (twist_columns e m cs l.1)

  pub twist_is : (e m : ℕ) (cs : List Column) → Long m cs → matrix_twist p n e (record { rows = m; columns = cs }) ≡ record { rows = m; columns = map (map (frobenius_twist p n e)) cs }
  unfolding matrix_twist entrywise table entry component
  twist_is e m cs l = λ t. record { rows = m; columns = (listed_map (λ c. listed m (λ i. frobenius_twist p n e (get_or c i R.zero))) [] cs ∙ twist_columns e m cs l) t }
