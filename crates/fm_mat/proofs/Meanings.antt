-- What the columns that the calls make mean as matrices, under each name of the ring.
use Rattle.std.proofs.Common.{ℕ, zero, suc, ◌+◌, ◌-◌, ◌<◌, ◌≤◌, ◌^◌, ◌≡◌, Bool, List, [], ◌∷◌, ◌++◌, map, length, get_or, refl, sym, ap, ap₂, ◌∙◌, subst, arith}
use Rattle.std.specs.List.{list_all}
use Rattle.std.proofs.lemmas.List.{length-append, map-append}
use Rattle.fm_algebra.specs.Matrix.{component, listed}
use Rattle.fm_algebra.specs.Polynomials.{polynomials, frobenius_twist}
use Rattle.fm_algebra.specs.PolynomialMatrices.{PolynomialMatrix, vector_product, matrix_product, matrix_twist, matrix_transpose, matrix_unit, matrix_beside, matrix_above, matrix_picked}
use Rattle.fm_groebner.specs.Graphs.{unit_vector}
use Rattle.fm_poly.specs.declared.ring.Ring.{Ring}
use Rattle.fm_poly.specs.Polys.{PolyValue, meaning}
use Rattle.fm_vec.specs.Components.{AreOver}
use Rattle.fm_mat.specs.Bounds.{products_fit, twist_fits, entries_fit}
use Rattle.fm_mat.specs.Columns.{each_above, row_of, AreNumbers}
use Rattle.fm_mat.specs.Matrices.{MatrixValue, AreColumns, column_meaning, columns_meaning, matrix_meaning}
use Rattle.fm_mat.proofs.Acting.{columns_product, twist_is}
use Rattle.fm_mat.proofs.Operations.{transpose_is, unit_is, picked_is, beside_is, above_is, each_above_length}
use Rattle.fm_mat.proofs.Steps.{columns_long, map_length}

-- ---- shapes
pub over_joined : (r : Ring) (fs gs : List PolyValue) → AreOver r fs → AreOver r gs → AreOver r (fs ++ gs)
over_joined r [] gs o w = w
over_joined r (f ∷ fs) gs o w = (o.0, over_joined r fs gs o.1 w)

pub columns_joined : (r : Ring) (m : ℕ) (cs ds : List (List PolyValue)) → AreColumns r m cs → AreColumns r m ds → AreColumns r m (cs ++ ds)
columns_joined r m [] ds a b = b
columns_joined r m (c ∷ cs) ds a b = (a.0, a.1, columns_joined r m cs ds a.2 b)

pub columns_above : (r : Ring) (m k : ℕ) (cs ds : List (List PolyValue)) → AreColumns r m cs → AreColumns r k ds → AreColumns r (m + k) (each_above cs ds)
columns_above r m k [] ds a b = tt
columns_above r m k (c ∷ cs) [] a b = tt
columns_above r m k (c ∷ cs) (d ∷ ds) a b = (over_joined r c d a.0 b.0, long c d a.1 b.1, columns_above r m k cs ds a.2 b.2)
  where
    long : (c d : List PolyValue) → length c ≡ m → length d ≡ k → length (c ++ d) ≡ m + k
    long c d e f = length-append c d ∙ ap₂ (λ x y. x + y) e f

column_at : (r : Ring) (m : ℕ) (cs : List (List PolyValue)) (j : ℕ) → AreColumns r m cs → j < length cs → AreOver r (get_or cs j []) × (length (get_or cs j []) ≡ m)
column_at r m [] j a h = absurd (omega (arith, h))
column_at r m (c ∷ cs) zero a h = (a.0, a.1)
column_at r m (c ∷ cs) (suc j) a h = column_at r m cs j a.2 (omega (arith, h))

pub columns_picked : (r : Ring) (m : ℕ) (cs : List (List PolyValue)) (js : List ℕ) → AreColumns r m cs → AreNumbers (length cs) js → AreColumns r m (map (λ j. get_or cs (j - 1) []) js)
columns_picked r m cs [] a h = tt
columns_picked r m cs (j ∷ js) a h = let at = column_at r m cs (j - 1) a (inside j h.0 h.1) in (at.0, at.1, columns_picked r m cs js a h.2)
  where
    inside : (j : ℕ) → 1 ≤ j → j ≤ length cs → j - 1 < length cs
    inside j l h = omega (arith, l, h)

pub picked_few : (cs out : List (List PolyValue)) (js : List ℕ) → out ≡ map (λ j. get_or cs (j - 1) []) js → length js < 2 ^ 32 → length out < 2 ^ 32
picked_few cs out js h few = let l = ap length h ∙ map_length (λ j. get_or cs (j - 1) []) js in omega (arith, l, few)

-- ---- meanings
pub entry_meaning : (r : Ring) (fs : List PolyValue) (i : ℕ) (d : PolyValue) → i < length fs → meaning r (get_or fs i d).terms ≡ component (polynomials r.prime r.vars) (column_meaning r fs) i
unfolding component
entry_meaning r [] i d h = absurd (omega (arith, h))
entry_meaning r (f ∷ fs) zero d h = refl
entry_meaning r (f ∷ fs) (suc i) d h = entry_meaning r fs i d (omega (arith, h))

pub entry_over : (r : Ring) (fs : List PolyValue) (i : ℕ) (d : PolyValue) → AreOver r fs → i < length fs → (get_or fs i d).ring ≡ r
entry_over r [] i d o h = absurd (omega (arith, h))
entry_over r (f ∷ fs) zero d o h = o.0
entry_over r (f ∷ fs) (suc i) d o h = entry_over r fs i d o.1 (omega (arith, h))

above_meaning : (r : Ring) (cs ds : List (List PolyValue)) → columns_meaning r (each_above cs ds) ≡ each_above (columns_meaning r cs) (columns_meaning r ds)
above_meaning r [] ds = refl
above_meaning r (c ∷ cs) [] = refl
above_meaning r (c ∷ cs) (d ∷ ds) = ap₂ (λ x xs. x ∷ xs) (map-append (λ (f : PolyValue). meaning r f.terms) c d) (above_meaning r cs ds)

picked_meaning : (r : Ring) (cs : List (List PolyValue)) (js : List ℕ)
    → columns_meaning r (map (λ j. get_or cs (j - 1) []) js) ≡ map (λ j. get_or (columns_meaning r cs) j []) (map (λ j. j - 1) js)
picked_meaning r cs [] = refl
picked_meaning r cs (j ∷ js) = ap₂ (λ x xs. x ∷ xs) (at cs (j - 1)) (picked_meaning r cs js)
  where
    at : (cs : List (List PolyValue)) (i : ℕ) → column_meaning r (get_or cs i []) ≡ get_or (columns_meaning r cs) i []
    at [] i = refl
    at (c ∷ cs) zero = refl
    at (c ∷ cs) (suc i) = at cs i

abbrev of_columns : (r : Ring) → ℕ → List (List PolyValue) → PolynomialMatrix r.prime r.vars
of_columns r m cs = record { rows = m; columns = columns_meaning r cs }

pub means_unit : (r : Ring) (m : ℕ) (out : List (List PolyValue)) → columns_meaning r out ≡ listed m (unit_vector r.prime r.vars m) → of_columns r m out ≡ matrix_unit r.prime r.vars m
means_unit r m out h = ap (λ cs. record { rows = m; columns = cs }) h ∙ sym (unit_is r.prime r.vars m)

module _ (r' r : Ring) (same : r' ≡ r) where
  pub means_product : (m k : ℕ) (a b out : List (List PolyValue)) → columns_meaning r' out ≡ map (vector_product r'.prime r'.vars (of_columns r' m a)) (columns_meaning r' b)
      → of_columns r m out ≡ matrix_product r.prime r.vars (of_columns r m a) (of_columns r k b)
  means_product m k a b out h = subst (λ (s : Ring). of_columns s m out ≡ matrix_product s.prime s.vars (of_columns s m a) (of_columns s k b)) same
      (ap (λ cs. record { rows = m; columns = cs }) h ∙ sym (columns_product r'.prime r'.vars (of_columns r' m a) (of_columns r' k b)))

  pub means_twist : (e m : ℕ) (a out : List (List PolyValue)) → AreColumns r' m a → columns_meaning r' out ≡ map (map (frobenius_twist r'.prime r'.vars e)) (columns_meaning r' a)
      → of_columns r m out ≡ matrix_twist r.prime r.vars e (of_columns r m a)
  means_twist e m a out shape h = subst (λ (s : Ring). of_columns s m out ≡ matrix_twist s.prime s.vars e (of_columns s m a)) same
      (ap (λ cs. record { rows = m; columns = cs }) h ∙ sym (twist_is r'.prime r'.vars e m (columns_meaning r' a) (columns_long r' m a shape)))

  pub means_transpose : (m c : ℕ) (a out : List (List PolyValue)) → c ≡ length a → columns_meaning r' out ≡ listed m (λ i. row_of r'.prime r'.vars i (columns_meaning r' a))
      → of_columns r c out ≡ matrix_transpose r.prime r.vars (of_columns r m a)
  means_transpose m c a out count h = subst (λ (s : Ring). of_columns s c out ≡ matrix_transpose s.prime s.vars (of_columns s m a)) same
      (ap₂ (λ i cs. record { rows = i; columns = cs }) (count ∙ sym (map_length (column_meaning r') a)) h ∙ sym (transpose_is r'.prime r'.vars (of_columns r' m a)))

  pub means_beside : (m k : ℕ) (a b out : List (List PolyValue)) → AreColumns r' m a → AreColumns r' m b → k ≡ m → out ≡ a ++ b
      → of_columns r m out ≡ matrix_beside r.prime r.vars (of_columns r m a) (of_columns r k b)
  means_beside m k a b out A B e h = subst (λ (s : Ring). of_columns s m out ≡ matrix_beside s.prime s.vars (of_columns s m a) (of_columns s k b)) same
      (ap (of_columns r' m) h ∙ ap (λ cs. record { rows = m; columns = cs }) (map-append (column_meaning r') a b)
      ∙ sym (beside_is r'.prime r'.vars m (columns_meaning r' a) (columns_meaning r' b) (columns_long r' m a A) (columns_long r' m b B))
      ∙ ap (λ i. matrix_beside r'.prime r'.vars (of_columns r' m a) (of_columns r' i b)) (sym e))

  pub means_above : (m k : ℕ) (a b out : List (List PolyValue)) → AreColumns r' m a → AreColumns r' k b → length b ≡ length a → out ≡ each_above a b
      → of_columns r (m + k) out ≡ matrix_above r.prime r.vars (of_columns r m a) (of_columns r k b)
  means_above m k a b out A B e h = subst (λ (s : Ring). of_columns s (m + k) out ≡ matrix_above s.prime s.vars (of_columns s m a) (of_columns s k b)) same
      (ap (of_columns r' (m + k)) h ∙ ap (λ cs. record { rows = m + k; columns = cs }) (above_meaning r' a b)
      ∙ sym (above_is r'.prime r'.vars m k (columns_meaning r' a) (columns_meaning r' b) (columns_long r' m a A) (columns_long r' k b B)
      (map_length (column_meaning r') b ∙ e ∙ sym (map_length (column_meaning r') a))))

  pub means_picked : (m : ℕ) (a out : List (List PolyValue)) (js : List ℕ) → out ≡ map (λ j. get_or a (j - 1) []) js
      → of_columns r m out ≡ matrix_picked r.prime r.vars (of_columns r m a) (map (λ j. j - 1) js)
  means_picked m a out js h = subst (λ (s : Ring). of_columns s m out ≡ matrix_picked s.prime s.vars (of_columns s m a) (map (λ j. j - 1) js)) same
      (ap (of_columns r' m) h ∙ ap (λ cs. record { rows = m; columns = cs }) (picked_meaning r' a js)
      ∙ sym (picked_is r'.prime r'.vars (of_columns r' m a) (map (λ j. j - 1) js)))

pub columns_under : (r r' : Ring) (m m' : ℕ) (cs cs' : List (List PolyValue)) → r ≡ r' → m ≡ m' → cs ≡ cs' → AreColumns r m cs → AreColumns r' m' cs'
columns_under r r' m m' cs cs' e f g a = subst (λ xs. AreColumns r' m' xs) g (subst (λ k. AreColumns r' k cs) f (subst (λ t. AreColumns t m cs) e a))

-- ---- the clauses of the calls: A has the ring r', m rows and the columns a
module _ (A : MatrixValue) (r' : Ring) (m : ℕ) (a : List (List PolyValue)) (is : record { ring = r'; rows = m; columns = a } ≡ A) where
  read : (r : Ring) → of_columns r m a ≡ matrix_meaning r A
  read r = ap (matrix_meaning r) is

  named : (r : Ring) → A.ring ≡ r → r' ≡ r
  named r e = ap (λ (M : MatrixValue). M.ring) is ∙ e

  pub twist_value : (e : ℕ) (out : List (List PolyValue)) → AreColumns r' m a → columns_meaning r' out ≡ map (map (frobenius_twist r'.prime r'.vars e)) (columns_meaning r' a)
      → (r : Ring) → A.ring ≡ r → of_columns r m out ≡ matrix_twist r.prime r.vars e (matrix_meaning r A)
  twist_value e out shape h r same = means_twist r' r (named r same) e m a out shape h ∙ ap (matrix_twist r.prime r.vars e) (read r)

  pub twist_test : (e : ℕ) (x : Bool) → list_all (λ c. list_all (twist_fits r'.prime r'.vars e) c) (columns_meaning r' a) ≡ x → (r : Ring) → A.ring ≡ r → entries_fit r.prime r.vars e (matrix_meaning r A) ≡ x
  twist_test e x h r same = ap (entries_fit r.prime r.vars e) (sym (read r)) ∙ ap (λ (s : Ring). list_all (λ c. list_all (twist_fits s.prime s.vars e) c) (columns_meaning s a)) (sym (named r same)) ∙ h

  pub flip_value : (c : ℕ) (out : List (List PolyValue)) → c ≡ length a → columns_meaning r' out ≡ listed m (λ i. row_of r'.prime r'.vars i (columns_meaning r' a))
      → (r : Ring) → A.ring ≡ r → of_columns r c out ≡ matrix_transpose r.prime r.vars (matrix_meaning r A)
  flip_value c out count h r same = means_transpose r' r (named r same) m c a out count h ∙ ap (matrix_transpose r.prime r.vars) (read r)

  pub pick_value : (out : List (List PolyValue)) (js : List ℕ) → out ≡ map (λ j. get_or a (j - 1) []) js
      → (r : Ring) → A.ring ≡ r → of_columns r m out ≡ matrix_picked r.prime r.vars (matrix_meaning r A) (map (λ j. j - 1) js)
  pick_value out js h r same = means_picked r' r (named r same) m a out js h ∙ ap (λ M. matrix_picked r.prime r.vars M (map (λ j. j - 1) js)) (read r)

  module _ (B : MatrixValue) (s : Ring) (k : ℕ) (b : List (List PolyValue)) (also : record { ring = s; rows = k; columns = b } ≡ B) where
    beyond : (r : Ring) → of_columns r k b ≡ matrix_meaning r B
    beyond r = ap (matrix_meaning r) also

    pub times_value : (out : List (List PolyValue)) → columns_meaning r' out ≡ map (vector_product r'.prime r'.vars (of_columns r' m a)) (columns_meaning r' b)
        → (r : Ring) → A.ring ≡ r → of_columns r m out ≡ matrix_product r.prime r.vars (matrix_meaning r A) (matrix_meaning r B)
    times_value out h r same = means_product r' r (named r same) m k a b out h ∙ ap₂ (matrix_product r.prime r.vars) (read r) (beyond r)

    pub times_test : (x : Bool) → list_all (products_fit r'.prime r'.vars (columns_meaning r' a)) (columns_meaning r' b) ≡ x
        → (r : Ring) → A.ring ≡ r → list_all (products_fit r.prime r.vars (columns_meaning r A.columns)) (columns_meaning r B.columns) ≡ x
    times_test x h r same =
        ap₂ (λ y z. list_all (products_fit r.prime r.vars (columns_meaning r y)) (columns_meaning r z)) (sym (ap (λ (M : MatrixValue). M.columns) is)) (sym (ap (λ (M : MatrixValue). M.columns) also))
        ∙ ap (λ (t : Ring). list_all (products_fit t.prime t.vars (columns_meaning t a)) (columns_meaning t b)) (sym (named r same)) ∙ h

    under : B.ring ≡ A.ring → s ≡ r'
    under e = ap (λ (M : MatrixValue). M.ring) also ∙ e ∙ sym (ap (λ (M : MatrixValue). M.ring) is)

    level : B.rows ≡ A.rows → k ≡ m
    level e = ap (λ (M : MatrixValue). M.rows) also ∙ e ∙ sym (ap (λ (M : MatrixValue). M.rows) is)

    even : length B.columns ≡ length A.columns → length b ≡ length a
    even e = ap (λ (M : MatrixValue). length M.columns) also ∙ e ∙ sym (ap (λ (M : MatrixValue). length M.columns) is)

    module _ (shape : AreColumns r' m a) (own : AreColumns s k b) (ring : B.ring ≡ A.ring) where
      pub beside_columns : (out : List (List PolyValue)) → out ≡ a ++ b → B.rows ≡ A.rows → AreColumns r' m out
      beside_columns out h e = subst (AreColumns r' m) (sym h) (columns_joined r' m a b shape (columns_under s r' k m b b (under ring) (level e) refl own))

      pub beside_value : (out : List (List PolyValue)) → out ≡ a ++ b → B.rows ≡ A.rows
          → (r : Ring) → A.ring ≡ r → of_columns r m out ≡ matrix_beside r.prime r.vars (matrix_meaning r A) (matrix_meaning r B)
      beside_value out h e r same = means_beside r' r (named r same) m k a b out shape (columns_under s r' k m b b (under ring) (level e) refl own) (level e) h
          ∙ ap₂ (matrix_beside r.prime r.vars) (read r) (beyond r)

      pub beside_few : (out : List (List PolyValue)) → out ≡ a ++ b → length A.columns + length B.columns < 2 ^ 32 → length out < 2 ^ 32
      beside_few out h few = let e = ap length h ∙ length-append a b in let x = ap (λ (M : MatrixValue). length M.columns) is in let y = ap (λ (M : MatrixValue). length M.columns) also in omega (arith, e, x, y, few)

      pub stack_columns : (out : List (List PolyValue)) → out ≡ each_above a b → AreColumns r' (m + k) out
      stack_columns out h = subst (AreColumns r' (m + k)) (sym h) (columns_above r' m k a b shape (columns_under s r' k k b b (under ring) refl refl own))

      pub stack_count : (out : List (List PolyValue)) → out ≡ each_above a b → length B.columns ≡ length A.columns → length out ≡ length A.columns
      stack_count out h e = ap length h ∙ each_above_length a b (even e) ∙ ap (λ (M : MatrixValue). length M.columns) is

      pub stack_value : (out : List (List PolyValue)) → out ≡ each_above a b → length B.columns ≡ length A.columns
          → (r : Ring) → A.ring ≡ r → of_columns r (m + k) out ≡ matrix_above r.prime r.vars (matrix_meaning r A) (matrix_meaning r B)
      stack_value out h e r same = means_above r' r (named r same) m k a b out shape (columns_under s r' k k b b (under ring) refl refl own) (even e) h
          ∙ ap₂ (matrix_above r.prime r.vars) (read r) (beyond r)

      pub stack_few : (out : List (List PolyValue)) → out ≡ each_above a b → length B.columns ≡ length A.columns → length a < 2 ^ 32 → length out < 2 ^ 32
      stack_few out h e few = let l = ap length h ∙ each_above_length a b (even e) in omega (arith, l, few)
