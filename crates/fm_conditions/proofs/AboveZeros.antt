-- Columns of matrices, above zeros.
use Rattle.std.proofs.Common.{ℕ, zero, suc, ◌+◌, ◌<◌, ◌≤◌, ◌≡◌, List, [], ◌∷◌, length, get_or, refl, sym, ap, ◌∙◌, subst, arith}
use Rattle.fm_poly.specs.Polys.{PolyValue}
use Rattle.fm_poly.specs.declared.ring.Ring.{Ring}
use Rattle.fm_vec.specs.Vectors.{VectorValue, IsVector}
use Rattle.fm_vec.specs.Components.{AreOver, column_terms}
use Rattle.fm_complete.specs.Divisions.{AreMembers}
use Rattle.fm_complete.specs.Standing.{AreOfShape}
use Rattle.fm_mat.specs.Matrices.{MatrixValue, AreColumns, column_meaning, columns_meaning}
use Rattle.fm_parts.specs.Conditions.{above_zeros}
use Rattle.fm_syz.proofs.Border.{lift_terms, wider}

pub members_shape : (r : Ring) (rows : ℕ) (vs : List VectorValue) → AreMembers r rows vs → AreOfShape r rows vs
members_shape r rows [] h = tt
members_shape r rows (v ∷ vs) h = (h.0, h.1, members_shape r rows vs h.3)

pub no_terms : (r : Ring) (m : ℕ) → IsVector r m []
no_terms r m = record { falls = tt; proper = tt; within = tt }

module _ (r : Ring) where
  -- no entries above zeros
  pub zeros_only : (c : ℕ) → above_zeros r [] c ≡ []
  zeros_only c = lift_terms r c [] tt (no_terms r (0 + c))

  -- the vector with these entries, which falls
  module _ (v : VectorValue) (fs : List PolyValue) (made : v ≡ record { ring = r; rows = length fs; terms = column_terms 1 fs }) (falls : IsVector v.ring v.rows v.terms) where
    entries_fall : IsVector r (length fs) (column_terms 1 fs)
    entries_fall = subst (λ (x : VectorValue). IsVector x.ring x.rows x.terms) made falls

    pub entries_fit : (n : ℕ) → length fs ≤ n → IsVector r n v.terms
    entries_fit n l = subst (IsVector r n) (sym (ap (λ (x : VectorValue). x.terms) made)) (wider r (length fs) n (column_terms 1 fs) l entries_fall)

    pub entries_above : (c : ℕ) → AreOver r fs → v.terms ≡ above_zeros r (column_meaning r fs) c
    entries_above c over =
        ap (λ (x : VectorValue). x.terms) made ∙ sym (lift_terms r c fs over (wider r (length fs) (length fs + c) (column_terms 1 fs) (omega arith) entries_fall))

  -- ---- columns by their numbers
  pub column_shape : (m : ℕ) (cs : List (List PolyValue)) (i : ℕ) (c : List PolyValue) → AreColumns r m cs → i < length cs → c ≡ get_or cs i c → AreOver r c × (length c ≡ m)
  column_shape m [] i c s h e = absurd (omega (arith, h))
  column_shape m (d ∷ cs) zero c s h e = (subst (AreOver r) (sym e) s.0, ap (λ (x : List PolyValue). length x) e ∙ s.1)
  column_shape m (d ∷ cs) (suc i) c s h e = column_shape m cs i c s.2 (omega (arith, h)) e

  pub column_means : (cs : List (List PolyValue)) (i : ℕ) (c : List PolyValue) → i < length cs → c ≡ get_or cs i c → column_meaning r c ≡ get_or (columns_meaning r cs) i []
  column_means [] i c h e = absurd (omega (arith, h))
  column_means (d ∷ cs) zero c h e = ap (column_meaning r) e
  column_means (d ∷ cs) (suc i) c h e = column_means cs i c (omega (arith, h)) e

  pub no_column : (cs : List (List PolyValue)) (i : ℕ) → length cs ≤ i → get_or (columns_meaning r cs) i [] ≡ []
  no_column [] i h = refl
  no_column (d ∷ cs) zero h = absurd (omega (arith, h))
  no_column (d ∷ cs) (suc i) h = no_column cs i (omega (arith, h))

  pub column_at : (v : MatrixValue) (cs : List (List PolyValue)) (i : ℕ) (c es : List PolyValue) → v.ring ≡ r → cs ≡ v.columns → AreColumns v.ring v.rows v.columns → i < length cs → c ≡ get_or cs i c → es ≡ c
      → AreOver r es × (length es ≡ v.rows)
  column_at v cs i c es ring same shape h e is =
      let k = column_shape v.rows cs i c (subst (λ xs. AreColumns r v.rows xs) (sym same) (subst (λ (s : Ring). AreColumns s v.rows v.columns) ring shape)) h e in
      (subst (AreOver r) (sym is) k.0, ap (λ (x : List PolyValue). length x) is ∙ k.1)

  pub column_read : (vs cs : List (List PolyValue)) (i : ℕ) (c es : List PolyValue) → cs ≡ vs → i < length cs → c ≡ get_or cs i c → es ≡ c → column_meaning r es ≡ get_or (columns_meaning r vs) i []
  column_read vs cs i c es same h e is = ap (column_meaning r) is ∙ column_means cs i c h e ∙ ap (λ xs. get_or (columns_meaning r xs) i []) same
