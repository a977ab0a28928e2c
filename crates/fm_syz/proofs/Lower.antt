-- The lower part of the column of a vector.
use Rattle.std.proofs.Common.{ℕ, zero, suc, ◌+◌, ◌≡◌, Bool, true, cond, List, [], ◌∷◌, ◌++◌, length, map, drop, refl, sym, ap, ap₂, ◌∙◌, arith}
use Rattle.std.specs.List.{filter}
use Rattle.fm_algebra.specs.Polynomials.{Polynomial}
use Rattle.fm_poly.specs.declared.ring.Ring.{Ring}
use Rattle.fm_poly.specs.Polys.{PolyValue, meaning}
use Rattle.fm_term.specs.declared.vterm.VTerm.{VTerm}
use Rattle.fm_vec.specs.Vectors.{VectorValue}
use Rattle.fm_vec.specs.Components.{AreOver, column_from, component_terms, component_meaning, components_meaning}
use Rattle.fm_mat.specs.Matrices.{column_meaning, columns_meaning}
use Rattle.fm_mat.proofs.Steps.{mapped_more}
use Rattle.fm_graphs.specs.Graphs.{is_below, lower_block}

module _ (r : Ring) where
  pub lower_part : (m c k : ℕ) (ts : List VTerm) → drop m (column_from r (m + c) k ts) ≡ column_from r c (k + m) ts
  lower_part zero c k ts = ap₂ (λ i j. column_from r i j ts) (front c) (plain k)
    where
      front : (c : ℕ) → 0 + c ≡ c
      front c = omega arith

      plain : (k : ℕ) → k ≡ k + 0
      plain k = omega arith
  lower_part (suc m) c k ts =
      ap (λ i. drop (suc m) (column_from r i k ts)) (front m c) ∙ lower_part m c (suc k) ts ∙ ap (λ j. column_from r c j ts) (moved k m)
    where
      front : (m c : ℕ) → suc m + c ≡ suc (m + c)
      front m c = omega arith

      moved : (k m : ℕ) → suc k + m ≡ k + suc m
      moved k m = omega arith

  pub components_are : (n k : ℕ) (ts : List VTerm) → column_meaning r (column_from r n k ts) ≡ components_meaning r n k ts
  unfolding components_meaning component_meaning
  components_are zero k ts = refl
  components_are (suc n) k ts = ap (λ x. meaning r (component_terms k ts) ∷ x) (components_are n (suc k) ts)

  pub over_column : (n k : ℕ) (ts : List VTerm) → AreOver r (column_from r n k ts)
  over_column zero k ts = tt
  over_column (suc n) k ts = (refl, over_column n (suc k) ts)

  pub length_column : (n k : ℕ) (ts : List VTerm) → length (column_from r n k ts) ≡ n
  length_column zero k ts = refl
  length_column (suc n) k ts = ap suc (length_column n (suc k) ts)

  -- the lower part of the column of a vector with m + c components
  pub lower_is : (v : VectorValue) (m c : ℕ) (column lower : List PolyValue) → v.ring ≡ r → v.rows ≡ m + c → column ≡ column_from v.ring v.rows 1 v.terms → lower ≡ drop m column
      → lower ≡ column_from r c (suc m) v.terms
  lower_is v m c column lower ring rows is e =
      e ∙ ap (drop m) (is ∙ ap₂ (λ s n. column_from s n 1 v.terms) ring rows) ∙ lower_part m c 1 v.terms ∙ ap (λ k. column_from r c k v.terms) (next m)
    where
      next : (m : ℕ) → 1 + m ≡ suc m
      next m = omega arith

  -- a vector after the taken ones
  module _ (m c : ℕ) (ts : List VTerm) (rest : List (List VTerm)) (all : List (List (Polynomial r.prime r.vars))) where
    abbrev Lowers : List (List VTerm) → List (List (Polynomial r.prime r.vars))
    Lowers ms = map (lower_block r m c) (filter (is_below m) ms)

    pub block_taken : (below : Bool) (out out' : List (List PolyValue)) (lower : List PolyValue) → below ≡ true → below ≡ is_below m ts → lower ≡ column_from r c (suc m) ts → out' ≡ out ++ lower ∷ []
        → columns_meaning r out ++ Lowers (ts ∷ rest) ≡ all → columns_meaning r out' ++ Lowers rest ≡ all
    block_taken below out out' lower here is e pushed whole =
        mapped_more (column_meaning r) out lower (lower_block r m c ts) (Lowers rest) all out' pushed (ap (column_meaning r) e ∙ components_are c (suc m) ts)
        (ap (λ b. columns_meaning r out ++ map (lower_block r m c) (cond b (ts ∷ filter (is_below m) rest) (filter (is_below m) rest))) (sym here ∙ is) ∙ whole)
