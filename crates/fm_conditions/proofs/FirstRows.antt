-- The first rows of the syzygies that are read from members.
use Rattle.std.proofs.Common.{ℕ, zero, suc, ◌+◌, ◌≡◌, cond, List, [], ◌∷◌, length, map, take, drop, refl, sym, ap, ap₂, ◌∙◌, subst, arith}
use Rattle.std.specs.List.{filter}
use Rattle.std.proofs.lemmas.List.{length-drop, get_or-drop}
use Rattle.fm_algebra.specs.Ring.{Ring as AlgebraRing}
use Rattle.fm_algebra.specs.Matrix.{component}
use Rattle.fm_algebra.specs.Polynomials.{Polynomial, polynomials}
use Rattle.fm_algebra.proofs.Concrete.{polynomials_laws}
use Rattle.fm_poly.specs.Polys.{PolyValue}
use Rattle.fm_poly.specs.declared.ring.Ring.{Ring}
use Rattle.fm_term.specs.declared.vterm.VTerm.{VTerm}
use Rattle.fm_term.specs.Meanings.{vector_of}
use Rattle.fm_vec.specs.Vectors.{VectorValue}
use Rattle.fm_vec.specs.Components.{AreOver, component_meaning}
use Rattle.fm_groebner.specs.Syzygies.{is_lower, lower_members, syzygies, first_rows}
use Rattle.fm_groebner.proofs.Vectors.{length_vector}
use Rattle.fm_groebner.proofs.GraphMatrices.{same_components}
use Rattle.fm_complete.specs.Divisions.{terms_of}
use Rattle.fm_complete.proofs.Meanings.{part_is, length_components, components_at}
use Rattle.fm_graphs.specs.Graphs.{is_below, lower_block}
use Rattle.fm_mat.specs.Matrices.{MatrixValue, column_meaning, columns_meaning, matrix_meaning}
use Rattle.fm_mat.proofs.Steps.{map_length}

-- ---- the members whose upper block is zero
same_test : (m : ℕ) (g : List VTerm) → is_below m g ≡ is_lower m g
same_test m [] = refl
same_test m (t ∷ ts) = refl

below_lower : (m : ℕ) (gs : List (List VTerm)) → filter (is_below m) gs ≡ lower_members m gs
below_lower m [] = refl
below_lower m (g ∷ gs) = ap₂ (λ b rest. cond b (g ∷ rest) rest) (same_test m g) (below_lower m gs)

module _ (r : Ring) where
  abbrev P : AlgebraRing
  P = polynomials r.prime r.vars

  component_dropped : (m : ℕ) (v : List (Polynomial r.prime r.vars)) (i : ℕ) → component P (drop m v) i ≡ component P v (m + i)
  unfolding component
  component_dropped m v i = get_or-drop m v i P.zero

  -- the components behind the first m are the lower block
  block_is : (m c : ℕ) (ts : List VTerm) → lower_block r m c ts ≡ drop m (vector_of r.prime r.vars (m + c) ts)
  block_is m c ts =
      let v = vector_of r.prime r.vars (m + c) ts in
      let long : length (drop m v) ≡ c = (let a = length-drop m v in let b = length_vector r.prime r.vars (m + c) ts in omega (arith, a, b)) in
      same_components P (polynomials_laws r.prime r.vars) c (lower_block r m c ts) (drop m v) (length_components r c (suc m) ts) long
      (λ i h. components_at r c (suc m) ts i h ∙ ap (λ k. component_meaning r k ts) (moved m i) ∙ sym (component_dropped m v i ∙ part_is r (m + c) ts (m + i) (omega (arith, h))))
    where
      moved : (m i : ℕ) → suc m + i ≡ suc (m + i)
      moved m i = omega arith

  blocks_are : (m c : ℕ) (gs : List (List VTerm)) → map (lower_block r m c) gs ≡ map (λ g. drop m (vector_of r.prime r.vars (m + c) g)) gs
  blocks_are m c [] = refl
  blocks_are m c (g ∷ gs) = ap₂ (λ x xs. x ∷ xs) (block_is m c g) (blocks_are m c gs)

  -- ---- what is read
  module _ (g : MatrixValue) (members : List VectorValue) (columns : List (List PolyValue))
      (read : columns_meaning r columns ≡ map (lower_block r g.rows (length g.columns)) (filter (is_below g.rows) (terms_of members))) where
    abbrev lower : List (List VTerm)
    lower = lower_members g.rows (terms_of members)

    syzygies_read : columns_meaning r columns ≡ (syzygies r.prime r.vars (matrix_meaning r g) (terms_of members)).columns
    syzygies_read =
        read ∙ ap (map (lower_block r g.rows (length g.columns))) (below_lower g.rows (terms_of members)) ∙ blocks_are g.rows (length g.columns) lower
        ∙ ap (λ k. map (λ ts. drop g.rows (vector_of r.prime r.vars (g.rows + k) ts)) lower) (sym (map_length (column_meaning r) g.columns))

    pub lower_count : length columns ≡ length lower
    lower_count =
        sym (map_length (column_meaning r) columns) ∙ ap (λ (vs : List (List (Polynomial r.prime r.vars))). length vs) read
        ∙ map_length (lower_block r g.rows (length g.columns)) (filter (is_below g.rows) (terms_of members))
        ∙ ap (λ (gs : List (List VTerm)). length gs) (below_lower g.rows (terms_of members))

    pub first_count : (count : ℕ) (first : List (List PolyValue)) → columns_meaning r first ≡ map (take count) (columns_meaning r columns) → length first ≡ length lower
    first_count count first e =
        sym (map_length (column_meaning r) first) ∙ ap (λ (vs : List (List (Polynomial r.prime r.vars))). length vs) e
        ∙ map_length (take count) (columns_meaning r columns) ∙ map_length (column_meaning r) columns ∙ lower_count

    pub first_are : (count : ℕ) (first : List (List PolyValue)) (m : MatrixValue) → columns_meaning r first ≡ map (take count) (columns_meaning r columns) → m.rows ≡ count → m.columns ≡ first
        → matrix_meaning r m ≡ first_rows r.prime r.vars count (syzygies r.prime r.vars (matrix_meaning r g) (terms_of members))
    first_are count first m e rows is =
        ap₂ (λ n (vs : List (List (Polynomial r.prime r.vars))). record { rows = n; columns = vs }) rows (ap (columns_meaning r) is ∙ e ∙ ap (map (take count)) syzygies_read)

-- ---- the first entries of columns
pub first_over : (r : Ring) (n : ℕ) (fs : List PolyValue) → AreOver r fs → AreOver r (take n fs)
first_over r zero fs o = tt
first_over r (suc n) [] o = tt
first_over r (suc n) (f ∷ fs) o = (o.0, first_over r n fs o.1)

-- what was read, over the ring of the matrix
pub read_is : (r s : Ring) (g : MatrixValue) (members : List VectorValue) (columns : List (List PolyValue)) (m k : ℕ) → s ≡ r → m ≡ g.rows → k ≡ length g.columns
    → columns_meaning s columns ≡ map (lower_block s m k) (filter (is_below m) (terms_of members)) → columns_meaning r columns ≡ map (lower_block r g.rows (length g.columns)) (filter (is_below g.rows) (terms_of members))
read_is r s g members columns m k e p q h =
    subst (λ j. columns_meaning r columns ≡ map (lower_block r g.rows j) (filter (is_below g.rows) (terms_of members))) q
    (subst (λ i. columns_meaning r columns ≡ map (lower_block r i k) (filter (is_below i) (terms_of members))) p
    (subst (λ (t : Ring). columns_meaning t columns ≡ map (lower_block t m k) (filter (is_below m) (terms_of members))) e h))

pub firsts_are : (r s : Ring) (count : ℕ) (first whole columns : List (List PolyValue)) → s ≡ r → whole ≡ columns → columns_meaning s first ≡ map (take count) (columns_meaning s whole)
    → columns_meaning r first ≡ map (take count) (columns_meaning r columns)
firsts_are r s count first whole columns e same h =
    subst (λ cs. columns_meaning r first ≡ map (take count) (columns_meaning r cs)) same (subst (λ (t : Ring). columns_meaning t first ≡ map (take count) (columns_meaning t whole)) e h)
