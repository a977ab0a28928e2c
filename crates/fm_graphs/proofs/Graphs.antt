-- Completed graphs: the lower blocks generate the kernel, and a lift decides the image.
use Rattle.std.proofs.Common.{ℕ, suc, ◌+◌, ◌≡◌, ◌↔◌, ◌⊎◌, inl, inr, Bool, true, false, List, [], ◌∷◌, ◌++◌, map, length, cond, Contains, refl, sym, ap, ap₂, ◌∙◌, subst, arith}
use Rattle.std.proofs.lemmas.Bool.{ltb-true, lt-ltb}
use Rattle.std.proofs.lemmas.List.{length-map, length-append, length-replicate}
use Rattle.std.specs.List.{filter}
use Rattle.fm_algebra.specs.Ring.{Ring as AlgebraRing, IsRing}
use Rattle.fm_algebra.specs.Matrix.{component}
use Rattle.fm_algebra.specs.Polynomials.{Polynomial, polynomials, polynomial_zero, polynomial_negative}
use Rattle.fm_algebra.specs.PolynomialMatrices.{HasShape, InImage, InKernel, vector_product, matrix_above, matrix_unit}
use Rattle.fm_algebra.proofs.Concrete.{polynomials_laws}
use Rattle.fm_algebra.proofs.Tables.{stacked_shaped, unit_shaped}
use Rattle.fm_term.specs.Falling.{IsFalling, IsBelowBlock}
use Rattle.fm_term.specs.Meanings.{vector_of, vectors_of}
use Rattle.fm_groebner.specs.Bases.{IsGroebnerBasis}
use Rattle.fm_groebner.specs.Graphs.{graph, graph_rows, zero_vector, AreLowerBlocks}
use Rattle.fm_groebner.proofs.Setting.{In, here, there}
use Rattle.fm_groebner.proofs.Numbers.{in_of_contains, contains_of_in, in_of_map}
use Rattle.fm_groebner.proofs.Setting.{in_map}
use Rattle.fm_groebner.proofs.Vectors.{length_vector}
use Rattle.fm_groebner.proofs.GraphMatrices.{component_right, same_components}
use Rattle.fm_groebner.proofs.Graphs.{kernel_of_graph, image_of_graph, solution_of_rest}
use Rattle.fm_groebner.proofs.Consequences.{upper_block}
use Rattle.fm_poly.specs.declared.ring.Ring.{Ring}
use Rattle.fm_term.specs.declared.vterm.VTerm.{VTerm}
use Rattle.fm_vec.specs.Vectors.{IsVector}
use Rattle.fm_vec.specs.Components.{component_meaning}
use Rattle.fm_complete.specs.Reductions.{Reduced}
use Rattle.fm_complete.specs.Combinations.{AreVectors}
use Rattle.fm_run.specs.Runs.{ready}
use Rattle.fm_graphs.specs.Listing.{VectorOf, terms_of}
use Rattle.fm_complete.specs.Completions.{Completion, completed}
use Rattle.fm_graphs.specs.Graphs.{MatrixOf, Graph, IsCompletedGraph, width, graph_run, is_below, lower_block, syzygies, lift_run, is_inside, solution}
use Rattle.fm_run.proofs.Ends.{Ends, same_value, bound}
use Rattle.fm_complete.proofs.Meanings.{part_is, length_components, components_at}
use Rattle.fm_complete.proofs.HeadReductions.{Reduction, division, are_falling, in_vectors}
use Rattle.fm_complete.proofs.CompleteLogs.{completed_is, completed_basis}
use Rattle.fm_graphs.proofs.Listing.{terms_vector, terms_mean}
use Rattle.fm_complete.proofs.PendingPairs.{in_cases}
use Rattle.fm_graphs.proofs.Columns.{AllLong, column_length}

-- what passes a test
in_kept : {X : Type 0} (b : Bool) (y : X) (ys : List X) (x : X) → In (cond b (y ∷ ys) ys) x → ((x ≡ y) × (b ≡ true)) ⊎ In ys x
in_kept true y ys x i = elim (in_cases y ys x i) [ inl e ↦ inl (e, refl) | inr j ↦ inr j ]
in_kept false y ys x i = inr i

kept_in : {X : Type 0} (b : Bool) (y : X) (ys : List X) (x : X) → In ys x → In (cond b (y ∷ ys) ys) x
kept_in true y ys x i = there i
kept_in false y ys x i = i

pub in_filter : {X : Type 0} (test : X → Bool) (xs : List X) (x : X) → In (filter test xs) x → In xs x × (test x ≡ true)
in_filter test [] x i = elim i [ ]
in_filter test (y ∷ ys) x i = elim (in_kept (test y) y (filter test ys) x i) [
  | inl e ↦ (subst (In (y ∷ ys)) (sym e.0) here, ap test e.0 ∙ e.1)
  | inr j ↦ let r = in_filter test ys x j in (there r.0, r.1)
]

pub filter_in : {X : Type 0} (test : X → Bool) (xs : List X) (x : X) → In xs x → test x ≡ true → In (filter test xs) x
filter_in test [] x i e = elim i [ ]
filter_in test (y ∷ ys) x i e = elim (in_cases y ys x i) [
  | inl s ↦ subst (λ b. In (cond b (y ∷ filter test ys) (filter test ys)) x) (sym (ap test (sym s) ∙ e)) (subst (In (y ∷ filter test ys)) (sym s) here)
  | inr j ↦ kept_in (test y) y (filter test ys) x (filter_in test ys x j e)
]

module _ (r : Ring) where
  abbrev P : AlgebraRing
  P = polynomials r.prime r.vars

  abbrev PL : IsRing P
  PL = polynomials_laws r.prime r.vars

  -- ---- inputs
  pub inputs_vectors : (m : ℕ) (vs : List (VectorOf r)) → AllLong r.prime r.vars m vs → AreVectors r m (map (terms_of r) vs)
  inputs_vectors m [] l = tt
  inputs_vectors m (v ∷ vs) l = (terms_vector r m v (l v here), inputs_vectors m vs (λ w i. l w (there i)))

  pub inputs_mean : (m : ℕ) (vs : List (VectorOf r)) → AllLong r.prime r.vars m vs → vectors_of r.prime r.vars m ((map (terms_of r) vs)) ≡ vs
  inputs_mean m [] l = refl
  inputs_mean m (v ∷ vs) l = ap₂ (λ x xs. x ∷ xs) (terms_mean r m v (l v here)) (inputs_mean m vs (λ w i. l w (there i)))

  -- a completion of columns: its members are a Gröbner basis of what they span
  pub record Basis (m : ℕ) (vs : List (VectorOf r)) (c : Completion) : Type 0 where
    pub vectors : AreVectors r m c.members
    pub basis : IsGroebnerBasis r.prime r.vars m r.order (vectors_of r.prime r.vars m c.members) vs

  pub completed_columns : (m : ℕ) (vs : List (VectorOf r)) → AllLong r.prime r.vars m vs → (units left : ℕ) (c : Completion) → Ends (completed r (map (terms_of r) vs) units) c left → Basis m vs c
  completed_columns m vs l units left c e = record {
    vectors = let x = completed_is r m (map (terms_of r) vs) (inputs_vectors m vs l) units left c e in x.1.vectors;
    basis = subst (IsGroebnerBasis r.prime r.vars m r.order (vectors_of r.prime r.vars m c.members)) (inputs_mean m vs l)
        (completed_basis r m (map (terms_of r) vs) (inputs_vectors m vs l) units left c e);
  }

  -- ---- graphs
  abbrev pub rows_of : Graph r → ℕ
  rows_of g = graph_rows r.prime r.vars g.matrix

  pub graph_long : (A : MatrixOf r) → HasShape r.prime r.vars A.rows (length A.columns) A → AllLong r.prime r.vars (graph_rows r.prime r.vars A) (graph r.prime r.vars A).columns
  unfolding HasShape matrix_above matrix_unit
  graph_long A s = column_length r.prime r.vars (graph_rows r.prime r.vars A) (length A.columns) (graph r.prime r.vars A)
      (stacked_shaped P A.rows (length A.columns) (length A.columns) A (matrix_unit r.prime r.vars (length A.columns)) refl (unit_shaped P (length A.columns)).0 refl)

  pub graph_is : (A : MatrixOf r) → HasShape r.prime r.vars A.rows (length A.columns) A → (units left : ℕ) (g : Graph r) → Ends (graph_run r A units) g left → IsCompletedGraph r g × (g.matrix ≡ A)
  unfolding graph_run
  graph_is A s units left g e =
      let b = bound (completed r (map (terms_of r) (graph r.prime r.vars A).columns)) (λ c. ready (record { matrix = A; members = c.members; log = c.log })) units left g e in
      let B = completed_columns (graph_rows r.prime r.vars A) (graph r.prime r.vars A).columns (graph_long A s) units b.between b.value b.first in
      let made : Graph r = record { matrix = A; members = b.value.members; log = b.value.log } in
      let is : IsCompletedGraph r made = record { shape = s; vectors = B.vectors; basis = B.basis } in
      let same = same_value made g b.between left b.second in
      (subst (IsCompletedGraph r) same is, sym (ap (λ (h : Graph r). h.matrix) same))

  -- ---- blocks
  below_means : (m : ℕ) (ts : List VTerm) → is_below m ts ≡ true → IsBelowBlock m ts
  below_means m [] e = tt
  below_means m (t ∷ ts) e = ltb-true m t.component e

  below_if : (m : ℕ) (ts : List VTerm) → IsBelowBlock m ts → is_below m ts ≡ true
  below_if m [] h = refl
  below_if m (t ∷ ts) h = lt-ltb m t.component h

  -- where the upper block of a vector is zero, the vector is its lower block below zeros
  pub lower_is : (m c : ℕ) (ts : List VTerm) → (w : VectorOf r) → vector_of r.prime r.vars (m + c) ts ≡ zero_vector r.prime r.vars m ++ w → w ≡ lower_block r m c ts
  unfolding polynomial_zero
  lower_is m c ts w e = same_components P PL c w (lower_block r m c ts) long (length_components r c (suc m) ts) (λ i h.
      sym (component_right P PL m (zero_vector r.prime r.vars m) w i (length-replicate m P.zero))
      ∙ ap (λ v. component P v (m + i)) (sym e) ∙ part_is r (m + c) ts (m + i) (omega (arith, h))
      ∙ ap (λ k. component_meaning r k ts) (one_more m i) ∙ sym (components_at r c (suc m) ts i h))
    where
      one_more : (m i : ℕ) → suc (m + i) ≡ suc m + i
      one_more m i = omega arith

      long : length w ≡ c
      long =
          let a : length (vector_of r.prime r.vars (m + c) ts) ≡ m + c = length_vector r.prime r.vars (m + c) ts in
          let b : length (zero_vector r.prime r.vars m ++ w) ≡ length (zero_vector r.prime r.vars m) + length w = length-append (zero_vector r.prime r.vars m) w in
          let d : length (zero_vector r.prime r.vars m) ≡ m = length-replicate m P.zero in
          let g : length (vector_of r.prime r.vars (m + c) ts) ≡ length (zero_vector r.prime r.vars m ++ w) = ap length e in
          omega (arith, a, b, d, g)

  pub below_split : (m c : ℕ) (ts : List VTerm) → IsVector r (m + c) ts → is_below m ts ≡ true → vector_of r.prime r.vars (m + c) ts ≡ zero_vector r.prime r.vars m ++ lower_block r m c ts
  below_split m c ts v e =
      let x = (upper_block r.prime r.vars m r.order c ts v).1 (below_means m ts e) in
      x.1 ∙ ap (λ w. zero_vector r.prime r.vars m ++ w) (lower_is m c ts x.0 x.1)

  pub below_found : (m c : ℕ) (ts : List VTerm) → IsVector r (m + c) ts → (w : VectorOf r) → vector_of r.prime r.vars (m + c) ts ≡ zero_vector r.prime r.vars m ++ w → is_below m ts ≡ true
  below_found m c ts v w e = below_if m ts ((upper_block r.prime r.vars m r.order c ts v).0 (w, e))

  -- ---- syzygies
  module _ (g : Graph r) (G : IsCompletedGraph r g) where
    abbrev m : ℕ
    m = g.matrix.rows

    abbrev c : ℕ
    c = width r g

    abbrev ms : List (List (Polynomial r.prime r.vars))
    ms = vectors_of r.prime r.vars (m + c) g.members

    member_of : (w : VectorOf r) → Contains ms w → (ts : List VTerm) × In g.members ts × (vector_of r.prime r.vars (m + c) ts ≡ w)
    member_of w i =
        let x = in_of_map (vector_of r.prime r.vars (m + c)) g.members (in_of_contains ms w i) in
        (x.0, x.1, x.2)

    blocks : AreLowerBlocks r.prime r.vars m ms (syzygies r g).columns
    unfolding syzygies
    blocks w = (
      λ i.
          let x = in_of_map (lower_block r m c) (filter (is_below m) g.members) (in_of_contains (syzygies r g).columns w i) in
          let y = in_filter (is_below m) g.members x.0 x.1 in
          subst (Contains ms) (below_split m c x.0 (in_vectors r (m + c) g.members G.vectors x.0 y.0) y.1 ∙ ap (λ u. zero_vector r.prime r.vars m ++ u) x.2)
          (contains_of_in (in_map (vector_of r.prime r.vars (m + c)) y.0)),
      λ i.
          let x = member_of (zero_vector r.prime r.vars m ++ w) i in
          let v = in_vectors r (m + c) g.members G.vectors x.0 x.1 in
          subst (Contains (syzygies r g).columns) (sym (lower_is m c x.0 w x.2))
          (contains_of_in (in_map (lower_block r m c) (filter_in (is_below m) g.members x.0 x.1 (below_found m c x.0 v w x.2)))),
    )

    -- the syzygies generate the kernel
    pub syzygies_generate : (w : VectorOf r) → InKernel r.prime r.vars g.matrix w ↔ InImage r.prime r.vars (syzygies r g) w
    unfolding syzygies
    syzygies_generate = kernel_of_graph r.prime r.vars r.order g.matrix ms G.basis (syzygies r g).columns blocks

    pub syzygies_long : AllLong r.prime r.vars c (syzygies r g).columns
    unfolding syzygies
    syzygies_long w i = let x = in_of_map (lower_block r m c) (filter (is_below m) g.members) i in ap length (sym x.2) ∙ length_components r c (suc m) x.0

    -- ---- lifts
    module _ (v : VectorOf r) (fits : length v ≡ m) (units left : ℕ) (x : Reduced) (e : Ends (lift_run r g v units) x left) where
      dividend_long : length (v ++ zero_vector r.prime r.vars c) ≡ m + c
      dividend_long = length-append v (zero_vector r.prime r.vars c) ∙ ap₂ (λ i j. i + j) fits (length-replicate c (polynomial_zero r.prime r.vars))

      red : Reduction r (m + c) g.members G.vectors (terms_of r (v ++ zero_vector r.prime r.vars c)) x
      unfolding lift_run
      red = division r (m + c) g.members G.vectors units left (terms_of r (v ++ zero_vector r.prime r.vars c)) x (terms_vector r (m + c) (v ++ zero_vector r.prime r.vars c) dividend_long) e

      dividend_falls : IsFalling r.prime r.vars (m + c) r.order ((terms_of r (v ++ zero_vector r.prime r.vars c)))
      dividend_falls = (terms_vector r (m + c) (v ++ zero_vector r.prime r.vars c) dividend_long)

      -- inside: a solution
      pub lift_solves : is_inside r g x ≡ true → (length (solution r g x) ≡ c) × (vector_product r.prime r.vars g.matrix (solution r g x) ≡ v)
      lift_solves inside =
          let s = solution_of_rest r.prime r.vars r.order g.matrix g.members (are_falling r (m + c) g.members G.vectors) G.basis red.reduces dividend_falls v fits
          (terms_mean r (m + c) (v ++ zero_vector r.prime r.vars c) dividend_long) (lower_block r m c x.rest) (below_split m c x.rest red.vector inside) in
          (length-map (lower_block r m c x.rest) (polynomial_negative r.prime r.vars) ∙ s.0, s.1)

      -- exactly where v is in the image
      pub lift_decides : InImage r.prime r.vars g.matrix v ↔ (is_inside r g x ≡ true)
      lift_decides =
          let d = image_of_graph r.prime r.vars r.order g.matrix g.members (are_falling r (m + c) g.members G.vectors) G.basis red.reduces dividend_falls v fits
          (terms_mean r (m + c) (v ++ zero_vector r.prime r.vars c) dividend_long) red.irreducible in (
            λ i. let w = d.0 i in below_found m c x.rest red.vector w.0 w.1,
            λ inside. d.1 (lower_block r m c x.rest, below_split m c x.rest red.vector inside),
          )
