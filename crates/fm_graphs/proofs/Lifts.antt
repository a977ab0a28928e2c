-- Columns lifted through a completed graph: solutions, and what lies inside; graphs of twists.
use Rattle.std.proofs.Common.{ℕ, suc, ◌+◌, ◌^◌, ◌<◌, ◌≡◌, ◌↔◌, if◌then◌else◌, Bool, true, false, List, [], ◌∷◌, map, length, refl, sym, ap, ap₂, ◌∙◌, subst, arith}
use Rattle.std.proofs.lemmas.Bool.{false≢true}
use Rattle.fm_gfp.specs.Primes.{prime_value}
use Rattle.fm_algebra.specs.Polynomials.{polynomials, frobenius_twist}
use Rattle.fm_algebra.specs.PolynomialMatrices.{HasShape, InImage, vector_product, vector_twist, matrix_twist, matrix_unit}
use Rattle.fm_algebra.proofs.Concrete.{q_positive}
use Rattle.fm_algebra.proofs.Tables.{entrywise_shaped, unit_shaped}
use Rattle.fm_term.specs.Multiples.{twisted}
use Rattle.fm_term.specs.Meanings.{vectors_of}
use Rattle.fm_groebner.specs.Graphs.{IsGraphBasis}
use Rattle.fm_groebner.specs.Logs.{IsNumber, first, next}
use Rattle.fm_groebner.proofs.Setting.{In, here, there}
use Rattle.fm_groebner.proofs.NormalForms.{vector_of_twisted}
use Rattle.fm_groebner.proofs.Twists as twists
use Rattle.fm_poly.specs.declared.ring.Ring.{Ring}
use Rattle.fm_term.specs.declared.vterm.VTerm.{VTerm}
use Rattle.fm_term.specs.Multiples.{twisted}
use Rattle.fm_vec.proofs.Proper.{twisted_vector}
use Rattle.fm_complete.specs.Reductions.{Reduced}
use Rattle.fm_complete.specs.Combinations.{AreVectors}
use Rattle.fm_run.specs.Runs.{Run, ready, ◌>>=◌, each}
use Rattle.fm_graphs.specs.Listing.{VectorOf}
use Rattle.fm_complete.specs.Completions.{numbers}
use Rattle.fm_graphs.specs.Graphs.{MatrixOf, Graph, Outside, Inside, all_inside, first_outside, width, lift_run, is_inside, solution, lifted, with_solution, inside_from, inside_run, whole_run, twisted_graph}
use Rattle.fm_run.proofs.Ends.{Ends, same_value, bound, bounded_value}
use Rattle.fm_graphs.proofs.Columns.{AllLong, column_length, Solved}
use Rattle.fm_graphs.specs.Graphs.{IsCompletedGraph}
use Rattle.fm_graphs.proofs.Graphs.{rows_of, lift_solves, lift_decides}

-- the runs for a list end with a list
module _ {E A B : Type 0} (f : A → Run E B) where
  pub record Each (x : A) (xs : List A) (units : ℕ) (ys : List B) (left : ℕ) : Type 0 where
    pub head : B
    pub tail : List B
    pub between : ℕ
    pub after : ℕ
    pub is : ys ≡ head ∷ tail
    pub first : Ends (f x units) head between
    pub later : Ends (each f xs between) tail after

  pub each_cons : (x : A) (xs : List A) (units left : ℕ) (ys : List B) → Ends (each f (x ∷ xs) units) ys left → Each x xs units ys left
  each_cons x xs units left ys e =
      let b = bound (f x) (λ y. each f xs >>= λ zs. ready (y ∷ zs)) units left ys e in
      let d = bound (each f xs) (λ zs. ready (b.value ∷ zs)) b.between left ys b.second in
      record { head = b.value; tail = d.value; between = b.between; after = d.between; is = sym (same_value (b.value ∷ d.value) ys d.between left d.second); first = b.first; later = d.first }

  pub each_nil : (units left : ℕ) (ys : List B) → Ends (each f [] units) ys left → ys ≡ []
  each_nil units left ys e = sym (same_value [] ys units left e)

module _ (r : Ring) (g : Graph r) (G : IsCompletedGraph r g) where
  abbrev A : MatrixOf r
  A = g.matrix

  abbrev pub Solves : List (VectorOf r) → List (VectorOf r) → Type 0
  Solves vs ws = Solved r.prime r.vars A vs ws

  -- ---- columns in the image
  solutions : (vs : List (VectorOf r)) → AllLong r.prime r.vars A.rows vs → ((v : VectorOf r) → In vs v → InImage r.prime r.vars A v) → (units left : ℕ) (ws : List (VectorOf r))
      → Ends (each (λ v. lift_run r g v >>= λ x. ready (solution r g x)) vs units) ws left → Solves vs ws
  solutions [] l inside units left ws e = subst (Solves []) (sym (each_nil (λ v. lift_run r g v >>= λ x. ready (solution r g x)) units left ws e)) tt
  solutions (v ∷ vs) l inside units left ws e =
      let d = each_cons (λ v. lift_run r g v >>= λ x. ready (solution r g x)) v vs units left ws e in
      let b = bound (lift_run r g v) (λ x. ready (solution r g x)) units d.between d.head d.first in
      let s = lift_solves r g G v (l v here) units b.between b.value b.first ((lift_decides r g G v (l v here) units b.between b.value b.first).0 (inside v here)) in
      subst (Solves (v ∷ vs)) (sym (d.is ∙ ap (λ x. x ∷ d.tail) (sym (same_value (solution r g b.value) d.head b.between d.between b.second))))
      (s.0, s.1, solutions vs (λ w i. l w (there i)) (λ w i. inside w (there i)) d.between d.after d.tail d.later)

  -- lifted columns of the image are solved
  pub lifted_solves : (vs : List (VectorOf r)) → AllLong r.prime r.vars A.rows vs → ((v : VectorOf r) → In vs v → InImage r.prime r.vars A v) → (units left : ℕ) (W : MatrixOf r)
      → Ends (lifted r g vs units) W left → Solves vs W.columns × (W ≡ record { rows = width r g; columns = W.columns })
  unfolding lifted
  lifted_solves vs l inside units left W e =
      let b = bound (each (λ v. lift_run r g v >>= λ x. ready (solution r g x)) vs) (λ ws. ready (record { rows = width r g; columns = ws })) units left W e in
      let made : MatrixOf r = record { rows = width r g; columns = b.value } in
      let same : made ≡ W = same_value made W b.between left b.second in (
        subst (Solves vs) (ap (λ (M : MatrixOf r). M.columns) same) (solutions vs l inside units b.between b.value b.first),
        sym same ∙ (λ i. record { rows = width r g; columns = (same i).columns }),
      )

  -- ---- inside
  -- the column with this number is outside
  pub record IsOutside (k : ℕ) (vs : List (VectorOf r)) (o : Outside) : Type 0 where
    pub place : ℕ
    pub v : VectorOf r
    pub at : IsNumber vs (suc place) v
    pub column : o.column ≡ k + place
    pub outside : ¬ (InImage r.prime r.vars A v)

  abbrev pub Says : ℕ → List (VectorOf r) → Inside r → Type 0
  Says k vs (all_inside ws) = Solves vs ws
  Says k vs (first_outside o) = IsOutside k vs o

  one_more : (k j : ℕ) → suc k + j ≡ k + suc j
  one_more k j = omega arith

  with_first : (k : ℕ) (v w : VectorOf r) (vs : List (VectorOf r)) (y : Inside r) → length w ≡ width r g → vector_product r.prime r.vars A w ≡ v → Says (suc k) vs y → Says k (v ∷ vs) (with_solution r w y)
  with_first k v w vs (all_inside ws) l s says = (l, s, says)
  with_first k v w vs (first_outside o) l s says = record { place = suc says.place; v = says.v; at = next says.at; column = says.column ∙ one_more k says.place; outside = says.outside }

  inside_says : (k : ℕ) (vs : List (VectorOf r)) → AllLong r.prime r.vars A.rows vs → (units left : ℕ) (y : Inside r) → Ends (inside_from r g k vs units) y left → Says k vs y
  inside_says k [] l units left y e = subst (Says k []) (same_value (all_inside []) y units left e) tt
  inside_says k (v ∷ vs) l units left y e =
      let after = λ (x : Reduced). if is_inside r g x then (inside_from r g (suc k) vs >>= λ y. ready (with_solution r (solution r g x) y)) else ready (first_outside (record { column = k; by = numbers x.steps; rest = x.rest })) in
      let b = bound (lift_run r g v) after units left y e in
      go b.value b.between (lift_solves r g G v (l v here) units b.between b.value b.first) (lift_decides r g G v (l v here) units b.between b.value b.first) (is_inside r g b.value) refl b.second
      (λ units left y. inside_says (suc k) vs (λ w i. l w (there i)) units left y)
    where
      plain : (k : ℕ) → k ≡ k + 0
      plain k = omega arith

      go : (x : Reduced) (u : ℕ) → (is_inside r g x ≡ true → (length (solution r g x) ≡ width r g) × (vector_product r.prime r.vars A (solution r g x) ≡ v)) → InImage r.prime r.vars A v ↔ (is_inside r g x ≡ true)
          → (b : Bool) → is_inside r g x ≡ b
          → Ends ((if b then (inside_from r g (suc k) vs >>= λ y. ready (with_solution r (solution r g x) y)) else ready (first_outside (record { column = k; by = numbers x.steps; rest = x.rest }))) u) y left
          → ((units left : ℕ) (y : Inside r) → Ends (inside_from r g (suc k) vs units) y left → Says (suc k) vs y) → Says k (v ∷ vs) y
      go x u solves decides true t e later =
          let d = bound (inside_from r g (suc k) vs) (λ y. ready (with_solution r (solution r g x) y)) u left y e in
          let s = solves t in
          subst (Says k (v ∷ vs)) (same_value (with_solution r (solution r g x) d.value) y d.between left d.second)
          (with_first k v (solution r g x) vs d.value s.0 s.1 (later u d.between d.value d.first))
      go x u solves decides false t e later = subst (Says k (v ∷ vs)) (same_value (first_outside (record { column = k; by = numbers x.steps; rest = x.rest })) y u left e) (record {
        place = 0;
        v = v;
        at = first;
        column = plain k;
        outside = λ i. false≢true (sym t ∙ decides.0 i);
      })

  pub inside_is : (M : MatrixOf r) (k : ℕ) → HasShape r.prime r.vars A.rows k M → (units left : ℕ) (y : Inside r) → Ends (inside_run r M g units) y left → Says 1 M.columns y
  unfolding inside_run
  inside_is M k s units left y e = inside_says 1 M.columns (column_length r.prime r.vars A.rows k M s) units left y e

  pub whole_is : (units left : ℕ) (y : Inside r) → Ends (whole_run r g units) y left → Says 1 (matrix_unit r.prime r.vars A.rows).columns y
  unfolding whole_run HasShape matrix_unit
  whole_is units left y e = inside_is (matrix_unit r.prime r.vars A.rows) A.rows (unit_shaped (polynomials r.prime r.vars) A.rows) units left y e

  -- ---- twists
  twisted_members : (k e : ℕ) (ms : List (List VTerm)) → map (vector_twist r.prime r.vars e) (vectors_of r.prime r.vars k ms) ≡ vectors_of r.prime r.vars k ((map (twisted (prime_value r.prime ^ e)) ms))
  twisted_members k e [] = refl
  twisted_members k e (ts ∷ ms) = ap₂ (λ x y. x ∷ y) (sym (vector_of_twisted r.prime r.vars k e ts)) (twisted_members k e ms)

  twisted_vectors : (k e : ℕ) (ms : List (List VTerm)) → AreVectors r k ms → AreVectors r k (map (twisted (prime_value r.prime ^ e)) ms)
  twisted_vectors k e [] w = tt
  twisted_vectors k e (ts ∷ ms) w = (twisted_vector r k (prime_value r.prime ^ e) ts (q_positive r.prime r.vars e) w.0, twisted_vectors k e ms w.1)

  twisted_shape : (e : ℕ) → HasShape r.prime r.vars A.rows (width r g) (matrix_twist r.prime r.vars e A)
  unfolding HasShape matrix_twist
  twisted_shape e = entrywise_shaped (polynomials r.prime r.vars) (frobenius_twist r.prime r.vars e) A.rows (width r g) A refl refl

  own_shape : (r' c : ℕ) (B : MatrixOf r) → HasShape r.prime r.vars r' c B → HasShape r.prime r.vars B.rows (length B.columns) B × (B.rows ≡ r') × (length B.columns ≡ c)
  unfolding HasShape
  own_shape r' c B s = ((refl, refl, λ j h. s.2 j (subst (λ k. j < k) s.1 h) ∙ sym s.0), s.0, s.1)

  pub twisted_is : (e units left : ℕ) (h : Graph r) → Ends (twisted_graph r e g units) h left → IsCompletedGraph r h × (h.matrix ≡ matrix_twist r.prime r.vars e A)
  unfolding twisted_graph
  twisted_is e units left h ends =
      let made : Graph r = record { matrix = matrix_twist r.prime r.vars e A; members = map (twisted (prime_value r.prime ^ e)) g.members; log = g.log } in
      let same : made ≡ h = bounded_value _ made h units left ends in
      let shape = own_shape A.rows (width r g) (matrix_twist r.prime r.vars e A) (twisted_shape e) in
      let rows : rows_of r g ≡ rows_of r made = ap₂ (λ x y. x + y) (sym shape.1) (sym shape.2) in
      let is : IsCompletedGraph r made = record {
        shape = shape.0;
        vectors = subst (λ k. AreVectors r k made.members) rows (twisted_vectors (rows_of r g) e g.members G.vectors);
        basis = subst (λ k. IsGraphBasis r.prime r.vars r.order made.matrix (vectors_of r.prime r.vars k made.members)) rows
            (subst (IsGraphBasis r.prime r.vars r.order made.matrix) (twisted_members (rows_of r g) e g.members) (twists.twisted_graph r.prime r.vars r.order e A (vectors_of r.prime r.vars (rows_of r g) g.members) G.basis));
      } in
      (subst (IsCompletedGraph r) same is, sym (ap (λ (x : Graph r). x.matrix) same))
