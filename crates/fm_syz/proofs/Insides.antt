-- What a run says that lifts columns up to the first that is outside.
use Rattle.std.proofs.Common.{ℕ, suc, ◌+◌, ◌≡◌, ◌↔◌, Bool, true, false, if◌then◌else◌, List, [], ◌∷◌, length, Result, Ok, Err, refl, sym, ap, ◌∙◌, subst, arith}
use Rattle.std.specs.Prelude.{IfOk}
use Rattle.fm_algebra.specs.PolynomialMatrices.{InImage, vector_product}
use Rattle.fm_groebner.proofs.Setting.{here, there}
use Rattle.fm_poly.specs.declared.ring.Ring.{Ring}
use Rattle.fm_run.specs.declared.stop.Stop.{Stop}
use Rattle.fm_run.specs.Runs.{ready, ◌>>=◌, Follows}
use Rattle.fm_run.proofs.Ends.{Ends, same_value, bound}
use Rattle.fm_complete.specs.Reductions.{Reduced}
use Rattle.fm_complete.specs.Completions.{numbers}
use Rattle.fm_graphs.specs.Listing.{VectorOf}
use Rattle.fm_graphs.specs.Graphs as runs
use Rattle.fm_graphs.specs.Graphs.{Graph, IsCompletedGraph, MatrixOf, all_inside, first_outside, is_inside, lift_run, inside_from, inside_run, with_solution, solution, width}
use Rattle.fm_graphs.proofs.Columns.{AllLong, Solved, solutions_product}
use Rattle.fm_graphs.proofs.Graphs.{lift_solves, lift_decides}
use Rattle.fm_mat.specs.Matrices.{MatrixValue, AreColumns, columns_meaning, matrix_meaning}
use Rattle.fm_syz.specs.declared.inside.Inside.{Inside}
use Rattle.fm_syz.specs.declared.inside.Inside.TheVariants.{All, First}
use Rattle.fm_syz.specs.GraphValues.{GraphValue, IsGraph, graph_meaning}
use Rattle.fm_syz.specs.Insides.{IsFirstOutside, IsInsideOf, inside_value}
use Rattle.fm_syz.proofs.Inputs.{columns_long}

module _ (r : Ring) (g : Graph r) (G : IsCompletedGraph r g) where
  abbrev A : MatrixOf r
  A = g.matrix

  abbrev SaysFrom : ℕ → List (VectorOf r) → runs.Inside r → Type 0
  SaysFrom k vs (all_inside ws) = Solved r.prime r.vars A vs ws
  SaysFrom k vs (first_outside o) = (n : ℕ) × (o.column ≡ k + n) × IsFirstOutside r A (suc n) vs

  with_first : (k : ℕ) (v w : VectorOf r) (vs : List (VectorOf r)) (y : runs.Inside r) → length w ≡ width r g → vector_product r.prime r.vars A w ≡ v → InImage r.prime r.vars A v
      → SaysFrom (suc k) vs y → SaysFrom k (v ∷ vs) (with_solution r w y)
  with_first k v w vs (all_inside ws) l s image says = (l, s, says)
  with_first k v w vs (first_outside o) l s image says = (suc says.0, says.1 ∙ moved k says.0, (image, says.2))
    where
      moved : (k n : ℕ) → suc k + n ≡ k + suc n
      moved k n = omega arith

  says_from : (k : ℕ) (vs : List (VectorOf r)) → AllLong r.prime r.vars A.rows vs → (units left : ℕ) (y : runs.Inside r) → Ends (inside_from r g k vs units) y left → SaysFrom k vs y
  says_from k [] l units left y e = subst (SaysFrom k []) (same_value (all_inside []) y units left e) tt
  says_from k (v ∷ vs) l units left y e =
      let after = λ (x : Reduced). if is_inside r g x then (inside_from r g (suc k) vs >>= λ y. ready (with_solution r (solution r g x) y)) else ready (first_outside (record { column = k; by = numbers x.steps; rest = x.rest })) in
      let b = bound (lift_run r g v) after units left y e in
      go b.value b.between (lift_solves r g G v (l v here) units b.between b.value b.first) (lift_decides r g G v (l v here) units b.between b.value b.first) (is_inside r g b.value) refl b.second
      (λ units left y. says_from (suc k) vs (λ w i. l w (there i)) units left y)
    where
      plain : (k : ℕ) → k ≡ k + 0
      plain k = omega arith

      clash : false ≡ true → ⊥
      clash h = cc

      go : (x : Reduced) (u : ℕ) → (is_inside r g x ≡ true → (length (solution r g x) ≡ width r g) × (vector_product r.prime r.vars A (solution r g x) ≡ v)) → InImage r.prime r.vars A v ↔ (is_inside r g x ≡ true)
          → (b : Bool) → is_inside r g x ≡ b
          → Ends ((if b then (inside_from r g (suc k) vs >>= λ y. ready (with_solution r (solution r g x) y)) else ready (first_outside (record { column = k; by = numbers x.steps; rest = x.rest }))) u) y left
          → ((units left : ℕ) (y : runs.Inside r) → Ends (inside_from r g (suc k) vs units) y left → SaysFrom (suc k) vs y) → SaysFrom k (v ∷ vs) y
      go x u solves decides true t e later =
          let d = bound (inside_from r g (suc k) vs) (λ y. ready (with_solution r (solution r g x) y)) u left y e in
          let s = solves t in
          subst (SaysFrom k (v ∷ vs)) (same_value (with_solution r (solution r g x) d.value) y d.between left d.second)
          (with_first k v (solution r g x) vs d.value s.0 s.1 (decides.1 t) (later u d.between d.value d.first))
      go x u solves decides false t e later =
          subst (SaysFrom k (v ∷ vs)) (same_value (first_outside (record { column = k; by = numbers x.steps; rest = x.rest })) y u left e) (0, plain k, λ i. clash (sym t ∙ decides.0 i))

  -- a run over the columns of a matrix
  pub run_says : (rows : ℕ) (vs : List (VectorOf r)) → rows ≡ A.rows → AllLong r.prime r.vars A.rows vs → (units left : ℕ) (y : Inside) → Ends (inside_from r g 1 vs units) (inside_value r y) left
      → IsInsideOf r A (record { rows = rows; columns = vs }) y
  run_says rows vs high l units left (All ws) e =
      solutions_product r.prime r.vars A.rows A vs (columns_meaning r ws.items) G.shape l (says_from 1 vs l units left (all_inside (columns_meaning r ws.items)) e)
      ∙ ap (λ n. record { rows = n; columns = vs }) (sym high)
  run_says rows vs high l units left (First o) e =
      let s = says_from 1 vs l units left (first_outside (record { column = o.column; by = o.by.items; rest = o.rest.terms })) e in
      subst (λ n. IsFirstOutside r A n vs) (sym (s.1 ∙ next s.0)) s.2
    where
      next : (n : ℕ) → 1 + n ≡ suc n
      next n = omega arith

pub inside_solves : (r : Ring) (g : GraphValue) (m : MatrixValue) → IsGraph g → AreColumns r g.matrix.rows m.columns → m.rows ≡ g.matrix.rows → (units left : ℕ) (answer : Result Inside Stop)
    → Follows (inside_value r) answer units left (inside_run r (matrix_meaning r m) (graph_meaning r g) units) → g.matrix.ring ≡ r → IfOk answer (IsInsideOf r (matrix_meaning r g.matrix) (matrix_meaning r m))
unfolding inside_run
inside_solves r g m G shape rows units left (Ok y) h ring =
    run_says r (graph_meaning r g) (subst (λ (s : Ring). IsCompletedGraph s (graph_meaning s g)) ring G.completed) m.rows (columns_meaning r m.columns) rows (columns_long r g.matrix.rows m.columns shape) units left y h
inside_solves r g m G shape rows units left (Err stop) h ring = tt
