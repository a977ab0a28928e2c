-- One matrix of a lift: the units that it spends, and its shape.
use Rattle.std.proofs.Common.{ℕ, ◌≡◌, suc, List, [], ◌∷◌, length, Result, Ok, Err, sym, ap, ◌∙◌}
use Rattle.std.specs.Prelude.{IfOk}
use Rattle.std.specs.List.{list_all}
use Rattle.fm_run.specs.declared.stop.Stop.{Stop}
use Rattle.fm_algebra.specs.PolynomialMatrices.{matrix_product, matrix_twist}
use Rattle.fm_mat.specs.Bounds.{entries_fit, products_fit}
use Rattle.fm_mat.specs.Matrices.{MatrixValue, column_meaning, matrix_meaning}
use Rattle.fm_mat.proofs.Steps.{map_length}
use Rattle.fm_poly.specs.declared.ring.Ring.{Ring}
use Rattle.fm_run.specs.Runs.{Work, Spends, Follows, ready, ◌>>=◌, each}
use Rattle.fm_run.proofs.Ends.{Ends, same_value, bound}
use Rattle.fm_run.proofs.Spending.{then_spends, bounded_spends}
use Rattle.fm_graphs.specs.Bounds.{multiplied, twisted_matrix}
use Rattle.fm_graphs.specs.Graphs.{MatrixOf, Graph, lift_run, lifted, solution, width}
use Rattle.fm_graphs.specs.Listing.{VectorOf}
use Rattle.fm_graphs.proofs.Lifts.{each_cons, each_nil}
use Rattle.fm_graphs.proofs.Spending.{lifted_spends}
use Rattle.fm_plan.specs.Base.{lift_work}
use Rattle.fm_lift.specs.Lifts.{product_work}

module _ (r : Ring) where
  pub multiplied_spends : (A B : MatrixOf r) → Spends (multiplied r.prime r.vars A B)
  unfolding multiplied
  multiplied_spends A B = bounded_spends (list_all (products_fit r.prime r.vars A.columns) B.columns) (matrix_product r.prime r.vars A B)

  pub twisted_spends : (A : MatrixOf r) → Spends (twisted_matrix r.prime r.vars 1 A)
  unfolding twisted_matrix
  twisted_spends A = bounded_spends (entries_fit r.prime r.vars 1 A) (matrix_twist r.prime r.vars 1 A)

  pub product_spends : (A B : MatrixOf r) (g : Graph r) → Spends (product_work r A B g)
  product_spends A B g = then_spends (multiplied r.prime r.vars A B) (λ C. lifted r g C.columns) (multiplied_spends A B) (λ C. lifted_spends r g C.columns)

  pub work_spends : (theta : MatrixOf r) (g : Graph r) → Spends (lift_work r theta g)
  unfolding lift_work
  work_spends theta g = then_spends (twisted_matrix r.prime r.vars 1 g.matrix) (λ D. product_work r theta D g) (twisted_spends g.matrix) (λ D. product_spends theta D g)

  -- ---- lifted columns
  module _ (g : Graph r) where
    one : VectorOf r → Work (VectorOf r)
    one v = lift_run r g v >>= λ x. ready (solution r g x)

    each_long : (vs ws : List (VectorOf r)) (units left : ℕ) → Ends (each one vs units) ws left → length ws ≡ length vs
    each_long [] ws units left e = ap length (each_nil one units left ws e)
    each_long (v ∷ vs) ws units left e = let d = each_cons one v vs units left ws e in ap length d.is ∙ ap suc (each_long vs d.tail d.between d.after d.later)

    lifted_shape : (vs : List (VectorOf r)) (W : MatrixOf r) (units left : ℕ) → Ends (lifted r g vs units) W left → (W.rows ≡ width r g) × (length W.columns ≡ length vs)
    unfolding lifted one
    lifted_shape vs W units left e =
        let b = bound (each one vs) (λ ws. ready (record { rows = width r g; columns = ws })) units left W e in
        let same = same_value _ W b.between left b.second in
        (sym (ap (λ (M : MatrixOf r). M.rows) same), sym (ap (λ (M : MatrixOf r). length M.columns) same) ∙ each_long vs b.value units b.between b.first)

    -- the answer of the call
    pub kept : (B : MatrixValue) (answer : Result MatrixValue Stop) (units left n : ℕ) → Follows (matrix_meaning r) answer units left (lifted r g (matrix_meaning r B).columns units) → length B.columns ≡ n
        → IfOk answer (λ m. m.rows ≡ width r g) × IfOk answer (λ m. length m.columns ≡ n)
    kept B (Ok m) units left n h count =
        let s = lifted_shape (matrix_meaning r B).columns (matrix_meaning r m) units left h in
        (s.0, sym (map_length (column_meaning r) m.columns) ∙ s.1 ∙ map_length (column_meaning r) B.columns ∙ count)
    kept B (Err stop) units left n h count = (tt, tt)
