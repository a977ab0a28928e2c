-- The task `morphism`: a product, a twist, and a lift.
use Rattle.std.proofs.Common.{ℕ, ◌≡◌, Result, Ok, Err, map, sym, ap, ◌^◌, ◌&&◌}
use Rattle.std.specs.List.{list_all}
use Rattle.fm_algebra.specs.PolynomialMatrices.{matrix_twist}
use Rattle.fm_algebra.specs.Matrix.{entrywise, table}
use Rattle.fm_gfp.specs.Primes.{prime_value}
use Rattle.fm_mat.specs.Bounds.{entries_fit}
use Rattle.fm_mat.specs.Matrices.{MatrixValue, columns_meaning, matrix_meaning}
use Rattle.fm_poly.specs.declared.ring.Ring.{Ring}
use Rattle.fm_run.specs.declared.stop.Stop.{Stop}
use Rattle.fm_run.specs.Runs.{Work, Spends, Follows, halt_of, ◌>>=◌}
use Rattle.fm_run.proofs.Calls.{row_goes, row_stops}
use Rattle.fm_run.proofs.Ends.{Ends, bounded_value}
use Rattle.fm_run.proofs.Spending.{then_spends, bounded_spends}
use Rattle.fm_term.specs.Multiples.{twisted}
use Rattle.fm_vec.specs.Multiples.{twist_fits}
use Rattle.fm_graphs.specs.Bounds.{multiplied}
use Rattle.fm_graphs.specs.Graphs.{MatrixOf, Graph, twisted_graph, lifted}
use Rattle.fm_graphs.proofs.Spending.{lifted_spends}
use Rattle.fm_plan.specs.Base.{flip, morphism_work}
use Rattle.fm_syz.specs.GraphValues.{GraphValue, graph_meaning}
use Rattle.fm_lift.proofs.Products.{multiplied_spends}

module _ (r : Ring) where
  pub power_spends : (g : Graph r) → Spends (twisted_graph r 1 g)
  unfolding twisted_graph
  power_spends g = bounded_spends (entries_fit r.prime r.vars 1 g.matrix && list_all (twist_fits (prime_value r.prime ^ 1)) g.members)
      (record { matrix = matrix_twist r.prime r.vars 1 g.matrix; members = map (twisted (prime_value r.prime ^ 1)) g.members; log = g.log })

  pub power_rows : (g h : GraphValue) (units : ℕ) → Ends (twisted_graph r 1 (graph_meaning r g) units) (graph_meaning r h) units → h.matrix.rows ≡ g.matrix.rows
  unfolding twisted_graph matrix_twist entrywise table
  power_rows g h units e = sym (ap (λ (x : Graph r). x.matrix.rows) (bounded_value _ _ (graph_meaning r h) units units e))

  module _ (T : MatrixOf r) (Z : Graph r) where
    abbrev product : Work (MatrixOf r)
    product = multiplied r.prime r.vars (flip r T) Z.matrix

    abbrev after : MatrixOf r → Work (MatrixOf r)
    after B = twisted_graph r 1 Z >>= λ g. lifted r g B.columns

    after_spends : (B : MatrixOf r) → Spends (after B)
    after_spends B = then_spends (twisted_graph r 1 Z) (λ g. lifted r g B.columns) (power_spends Z) (λ g. lifted_spends r g B.columns)

    pub morphism_spends : Spends (morphism_work r T Z)
    unfolding morphism_work
    morphism_spends = then_spends product after (multiplied_spends r (flip r T) Z.matrix) after_spends

    module _ (units : ℕ) where
      pub product_stops : (stop : Stop) → Follows {X = MatrixValue} (matrix_meaning r) (Err stop) units units (product units) → Follows {X = MatrixValue} (matrix_meaning r) (Err stop) units units (morphism_work r T Z units)
      unfolding morphism_work
      product_stops stop h = row_stops product after units units (matrix_meaning r) (matrix_meaning r) halt_of stop after_spends h

      module _ (m : MatrixValue) (goes : Follows (matrix_meaning r) (Ok m) units units (product units)) where
        on : (answer : Result MatrixValue Stop) (new : ℕ) → Follows (matrix_meaning r) answer units new (after (matrix_meaning r m) units) → Follows (matrix_meaning r) answer units new (morphism_work r T Z units)
        unfolding morphism_work
        on answer new h = row_goes product after units new (matrix_meaning r m) units goes (multiplied_spends r (flip r T) Z.matrix) (matrix_meaning r) halt_of answer h

        pub power_stops : (stop : Stop) → Follows {X = GraphValue} (λ g. graph_meaning r g) (Err stop) units units (twisted_graph r 1 Z units) → Follows {X = MatrixValue} (matrix_meaning r) (Err stop) units units (morphism_work r T Z units)
        power_stops stop h =
            on (Err stop) units (row_stops (twisted_graph r 1 Z) (λ g. lifted r g (columns_meaning r m.columns)) units units (λ (g : GraphValue). graph_meaning r g) (matrix_meaning r) halt_of stop (λ g. lifted_spends r g (columns_meaning r m.columns)) h)

        pub lift_goes : (h : GraphValue) → Follows (λ (g : GraphValue). graph_meaning r g) (Ok h) units units (twisted_graph r 1 Z units) → (answer : Result MatrixValue Stop) (new : ℕ)
            → Follows (matrix_meaning r) answer units new (lifted r (graph_meaning r h) (columns_meaning r m.columns) units) → Follows (matrix_meaning r) answer units new (morphism_work r T Z units)
        lift_goes h twists answer new k =
            on answer new (row_goes (twisted_graph r 1 Z) (λ g. lifted r g (columns_meaning r m.columns)) units new (graph_meaning r h) units twists (power_spends Z) (matrix_meaning r) halt_of answer k)
