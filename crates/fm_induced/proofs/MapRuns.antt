-- The matrix of an induced map, and its fibres, as runs.
use Rattle.std.proofs.Common.{ℕ, ◌≡◌, IfOk, Result, Ok, Err, subst, arith}
use Rattle.fm_algebra.specs.PolynomialMatrices.{matrix_transpose}
use Rattle.fm_graphs.specs.Graphs as runs
use Rattle.fm_graphs.specs.Graphs.{MatrixOf, Graph, inside_run, lifted}
use Rattle.fm_graphs.specs.Trims.{Preimage, preimage_run}
use Rattle.fm_graphs.proofs.Sizes.{inside_spends}
use Rattle.fm_graphs.proofs.Spending.{preimage_spends}
use Rattle.fm_mat.specs.Matrices.{MatrixValue, matrix_meaning}
use Rattle.fm_lift.specs.Lifts.{product_work}
use Rattle.fm_lift.proofs.Products.{product_spends}
use Rattle.fm_plan.specs.Queries.{fibre_work, phi_work}
use Rattle.fm_poly.specs.declared.ring.Ring.{Ring}
use Rattle.fm_run.specs.declared.stop.Stop.{Stop}
use Rattle.fm_run.specs.declared.task.Task.{Task}
use Rattle.fm_run.specs.Runs.{Spends, Work, Follows, halt_of, ready, ◌>>=◌}
use Rattle.fm_run.specs.Tasks.{stopped_in}
use Rattle.fm_run.proofs.Calls.{row_goes, row_stops}
use Rattle.fm_run.proofs.Following.{after_value}
use Rattle.fm_run.proofs.Spending.{then_spends}
use Rattle.fm_syz.specs.GeneratorValues.{PreimageValue, preimage_meaning}
use Rattle.fm_syz.specs.Insides.{inside_value}
use Rattle.fm_syz.specs.declared.inside.Inside.{Inside}
use Rattle.fm_induced.specs.Fibres.{fibre_value}
use Rattle.fm_induced.specs.declared.fibres.Fibre.{Fibre}

module _ (r : Ring) where
  pub phi_spends : (lambda z : MatrixOf r) (g : Graph r) → Spends (phi_work r lambda z g)
  unfolding phi_work
  phi_spends lambda z g = product_spends r (matrix_transpose r.prime r.vars lambda) z g

  -- the product with the flipped matrix
  pub phi_told : (lambda m : MatrixValue) (z : MatrixOf r) (g : Graph r) → matrix_meaning r m ≡ matrix_transpose r.prime r.vars (matrix_meaning r lambda) → (result : Result MatrixValue Stop) (old new : ℕ)
      → Follows (matrix_meaning r) result old new (product_work r (matrix_meaning r m) z g old) → Follows (matrix_meaning r) result old new (phi_work r (matrix_meaning r lambda) z g old)
  unfolding phi_work
  phi_told lambda m z g is result old new h = subst (λ A. Follows (matrix_meaning r) result old new (product_work r A z g old)) is h

  -- ---- fibres
  module _ (phi K : MatrixOf r) (g : Graph r) where
    abbrev tested : Preimage r → Work (Preimage r × runs.Inside r)
    tested x = inside_run r x.found g >>= λ y. ready (x, y)

    tested_spends : (x : Preimage r) → Spends (tested x)
    tested_spends x = then_spends (inside_run r x.found g) (λ y. ready (x, y)) (inside_spends r x.found g) (λ y units. omega arith)

    pub fibre_spends : Spends (fibre_work r phi K g)
    unfolding fibre_work
    fibre_spends = then_spends (preimage_run r phi K) tested (preimage_spends r phi K) tested_spends

    pub preimage_stops : (old new : ℕ) (z : Stop) → Follows {X = PreimageValue} (preimage_meaning r) (Err z) old new (preimage_run r phi K old) → Follows {X = Fibre} (fibre_value r) (Err z) old new (fibre_work r phi K g old)
    unfolding fibre_work
    preimage_stops old new z h = row_stops (preimage_run r phi K) tested old new (preimage_meaning r) (fibre_value r) halt_of z tested_spends h

    module _ (old mid : ℕ) (x : PreimageValue) (goes : Follows (preimage_meaning r) (Ok x) old mid (preimage_run r phi K old)) (new : ℕ) where
      on : (answer : Result Fibre Stop) → Follows (fibre_value r) answer mid new (tested (preimage_meaning r x) mid) → Follows (fibre_value r) answer old new (fibre_work r phi K g old)
      unfolding fibre_work
      on answer h = row_goes (preimage_run r phi K) tested old new (preimage_meaning r x) mid goes (preimage_spends r phi K) (fibre_value r) halt_of answer h

      pub inside_stops : (z : Stop) → Follows {X = Inside} (inside_value r) (Err z) mid new (inside_run r (matrix_meaning r x.generators.graph.matrix) g mid) → Follows {X = Fibre} (fibre_value r) (Err z) old new (fibre_work r phi K g old)
      inside_stops z h = on (Err z) (row_stops (inside_run r (matrix_meaning r x.generators.graph.matrix) g) (λ y. ready (preimage_meaning r x, y)) mid new (inside_value r) (fibre_value r) halt_of z (λ y units. omega arith) h)

      pub inside_goes : (y : Inside) → Follows (inside_value r) (Ok y) mid new (inside_run r (matrix_meaning r x.generators.graph.matrix) g mid)
          → Follows (fibre_value r) (Ok (record { fibre = x; inside = y })) old new (fibre_work r phi K g old)
      inside_goes y h = on (Ok (record { fibre = x; inside = y })) (after_value (inside_run r (matrix_meaning r x.generators.graph.matrix) g) (λ y. ready (preimage_meaning r x, y)) mid new (inside_value r y) h)

-- what holds of an answer holds once it is told of a task
pub still_ok : {X : Type 0} (P : X → Type 0) (task : Task) (a : Result X Stop) → IfOk a P → IfOk (stopped_in task a) P
still_ok P task (Ok x) h = h
still_ok P task (Err e) h = tt
