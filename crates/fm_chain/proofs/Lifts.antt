-- Lifts through twisted graphs.
use Rattle.std.proofs.Common.{ℕ, ◌≡◌, ◌<◌, ◌^◌, ◌∷◌, [], Bool, true, false, IfOk, Result, Ok, Err, Vec, Global, length, refl, sym, ap, ◌∙◌, if◌then◌else◌, subst}
use Rattle.fm_algebra.specs.Matrix.{column_matrix, entrywise, table}
use Rattle.fm_algebra.specs.PolynomialMatrices.{matrix_column, matrix_twist}
use Rattle.fm_poly.specs.declared.ring.Ring.{Ring}
use Rattle.fm_poly.specs.declared.poly.Poly.{Poly}
use Rattle.fm_complete.specs.Completions.{numbers}
use Rattle.fm_complete.specs.Reductions.{Reduced}
use Rattle.fm_run.specs.declared.stop.Stop.{Stop}
use Rattle.fm_run.specs.declared.task.Stopped.{Stopped}
use Rattle.fm_run.specs.declared.task.Task.{Task}
use Rattle.fm_run.specs.Tasks.{stopped_in}
use Rattle.fm_run.specs.Runs.{Halt, Ending, Follows, ended_with, next_of, ready, ◌>>=◌, halt_of}
use Rattle.fm_run.proofs.Calls.{row_goes, row_stops, follows_same}
use Rattle.fm_run.proofs.Ends.{bounded_value}
use Rattle.fm_mat.specs.Matrices.{matrix_meaning}
use Rattle.fm_graphs.specs.Listing.{VectorOf}
use Rattle.fm_graphs.specs.Graphs.{MatrixOf, Graph, all_inside, first_outside, is_inside, solution, with_solution, lift_run, inside_run, twisted_graph}
use Rattle.fm_graphs.specs.Graphs as runs
use Rattle.fm_graphs.proofs.Sizes.{inside_spends, twisted_graph_spends, twist_columns}
use Rattle.fm_plan.specs.Queries.{lift_at}
use Rattle.fm_syz.specs.GraphValues.{GraphValue, graph_meaning}
use Rattle.fm_syz.specs.Insides.{answer_of, lifted_value, IsLiftOf}
use Rattle.fm_syz.specs.declared.lifted.Lifted.{Lifted}
use Rattle.fm_syz.specs.declared.lifted.Lifted.TheVariants.{InImage, NotInImage}
use Rattle.fm_chain.specs.Stages.{HasFew}

module _ (r : Ring) where
  -- a graph of a twisted matrix
  pub twisted_value : (g h : GraphValue) (e : ℕ) → twisted_graph r e (graph_meaning r g) 0 ≡ record { end = Ok (graph_meaning r h); left = 0 } → matrix_meaning r h.matrix ≡ matrix_twist r.prime r.vars e (matrix_meaning r g.matrix)
  unfolding twisted_graph
  twisted_value g h e is = ap (λ (x : Graph r). x.matrix) (sym (bounded_value _ _ (graph_meaning r h) 0 0 is))

  twist_rows : (e : ℕ) (A : MatrixOf r) → (matrix_twist r.prime r.vars e A).rows ≡ A.rows
  unfolding matrix_twist entrywise table
  twist_rows e A = refl

  pub twisted_height : (g h : GraphValue) (e : ℕ) → twisted_graph r e (graph_meaning r g) 0 ≡ record { end = Ok (graph_meaning r h); left = 0 } → h.matrix.rows ≡ g.matrix.rows
  twisted_height g h e is = ap (λ (A : MatrixOf r). A.rows) (twisted_value g h e is) ∙ twist_rows e (matrix_meaning r g.matrix)

  -- one column
  one_inside : (v : VectorOf r) (h : Graph r) (units : ℕ) → ended_with (answer_of r h) (lift_run r h v units) ≡ inside_run r (matrix_column r.prime r.vars v) h units
  unfolding inside_run matrix_column column_matrix
  one_inside v h units = go (lift_run r h v units).end (lift_run r h v units).left
    where
      by : (x : Reduced) (left : ℕ) (b : Bool) → ◌≡◌ {A = Ending Halt (runs.Inside r)}
          (record { end = Ok (if b then all_inside (solution r h x ∷ []) else first_outside (record { column = 1; by = numbers x.steps; rest = x.rest })); left = left })
          ((if b then (ready (all_inside []) >>= λ y. ready (with_solution r (solution r h x) y)) else ready (first_outside (record { column = 1; by = numbers x.steps; rest = x.rest }))) left)
      by x left true = refl
      by x left false = refl

      go : (end : Result Reduced Halt) (left : ℕ) → ◌≡◌ {A = Ending Halt (runs.Inside r)} (ended_with (answer_of r h) (record { end = end; left = left }))
          (next_of (λ (x : Reduced). if is_inside r h x then (ready (all_inside []) >>= λ y. ready (with_solution r (solution r h x) y)) else ready (first_outside (record { column = 1; by = numbers x.steps; rest = x.rest }))) end left)
      go (Ok x) left = by x left (is_inside r h x)
      go (Err e) left = refl

  module _ (e : ℕ) (G : Graph r) (v : VectorOf r) where
    pub lift_stops : (units : ℕ) (z : Stop) → Follows {X = GraphValue} (graph_meaning r) (Err z) units units (twisted_graph r e G units) → Follows {X = Lifted} (lifted_value r) (Err z) units units (lift_at r e G v units)
    unfolding lift_at
    lift_stops units z h = row_stops (twisted_graph r e G) (inside_run r (matrix_column r.prime r.vars v)) units units (λ (g : GraphValue). graph_meaning r g) (lifted_value r) halt_of z (λ h. inside_spends r (matrix_column r.prime r.vars v) h) h

    pub lift_goes : (old new : ℕ) (h : GraphValue) (answer : Result Lifted Stop) → twisted_graph r e G old ≡ record { end = Ok (graph_meaning r h); left = old }
        → Follows (lifted_value r) answer old new (ended_with (answer_of r (graph_meaning r h)) (lift_run r (graph_meaning r h) v old)) → Follows (lifted_value r) answer old new (lift_at r e G v old)
    unfolding lift_at
    lift_goes old new h answer first later =
        row_goes (twisted_graph r e G) (inside_run r (matrix_column r.prime r.vars v)) old new (graph_meaning r h) old first (twisted_graph_spends r e G) (lifted_value r) halt_of answer
        (follows_same (lifted_value r) halt_of answer old new _ _ (one_inside v (graph_meaning r h) old) later)

  -- the solution is as long as the matrix is wide
  pub solution_long : (e : ℕ) (A : MatrixOf r) (n : ℕ) (v : VectorOf r) (task : Task) (answer : Result Lifted Stop) (lifted : Lifted) (w : Vec Poly Global) → length A.columns ≡ n
      → ◌≡◌ {A = Result Lifted Stopped} (Ok lifted) (stopped_in task answer) → lifted ≡ InImage w → IfOk answer (IsLiftOf r (matrix_twist r.prime r.vars e A) v) → length w.items ≡ n
  solution_long e A n v task (Err z) lifted w wide told is h = absurd (cc told)
  solution_long e A n v task (Ok x) lifted w wide told is h =
      let same : x ≡ InImage w = cc (told, is) in
      (subst (IsLiftOf r (matrix_twist r.prime r.vars e A) v) same h).1 ∙ twist_columns r e A ∙ wide

  -- and it has few entries where the matrix has few columns
  pub lift_few : (A : MatrixOf r) (v : VectorOf r) (n : ℕ) → length A.columns ≡ n → n < 2 ^ 32 → (answer : Result Lifted Stop) → IfOk answer (IsLiftOf r A v) → IfOk answer HasFew
  lift_few A v n wide low (Err z) h = tt
  lift_few A v n wide low (Ok (InImage w)) h = subst (λ k. k < 2 ^ 32) (sym (h.1 ∙ wide)) low
  lift_few A v n wide low (Ok (NotInImage o)) h = tt
