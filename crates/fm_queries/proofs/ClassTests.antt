-- The test of a class, call by call.
use Rattle.std.proofs.Common.{ℕ, ◌≡◌, ◌<◌, ◌==◌, Bool, true, false, Option, Some, None, List, [], ◌∷◌, length, get_or, Ok, Err, refl, sym, ap, ◌∙◌, subst, arith}
use Rattle.std.specs.Prelude.{◌&&◌}
use Rattle.std.specs.List.{list_all}
use Rattle.fm_algebra.specs.PolynomialMatrices.{matrix_column, matrix_transpose, matrix_twist}
use Rattle.fm_mat.specs.Bounds.{entries_fit, products_fit}
use Rattle.fm_poly.specs.declared.ring.Ring.{Ring}
use Rattle.fm_poly.specs.Polys.{PolyValue}
use Rattle.fm_run.specs.declared.task.Side.TheVariants.{Alone}
use Rattle.fm_run.specs.declared.task.Name.TheVariants as names
use Rattle.fm_run.specs.declared.task.Stopped.{Stopped}
use Rattle.fm_run.specs.Runs.{Ended, Ending, Exponent, Work, Spends, Halts, bounded, ready, ◌>>=◌}
use Rattle.fm_run.proofs.Calls.{halts_row}
use Rattle.fm_run.proofs.Following.{after_value}
use Rattle.fm_run.proofs.Spending.{then_spends}
use Rattle.fm_mat.specs.Matrices.{MatrixValue, column_meaning, columns_meaning, matrix_meaning}
use Rattle.fm_graphs.specs.Bounds.{multiplied, twisted_matrix}
use Rattle.fm_graphs.specs.Graphs.{MatrixOf}
use Rattle.fm_graphs.specs.Listing.{VectorOf}
use Rattle.fm_plan.specs.Tasks.{Plan, Unanswered, not_a_cocycle, refused, task, wrong_length}
use Rattle.fm_plan.specs.Queries.{allowed, cocycle_work, first_nonzero, unless}
use Rattle.fm_plan.specs.Following.{FollowsPlan, unanswered_by}
use Rattle.fm_plan.proofs.SizesOfAnswers.{cocycle_spends}
use Rattle.fm_queries.specs.Duals.{dual, dual_column, dual_fits}
use Rattle.fm_queries.specs.Founds.{class_test}

-- the first column of a matrix
pub first_column : (r : Ring) (m : MatrixValue) (M : MatrixOf r) (d c : List PolyValue) → matrix_meaning r m ≡ M → 0 < length m.columns → c ≡ get_or m.columns 0 d → get_or M.columns 0 [] ≡ column_meaning r c
first_column r m M d c means some is = ap (λ (A : MatrixOf r). get_or A.columns 0 []) (sym means) ∙ first m.columns some is
  where
    first : (cs : List (List PolyValue)) → 0 < length cs → c ≡ get_or cs 0 d → get_or (columns_meaning r cs) 0 [] ≡ column_meaning r c
    first [] some is = absurd (omega (arith, some))
    first (x ∷ cs) some is = ap (column_meaning r) (sym is)

module _ (r : Ring) (e : ℕ) (d : MatrixOf r) (z : VectorOf r) where
  abbrev component : MatrixOf r → Work (Option ℕ)
  component B = ready (first_nonzero r 1 (get_or B.columns 0 []))

  abbrev test : Plan (Option ℕ)
  test = task Alone names.Test 0 (cocycle_work r e d z)

  abbrev tested : Plan (Unit {0})
  tested = test >>= unless r not_a_cocycle

  -- with or without the length
  abbrev long : Bool → Plan (Unit {0})
  long b = allowed r b (wrong_length (length z) d.rows) >>= λ u. tested

  allowed_spends : (b : Bool) → Spends (allowed r b (wrong_length (length z) d.rows))
  allowed_spends true units = omega arith
  allowed_spends false units = omega arith

  unless_spends : (o : Option ℕ) → Spends (unless r not_a_cocycle o)
  unless_spends None units = omega arith
  unless_spends (Some k) units = omega arith

  pub class_test_spends : Spends (class_test r e d z)
  class_test_spends = then_spends (allowed r (length z == d.rows) (wrong_length (length z) d.rows)) (λ u. tested) (allowed_spends (length z == d.rows)) (λ u. then_spends test (unless r not_a_cocycle) (cocycle_spends r e d z) unless_spends)

  module _ (units : ℕ) where
    -- ---- the work of the task
    abbrev twisted : Bool → Ended (Option ℕ)
    twisted b = (bounded b (matrix_twist r.prime r.vars e d) >>= λ D. multiplied r.prime r.vars (matrix_transpose r.prime r.vars D) (matrix_column r.prime r.vars z) >>= component) units

    abbrev product : Bool → Ended (Option ℕ)
    product b = (bounded b (dual_column r e d z) >>= component) units

    after_twist : twisted true ≡ product (list_all (products_fit r.prime r.vars (dual r e d).columns) (matrix_column r.prime r.vars z).columns)
    unfolding multiplied
    after_twist = refl

    pub component_found : dual_fits r e d z ≡ true → cocycle_work r e d z units ≡ record { end = Ok (first_nonzero r 1 (get_or (dual_column r e d z).columns 0 [])); left = units }
    unfolding cocycle_work twisted_matrix
    component_found h = go (entries_fit r.prime r.vars e d) refl h
      where
        go : (b : Bool) → entries_fit r.prime r.vars e d ≡ b → (b && list_all (products_fit r.prime r.vars (dual r e d).columns) (matrix_column r.prime r.vars z).columns) ≡ true
            → twisted (entries_fit r.prime r.vars e d) ≡ record { end = Ok (first_nonzero r 1 (get_or (dual_column r e d z).columns 0 [])); left = units }
        go true is h = ap twisted is ∙ after_twist ∙ ap product h
        go false is h = cc

    pub component_passes : dual_fits r e d z ≡ false → cocycle_work r e d z units ≡ record { end = Err Exponent; left = units }
    unfolding cocycle_work twisted_matrix
    component_passes h = go (entries_fit r.prime r.vars e d) refl h
      where
        go : (b : Bool) → entries_fit r.prime r.vars e d ≡ b → (b && list_all (products_fit r.prime r.vars (dual r e d).columns) (matrix_column r.prime r.vars z).columns) ≡ false
            → twisted (entries_fit r.prime r.vars e d) ≡ record { end = Err Exponent; left = units }
        go true is h = ap twisted is ∙ after_twist ∙ ap product h
        go false is h = ap twisted is

    -- ---- the length, and the task
    pub other_length : (length z == d.rows) ≡ false → class_test r e d z units ≡ record { end = Err (refused (wrong_length (length z) d.rows)); left = units }
    other_length h = ap (λ b. long b units) h

    same_length : (length z == d.rows) ≡ true → class_test r e d z units ≡ tested units
    same_length h = ap (λ b. long b units) h

    module _ (fits : (length z == d.rows) ≡ true) where
      pub test_stops : (s : Stopped) → FollowsPlan {X = Option ℕ} (λ o. o) (Err s) units units (test units) → Halts units units (class_test r e d z units) (unanswered_by s)
      test_stops s h = subst (λ (q : Ending Unanswered (Unit {0})). Halts units units q (unanswered_by s)) (sym (same_length fits)) (halts_row test (unless r not_a_cocycle) units units unless_spends (unanswered_by s) h)

      pub test_ends : (o : Option ℕ) → FollowsPlan {X = Option ℕ} (λ o. o) (Ok o) units units (test units) → class_test r e d z units ≡ unless r not_a_cocycle o units
      test_ends o h = same_length fits ∙ after_value test (unless r not_a_cocycle) units units o h
