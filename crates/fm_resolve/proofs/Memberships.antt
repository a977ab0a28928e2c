-- Membership: its two tasks in a row, and what they answer.
use Rattle.std.proofs.Common.{ℕ, ◌≡◌, [], ◌∷◌, List, length, true, false, Result, Ok, Err, refl, sym, ap, ◌∙◌, subst, arith}
use Rattle.std.specs.Prelude.{IsTrue}
use Rattle.fm_algebra.specs.Matrix.{column_matrix}
use Rattle.fm_algebra.specs.Polynomials.{Polynomial}
use Rattle.fm_algebra.specs.PolynomialMatrices.{matrix_column, matrix_transpose}
use Rattle.fm_limit.specs.ResolvedIdeal.{row, InIdeal}
use Rattle.fm_poly.specs.declared.ring.Ring.{Ring}
use Rattle.fm_poly.specs.Polys.{PolyValue, meaning}
use Rattle.fm_run.specs.declared.stop.Stop.{Stop}
use Rattle.fm_run.specs.declared.task.Stopped.{Stopped}
use Rattle.fm_run.specs.declared.task.Side.TheVariants.{Alone}
use Rattle.fm_run.specs.declared.task.Name.TheVariants as names
use Rattle.fm_run.specs.Runs.{Spends, Follows, ready, ◌>>=◌}
use Rattle.fm_run.proofs.Calls.{row_goes, row_stops}
use Rattle.fm_run.proofs.Spending.{then_spends}
use Rattle.fm_mat.specs.Matrices.{MatrixValue, column_meaning, matrix_meaning}
use Rattle.fm_mat.proofs.Steps.{map_length}
use Rattle.fm_graphs.specs.Graphs.{Graph, graph_run, inside_run}
use Rattle.fm_graphs.specs.Graphs as runs
use Rattle.fm_graphs.proofs.Spending.{graph_spends}
use Rattle.fm_plan.specs.Tasks.{Plan, task}
use Rattle.fm_plan.specs.Results.{Ideal}
use Rattle.fm_plan.specs.Queries.{Found, found_member, ask_member, plan, is_yes, verdict}
use Rattle.fm_plan.specs.Following.{FollowsPlan, unanswered_by}
use Rattle.fm_plan.proofs.Plans.{plan_right}
use Rattle.fm_syz.specs.GraphValues.{GraphValue, graph_meaning}
use Rattle.fm_syz.specs.Insides.{inside_value}
use Rattle.fm_syz.specs.declared.inside.Inside.{Inside}
use Rattle.fm_syz.specs.declared.inside.Inside.TheVariants.{All, First}
use Rattle.fm_syz.proofs.LiftedColumns.{inside_spends}
use Rattle.fm_resolve.specs.declared.membership.Membership.{Membership}
use Rattle.fm_resolve.specs.Memberships.{membership_value, Decides, IsMembership}

-- the transpose of the column of the generators is their row
pub row_of_column : (r : Ring) (fs : List PolyValue) (column m : MatrixValue) → column ≡ record { ring = r; rows = length fs; columns = fs ∷ [] }
    → ((s : Ring) → column.ring ≡ s → matrix_meaning s m ≡ matrix_transpose s.prime s.vars (matrix_meaning s column)) → matrix_meaning r m ≡ row r.prime r.vars (column_meaning r fs)
unfolding row matrix_column column_matrix
row_of_column r fs column m is flips =
    flips r (ap (λ (a : MatrixValue). a.ring) is)
    ∙ ap (λ (a : MatrixValue). matrix_transpose r.prime r.vars (matrix_meaning r a)) is
    ∙ ap (λ k. matrix_transpose r.prime r.vars (record { rows = k; columns = column_meaning r fs ∷ [] })) (sym (map_length (λ (f : PolyValue). meaning r f.terms) fs))

module _ (r : Ring) where
  -- the test of the column of f, in the ring of the graph
  pub test_follows : (g : GraphValue) (f : PolyValue) (column : MatrixValue) (result : Result Inside Stop) (old new : ℕ) → g.matrix.ring ≡ r → column.columns ≡ (f ∷ []) ∷ []
      → (let s = g.matrix.ring in Follows (inside_value s) result old new (inside_run s (matrix_meaning s column) (graph_meaning s g) old))
      → Follows (inside_value r) result old new (inside_run r (matrix_column r.prime r.vars (meaning r f.terms ∷ [])) (graph_meaning r g) old)
  unfolding inside_run matrix_column column_matrix
  test_follows g f column result old new ring is h =
      subst (λ cs. Follows (inside_value r) result old new (inside_run r (matrix_meaning r (record { ring = r; rows = 1; columns = cs })) (graph_meaning r g) old)) is
      (subst (λ (s : Ring). Follows (inside_value s) result old new (inside_run s (matrix_meaning s column) (graph_meaning s g) old)) ring h)

  pub test_spends : (M : runs.MatrixOf r) (g : Graph r) → Spends (inside_run r M g)
  unfolding inside_run
  test_spends M g = inside_spends r g 1 M.columns

  module _ (fs : Ideal r) (f : Polynomial r.prime r.vars) where
    abbrev first : Plan (Graph r)
    first = task Alone names.Resolve 1 (graph_run r (row r.prime r.vars fs))

    abbrev test : Graph r → Plan (runs.Inside r)
    test g = task Alone names.Member 0 (inside_run r (matrix_column r.prime r.vars (f ∷ [])) g)

    abbrev tested : Graph r → Plan (Found r)
    tested g = test g >>= λ y. ready (found_member fs f g y)

    tested_spends : (g : Graph r) → Spends (tested g)
    tested_spends g = then_spends (test g) (λ y. ready (found_member fs f g y)) (test_spends (matrix_column r.prime r.vars (f ∷ [])) g) (λ y units. omega arith)

    pub first_stops : (old new : ℕ) (z : Stopped) → FollowsPlan {X = GraphValue} (λ g. graph_meaning r g) (Err z) old new (first old) → FollowsPlan {X = Membership} (membership_value r fs f) (Err z) old new (plan r (ask_member fs f) old)
    unfolding plan
    first_stops old new z h = row_stops first tested old new (λ (g : GraphValue). graph_meaning r g) (membership_value r fs f) unanswered_by z tested_spends h

    module _ (old mid new : ℕ) (g : GraphValue) (goes : FollowsPlan (λ (g : GraphValue). graph_meaning r g) (Ok g) old mid (first old)) where
      on : (answer : Result Membership Stopped) → FollowsPlan (membership_value r fs f) answer mid new (tested (graph_meaning r g) mid) → FollowsPlan (membership_value r fs f) answer old new (plan r (ask_member fs f) old)
      unfolding plan
      on answer h = row_goes first tested old new (graph_meaning r g) mid goes (graph_spends r (row r.prime r.vars fs)) (membership_value r fs f) unanswered_by answer h

      pub test_stops : (z : Stopped) → FollowsPlan {X = Inside} (inside_value r) (Err z) mid new (test (graph_meaning r g) mid) → FollowsPlan {X = Membership} (membership_value r fs f) (Err z) old new (plan r (ask_member fs f) old)
      test_stops z h = on (Err z) (row_stops (test (graph_meaning r g)) (λ y. ready (found_member fs f (graph_meaning r g) y)) mid new (inside_value r) (membership_value r fs f) unanswered_by z (λ y units. omega arith) h)

      pub test_ends : (x : Inside) (m : Membership) → membership_value r fs f m ≡ found_member fs f (graph_meaning r g) (inside_value r x) → FollowsPlan (inside_value r) (Ok x) mid new (test (graph_meaning r g) mid)
          → FollowsPlan (membership_value r fs f) (Ok m) old new (plan r (ask_member fs f) old)
      test_ends x m same h = on (Ok m) (row_goes (test (graph_meaning r g)) (λ y. ready (found_member fs f (graph_meaning r g) y)) mid new (inside_value r x) new h
          (test_spends (matrix_column r.prime r.vars (f ∷ [])) (graph_meaning r g)) (membership_value r fs f) unanswered_by (Ok m) (ap (λ y. record { end = Ok y; left = new }) (sym same)))

    -- the answer is right
    pub decided : (m : Membership) (old new : ℕ) → plan r (ask_member fs f) old ≡ record { end = Ok (membership_value r fs f m); left = new } → IsMembership r fs f m
    unfolding verdict
    decided m old new e = by m.inside (plan_right r (ask_member fs f) old new (membership_value r fs f m) e).1
      where
        by : (x : Inside) → (IsTrue (is_yes r (inside_value r x)) → InIdeal r.prime r.vars fs f) × (InIdeal r.prime r.vars fs f → IsTrue (is_yes r (inside_value r x))) → Decides r fs f x
        by (All ws) h = h.0 refl
        by (First o) h = λ k. let e : false ≡ true = h.1 k in cc
