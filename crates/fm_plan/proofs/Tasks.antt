-- Tasks that end, and columns in an image.
use Rattle.std.proofs.Common.{ℕ, ◌≡◌, Option, Some, None, [], get_or, Result, Ok, Err, refl, ap, ◌∙◌, subst}
use Rattle.fm_run.specs.Runs.{Halt}
use Rattle.fm_run.specs.Runs.{Ending, Ended}
use Rattle.fm_algebra.specs.PolynomialMatrices.{InImage}
use Rattle.fm_limit.specs.Facts.{ColumnsInImage}
use Rattle.fm_groebner.proofs.Setting.{In}
use Rattle.fm_poly.specs.declared.ring.Ring.{Ring}
use Rattle.fm_run.specs.Runs.{Work}
use Rattle.fm_graphs.specs.Listing.{VectorOf}
use Rattle.fm_graphs.specs.Graphs.{MatrixOf}
use Rattle.fm_run.proofs.Ends.{Ends, ok_same, no_value}
use Rattle.fm_graphs.proofs.Columns.{in_place, place_of}
use Rattle.fm_run.specs.declared.task.Side.{Side}
use Rattle.fm_run.specs.declared.task.Name.{Name}
use Rattle.fm_run.specs.declared.task.Task.{Task}
use Rattle.fm_run.specs.Tasks.{named}
use Rattle.fm_plan.specs.Tasks.{Refusal, Unanswered, stopped, refused, task}
use Rattle.fm_plan.specs.Queries.{unless}

-- a task that ends did its work
pub task_ends : {A : Type 0} (side : Side) (name : Name) (number : ℕ) (work : Work A) (units left : ℕ) (x : A) → Ends (task side name number work units) x left → Ends (work units) x left
task_ends {A} side name number work units left x e = go (work units).end (work units).left refl e
  where
    t : Task
    t = record { side = side; name = name; number = number }

    go : (r : Result A Halt) (l : ℕ) → work units ≡ record { end = r; left = l } → ◌≡◌ {A = Ending Unanswered A} (record { end = named (stopped t) r; left = l }) (record { end = Ok x; left = left })
        → ◌≡◌ {A = Ended A} (work units) (record { end = Ok x; left = left })
    go (Ok y) l w h =
        let same : y ≡ x = ok_same y x (ap (λ (d : Ending Unanswered A). d.end) h) in
        let rest : l ≡ left = ap (λ (d : Ending Unanswered A). d.left) h in
        w ∙ (λ i. record { end = Ok (same i); left = rest i })
    go (Err s) l w h = absurd (no_value (stopped t s) x l left h)

pub unless_ends : (r : Ring) (refusal : ℕ → Refusal) (o : Option ℕ) (units left : ℕ) (u : Unit {0}) → Ends (unless r refusal o units) u left → o ≡ None
unless_ends r refusal None units left u e = refl
unless_ends r refusal (Some k) units left u e = absurd (no_value (refused (refusal k)) u units left e)

module _ (r : Ring) (A B : MatrixOf r) where
  pub columns_in : ((v : VectorOf r) → In B.columns v → InImage r.prime r.vars A v) → ColumnsInImage r.prime r.vars A B
  columns_in h c l = h (get_or B.columns c []) (in_place [] B.columns c l)

  pub in_columns : ColumnsInImage r.prime r.vars A B → (v : VectorOf r) → In B.columns v → InImage r.prime r.vars A v
  in_columns h v i = let x = place_of [] i in subst (InImage r.prime r.vars A) x.2 (h x.0 x.1)
