-- The tasks of the query `class` in a row.
use Rattle.std.proofs.Common.{ℕ, ◌≤◌, ◌≡◌, ◌==◌, None, length, Result, Ok, Err, refl, sym, ap, subst, arith}
use Rattle.fm_limit.specs.ResolvedIdeal.{matrix_at}
use Rattle.fm_poly.specs.declared.ring.Ring.{Ring}
use Rattle.fm_run.specs.declared.task.Stopped.{Stopped}
use Rattle.fm_run.specs.declared.task.Side.TheVariants.{Alone}
use Rattle.fm_run.specs.declared.task.Name.TheVariants as names
use Rattle.fm_run.specs.Runs.{Ending, Run, Spends, Halts, ended_with, result_with, next_of, ready, ◌>>=◌}
use Rattle.fm_run.proofs.Calls.{row_goes, halts_row}
use Rattle.fm_run.proofs.Spending.{then_spends}
use Rattle.fm_graphs.specs.Listing.{VectorOf}
use Rattle.fm_graphs.specs.Graphs.{MatrixOf, Inside}
use Rattle.fm_plan.specs.Tasks as told
use Rattle.fm_plan.specs.Tasks.{Refusal, wrong_length, not_a_cocycle, Plan, task, out_of_units}
use Rattle.fm_plan.specs.Base.{resolution_plan}
use Rattle.fm_plan.specs.Results as plans
use Rattle.fm_plan.specs.Queries.{BaseOf, base_of, allowed, unless, cocycle_work, lift_at, solution_of, stages, chain_graphs, Found, found_class, ask_class, plan}
use Rattle.fm_plan.specs.Following.{unanswered_by}
use Rattle.fm_chain.proofs.StageRuns.{lift_spends, stages_spends}
use Rattle.fm_queries.proofs.ClassTests.{class_test_spends}
use Rattle.fm_queries.proofs.Grouping.{grouped}
use Rattle.fm_queries.proofs.Spending.{resolution_spends, base_spends}
use Rattle.fm_queries.specs.Founds.{FollowsQuery, ended_by, class_test, class_value}
use Rattle.fm_queries.specs.declared.class.Class.{Class}
use Rattle.fm_queries.specs.declared.unanswered.Unanswered.{Unanswered}
use Rattle.fm_queries.specs.declared.unanswered.Unanswered.TheVariants as ends

-- ---- part of a value, and another run over it
module _ {E A B C : Type 0} where
  pub parted : (f : A → B) (run : Run E A) (g : B → Run E C) (units : ℕ) → ((λ u. ended_with f (run u)) >>= g) units ≡ (run >>= (λ x. g (f x))) units
  parted f run g units = go (run units).end (run units).left
    where
      go : (d : Result A E) (l : ℕ) → next_of g (result_with f d) l ≡ next_of (λ x. g (f x)) d l
      go (Ok x) l = refl
      go (Err e) l = refl

-- ---- the tasks in a row
module _ (r : Ring) (i : ℕ) (fs : plans.Ideal r) (e : ℕ) (z : VectorOf r) where
  abbrev above : plans.Resolution r → MatrixOf r
  above x = matrix_at r.prime r.vars (plans.differentials_of r x) i

  abbrev answered : BaseOf r → VectorOf r → plans.Killed r → Plan (Found r)
  answered b w s = ready (found_class i fs b e z w s)

  abbrev killing : BaseOf r → VectorOf r → Plan (Found r)
  killing b w = stages r e w 0 None (chain_graphs r b) >>= answered b w

  abbrev lifting_of : BaseOf r → Plan (Inside r)
  lifting_of b = task Alone names.Coordinates 0 (lift_at r e b.ext.cocycles.graph z)

  abbrev after_lift : BaseOf r → Inside r → Plan (Found r)
  after_lift b y = killing b (solution_of r y)

  abbrev after_base : BaseOf r → Plan (Found r)
  after_base b = lifting_of b >>= after_lift b

  abbrev after_test : plans.Resolution r → Plan (Found r)
  after_test x = base_of r Alone i x >>= after_base

  abbrev passing : plans.Resolution r → Unit {0} → Plan (Found r)
  passing x u = after_test x

  abbrev testing : plans.Resolution r → Unit {0} → Plan (Unit {0})
  testing x u = task Alone names.Test 0 (cocycle_work r e (above x) z) >>= unless r not_a_cocycle

  abbrev allowing : plans.Resolution r → Plan (Unit {0})
  allowing x = allowed r (length z == (above x).rows) (wrong_length (length z) (above x).rows)

  abbrev after_resolve : plans.Resolution r → Plan (Found r)
  after_resolve x = allowing x >>= λ u. testing x u >>= passing x

  killing_spends : (b : BaseOf r) (w : VectorOf r) → Spends (killing b w)
  killing_spends b w = then_spends (stages r e w 0 None (chain_graphs r b)) (answered b w) (stages_spends r e w (chain_graphs r b) 0 None) (λ s units. omega arith)

  after_base_spends : (b : BaseOf r) → Spends (after_base b)
  after_base_spends b = then_spends (lifting_of b) (after_lift b) (lift_spends r e z b.ext.cocycles.graph) (λ y. killing_spends b (solution_of r y))

  after_test_spends : (x : plans.Resolution r) → Spends (after_test x)
  after_test_spends x = then_spends (base_of r Alone i x) after_base (base_spends r Alone i x) after_base_spends

  regrouped : (x : plans.Resolution r) (units : ℕ) → (class_test r e (above x) z >>= passing x) units ≡ after_resolve x units
  regrouped x units = grouped (allowing x) (testing x) (passing x) units

  after_resolve_spends : (x : plans.Resolution r) → Spends (after_resolve x)
  after_resolve_spends x units = subst (λ (d : Ending told.Unanswered (Found r)). d.left ≤ units) (regrouped x units) (then_spends (class_test r e (above x) z) (passing x) (class_test_spends r e (above x) z) (λ u. after_test_spends x) units)

  abbrev Answers : Result Class Unanswered → (old new : ℕ) → Ending told.Unanswered (Found r) → Type 0
  Answers answer old new d = FollowsQuery (class_value r i fs e z) answer old new d

  abbrev Asks : Result Class Unanswered → (old new : ℕ) → Type 0
  Asks answer old new = Answers answer old new (plan r (ask_class i fs e z) old)

  pub resolve_stops : (old new : ℕ) (s : Stopped) → Halts old new (resolution_plan r Alone i fs old) (unanswered_by s) → Asks (Err (ends.Stopped s)) old new
  unfolding plan
  resolve_stops old new s h = halts_row (resolution_plan r Alone i fs) after_resolve old new after_resolve_spends (unanswered_by s) h

  module _ (old one : ℕ) (x : plans.Resolution r) (resolves : resolution_plan r Alone i fs old ≡ record { end = Ok x; left = one }) where
    from_resolve : (answer : Result Class Unanswered) (new : ℕ) → Answers answer one new (after_resolve x one) → Asks answer old new
    unfolding plan
    from_resolve answer new h = row_goes (resolution_plan r Alone i fs) after_resolve old new x one resolves (resolution_spends r Alone i fs) (class_value r i fs e z) ended_by answer h

    pub test_stops : (new : ℕ) (s : Unanswered) → Halts one new (class_test r e (above x) z one) (ended_by s) → Asks (Err s) old new
    test_stops new s h = from_resolve (Err s) new (subst (λ (d : Ending told.Unanswered (Found r)). Halts one new d (ended_by s)) (regrouped x one) (halts_row (class_test r e (above x) z) (passing x) one new (λ u. after_test_spends x) (ended_by s) h))

    module _ (passes : class_test r e (above x) z one ≡ record { end = Ok tt; left = one }) where
      from_test : (answer : Result Class Unanswered) (new : ℕ) → Answers answer one new (after_test x one) → Asks answer old new
      from_test answer new h = from_resolve answer new (subst (λ (d : Ending told.Unanswered (Found r)). Answers answer one new d) (regrouped x one)
          (row_goes (class_test r e (above x) z) (passing x) one new tt one passes (class_test_spends r e (above x) z) (class_value r i fs e z) ended_by answer h))

      pub base_stops : (new : ℕ) (s : Stopped) → Halts one new (base_of r Alone i x one) (unanswered_by s) → Asks (Err (ends.Stopped s)) old new
      base_stops new s h = from_test (Err (ends.Stopped s)) new (halts_row (base_of r Alone i x) after_base one new after_base_spends (unanswered_by s) h)

      module _ (two : ℕ) (b : BaseOf r) (based : base_of r Alone i x one ≡ record { end = Ok b; left = two }) where
        abbrev solved : Plan (VectorOf r)
        solved units = ended_with (solution_of r) (lifting_of b units)

        from_base : (answer : Result Class Unanswered) (new : ℕ) → Answers answer two new ((solved >>= killing b) two) → Asks answer old new
        from_base answer new h = from_test answer new (row_goes (base_of r Alone i x) after_base one new b two based (base_spends r Alone i x) (class_value r i fs e z) ended_by answer
            (subst (λ (d : Ending told.Unanswered (Found r)). Answers answer two new d) (parted (solution_of r) (lifting_of b) (killing b) two) h))

        pub coordinates_stop : (new : ℕ) (s : Stopped) → Halts two new (solved two) (unanswered_by s) → Asks (Err (ends.Stopped s)) old new
        coordinates_stop new s h = from_base (Err (ends.Stopped s)) new (halts_row solved (killing b) two new (killing_spends b) (unanswered_by s) h)

        module _ (three : ℕ) (w : VectorOf r) (coordinates : solved two ≡ record { end = Ok w; left = three }) where
          from_coordinates : (answer : Result Class Unanswered) (new : ℕ) → Answers answer three new (killing b w three) → Asks answer old new
          from_coordinates answer new h = from_base answer new (row_goes solved (killing b) two new w three coordinates (lift_spends r e z b.ext.cocycles.graph) (class_value r i fs e z) ended_by answer h)

          module _ (new : ℕ) where
            pub kill_stops : (s : Stopped) → Halts three new (stages r e w 0 None (chain_graphs r b) three) (unanswered_by s) → Asks (Err (ends.Stopped s)) old new
            kill_stops s h = from_coordinates (Err (ends.Stopped s)) new (halts_row (stages r e w 0 None (chain_graphs r b)) (answered b w) three new (λ s units. omega arith) (unanswered_by s) h)

            pub kill_ends : (s : plans.Killed r) → stages r e w 0 None (chain_graphs r b) three ≡ record { end = Ok s; left = new } → (m : Class) → class_value r i fs e z m ≡ found_class i fs b e z w s → Asks (Ok m) old new
            kill_ends s h m same = from_coordinates (Ok m) new (row_goes (stages r e w 0 None (chain_graphs r b)) (answered b w) three new s new h
                (stages_spends r e w (chain_graphs r b) 0 None) (class_value r i fs e z) ended_by (Ok m) (ap (λ y. record { end = Ok y; left = new }) (sym same)))
