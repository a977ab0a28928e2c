-- The power that the plan of inverting finds is the least.
use Rattle.std.proofs.Common.{ℕ, ◌≡◌, List, IfOk, Result, Ok, Err, Option, Some, None, refl, sym, ap, subst}
use Rattle.fm_algebra.specs.Polynomials.{Polynomial}
use Rattle.fm_algebra.specs.PolynomialMatrices.{matrix_scalar, matrix_unit}
use Rattle.fm_limit.proofs.ColonFacts.{never_fact}
use Rattle.fm_graphs.specs.Graphs.{MatrixOf, Graph, Inside, Outside, IsCompletedGraph, lifted, whole_run}
use Rattle.fm_graphs.specs.Trims.{Preimage}
use Rattle.fm_graphs.proofs.Lifts.{whole_is}
use Rattle.fm_plan.specs.Following.{FollowsPlan}
use Rattle.fm_plan.specs.Queries as plans
use Rattle.fm_plan.specs.Queries.{before_power, coloned, inverted_of, power_of, power_run}
use Rattle.fm_plan.specs.Tasks.{task}
use Rattle.fm_plan.proofs.Bases.{says_decides}
use Rattle.fm_plan.proofs.Inverting.{ColonsSay, coloned_is}
use Rattle.fm_plan.proofs.Tasks.{task_ends}
use Rattle.fm_poly.specs.declared.ring.Ring.{Ring}
use Rattle.fm_run.specs.Runs.{ready, ◌>>=◌}
use Rattle.fm_run.specs.declared.task.Name.TheVariants as names
use Rattle.fm_run.specs.declared.task.Side.TheVariants.{Alone}
use Rattle.fm_run.specs.declared.task.Stopped.{Stopped}
use Rattle.fm_run.proofs.Ends.{Ends, bound, same_value}
use Rattle.fm_support.specs.Inverting.{IsLeastPower, invert_plan, inverted_value}
use Rattle.fm_support.specs.declared.inverting.Inverted.{Inverted}
use Rattle.fm_support.specs.declared.inverting.Inverted.TheVariants.{Never, Power}

module _ (r : Ring) (f : Polynomial r.prime r.vars) (g : Graph r) (G : IsCompletedGraph r g) where
  abbrev K : MatrixOf r
  K = g.matrix

  same_some : {A : Type 0} {x y : A} → ◌≡◌ {A = Option A} (Some x) (Some y) → x ≡ y
  same_some e = cc

  none_some : {A : Type 0} {x : A} → ◌≡◌ {A = Option A} None (Some x) → ⊥
  none_some e = cc

  -- where the colons become stable, no power does
  never : (colons : List (Preimage r)) (w : MatrixOf r) (o : Outside) → ColonsSay r K G.shape f (plans.stable_at colons w o) → (y : Inverted) → plans.never_inverted colons w o ≡ inverted_value r y → IsLeastPower r K f y
  never colons w o says (Power k v before) e = absurd (none_some (ap (power_of r) e))
  never colons w o says (Never cs v proper) e = never_fact r.prime r.vars G.shape says.2 says.3 says.4

  -- where a colon is everything, its number is the power
  power : (k : ℕ) → ColonsSay r K G.shape f (plans.whole_at k) → (w : MatrixOf r) (o : Option Outside) (y : Inverted) → plans.by_power k w o ≡ inverted_value r y → IsLeastPower r K f y
  power k says w o (Never cs v proper) e = absurd (none_some (sym (ap (power_of r) e)))
  power k says w o (Power m v before) e = subst (λ j. ColonsSay r K G.shape f (plans.whole_at j)) (same_some (ap (power_of r) e)) says

  least_from : (x : plans.Coloned r) → ColonsSay r K G.shape f x → (units left : ℕ) (y : Inverted) → Ends (inverted_of r f g x units) (inverted_value r y) left → IsLeastPower r K f y
  least_from (plans.stable_at colons w o) says units left y ends = never colons w o says y (same_value (plans.never_inverted colons w o) (inverted_value r y) units left ends)
  least_from (plans.whole_at k) says units left y ends =
      let ending = λ (w : MatrixOf r). before_power r k f g >>= λ o. ready (plans.by_power k w o) in
      let lifting = λ (h : Polynomial r.prime r.vars). lifted r g (matrix_scalar r.prime r.vars h g.matrix.rows).columns >>= ending in
      let e = task_ends Alone names.Power 0 (power_run r k f >>= lifting) units left (inverted_value r y) ends in
      let a = bound (power_run r k f) lifting units left (inverted_value r y) e in
      let c = bound (lifted r g (matrix_scalar r.prime r.vars a.value g.matrix.rows).columns) ending a.between left (inverted_value r y) a.second in
      let d = bound (before_power r k f g) (λ o. ready (plans.by_power k c.value o)) c.between left (inverted_value r y) c.second in
      power k says c.value d.value y (same_value (plans.by_power k c.value d.value) (inverted_value r y) d.between left d.second)

  pub least_told : (result : Result Inverted Stopped) (old new : ℕ) → FollowsPlan (inverted_value r) result old new (invert_plan r f g old) → IfOk result (IsLeastPower r K f)
  unfolding invert_plan
  least_told (Err e) old new h = tt
  least_told (Ok y) old new h =
      let after = λ (x : Inside r). coloned r f g x >>= inverted_of r f g in
      let a = bound (task Alone names.Colon 0 (whole_run r g)) after old new (inverted_value r y) h in
      let says = whole_is r g G old a.between a.value (task_ends Alone names.Colon 0 (whole_run r g) old a.between a.value a.first) in
      let decides = says_decides r g G (matrix_unit r.prime r.vars K.rows) a.value says in
      let c = bound (coloned r f g a.value) (inverted_of r f g) a.between new (inverted_value r y) a.second in
      least_from c.value (coloned_is r K G.shape f g G refl a.value decides a.between c.between c.value c.first) c.between new y c.second
