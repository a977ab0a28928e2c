-- What certificates under answers are to show.
use Rattle.std.proofs.Common.{◌≡◌, ℕ, zero, suc, ◌+◌, ◌-◌, ◌<◌, ◌≤◌, Bool, List, [], ◌∷◌, length, get_or, slice_get, Option, Some, None, Vec, refl, sym, subst, arith}
use Rattle.std.specs.Global.{Global}
use Rattle.std.proofs.lemmas.Bool.{le-leb, lt-leb}
use Rattle.std.proofs.lemmas.Option.{slice_get-get_or, slice_get_past}
use Rattle.fm_poly.specs.Polys.{PolyValue}
use Rattle.fm_poly.specs.declared.ring.Ring.{Ring}
use Rattle.fm_vec.specs.Components.{AreOver}
use Rattle.fm_problem.specs.declared.ideal.Ideal.{Ideal}
use Rattle.fm_problem.specs.declared.problem.Problem.{Problem}
use Rattle.fm_problem.specs.declared.query.Query.TheVariants as queries
use Rattle.fm_report.specs.Parts.{Part}
use Rattle.fm_judge.specs.Goals.{about, class_goal, goal_of}
use Rattle.fm_judge.specs.Goals as goals
use Rattle.fm_lines.specs.declared.ending.Ending.{Ending}
use Rattle.fm_lines.specs.declared.ending.Ending.TheVariants as endings
use Rattle.fm_places.specs.declared.aim.Aim.{Aim}
use Rattle.fm_places.specs.declared.goal.Goal.{Goal}
use Rattle.fm_places.specs.Meanings.{AreIdealsOver}
use Rattle.fm_claims.specs.Goals.{IsGoalIn, goal_in}
use Rattle.fm_places.specs.Meanings.{IsAim, aim_of, ideal_at}
use Rattle.fm_claims.proofs.Numbering.{where_same, where_other}

-- ---- ideals of a problem
ideals_over : (r : Ring) (is : List Ideal) (k : ℕ) (d : Ideal) → AreIdealsOver r is → k < length is → AreOver r (get_or is k d).generators
ideals_over r [] k d a h = absurd (omega (arith, h))
ideals_over r (i ∷ is) zero d a h = a.0
ideals_over r (i ∷ is) (suc k) d a h = ideals_over r is k d a.1 (omega (arith, h))

pub ideal_over : (q : Problem) (k : ℕ) → AreIdealsOver q.ring q.ideals → k < length q.ideals → AreOver q.ring (ideal_at q k).generators
ideal_over q k a h = ideals_over q.ring q.ideals k (record { name = []; generators = [] }) a h

pub ideal_got : (q : Problem) (k : ℕ) → k < length q.ideals → slice_get q.ideals k ≡ Some (ideal_at q k)
ideal_got q k h = slice_get-get_or q.ideals k (record { name = []; generators = [] }) h

module _ (q : Problem) (ps : List Part) where
  pub about_one : (k i : ℕ) (aim : Aim) (g : Goal) → g ≡ record { ideal = k; degree = i; aim = aim } → AreIdealsOver q.ring q.ideals → IsAim q ps aim → k < length q.ideals
      → IsGoalIn q ps (about q k i (aim_of q ps aim)) (Some g)
  about_one k i aim g e a s h =
      subst (λ (x : Goal). IsGoalIn q ps (about q k i (aim_of q ps aim)) (Some x)) (sym e) (rw (ideal_got q k h) refl, (h, s, ideal_over q k a h))

  pub about_none : (k i : ℕ) (aim : goals.Aim) → length q.ideals ≤ k → about q k i aim ≡ None
  about_none k i aim h = rw (slice_get_past q.ideals k h) refl

  -- the same goal, said in another way
  pub goal_is : (o p : Option goals.Goal) (found : Option Goal) → o ≡ p → IsGoalIn q ps p found → IsGoalIn q ps o found
  goal_is o p found e h = subst (λ x. IsGoalIn q ps x found) (sym e) h

-- ---- what each query is answered by
module _ (q : Problem) where
  pub asked_member : (k : ℕ) (f : PolyValue) (inside : Bool) → goal_in q (queries.Member k f) (endings.Member inside) ≡ about q k 0 (goals.membership f inside)
  unfolding goal_of
  asked_member k f inside = refl

  pub no_member : (k : ℕ) (f : PolyValue) (e : Ending) → ((inside : Bool) → e ≡ endings.Member inside → ⊥) → goal_in q (queries.Member k f) e ≡ None
  unfolding goal_of
  no_member k f (endings.Member inside) n = absurd (n inside refl)
  no_member k f e n = refl

  pub asked_ranks : (i k : ℕ) (ranks : Vec ℕ Global) → length ranks.items ≡ i + 2 → goal_in q (queries.Resolution i k) (endings.Ranks ranks) ≡ about q k i (goals.resolution ranks.items)
  unfolding goal_of
  asked_ranks i k ranks e = where_same (length ranks.items) (i + 2) (about q k i (goals.resolution ranks.items)) e

  pub other_ranks : (i k : ℕ) (ranks : Vec ℕ Global) → (length ranks.items ≡ i + 2 → ⊥) → goal_in q (queries.Resolution i k) (endings.Ranks ranks) ≡ None
  unfolding goal_of
  other_ranks i k ranks e = where_other (length ranks.items) (i + 2) (about q k i (goals.resolution ranks.items)) e

  pub no_ranks : (i k : ℕ) (e : Ending) → ((ranks : Vec ℕ Global) → e ≡ endings.Ranks ranks → ⊥) → goal_in q (queries.Resolution i k) e ≡ None
  unfolding goal_of
  no_ranks i k (endings.Ranks ranks) n = absurd (n ranks refl)
  no_ranks i k e n = refl

  pub asked_ext : (i k a b : ℕ) → goal_in q (queries.ExtOf i k) (endings.ExtOf a b) ≡ about q k i (goals.ext a b)
  unfolding goal_of
  asked_ext i k a b = refl

  pub no_ext : (i k : ℕ) (e : Ending) → ((a b : ℕ) → e ≡ endings.ExtOf a b → ⊥) → goal_in q (queries.ExtOf i k) e ≡ None
  unfolding goal_of
  no_ext i k (endings.ExtOf a b) n = absurd (n a b refl)
  no_ext i k e n = refl

  pub asked_root : (i k a t : ℕ) → goal_in q (queries.Root i k) (endings.Root a t) ≡ about q k i (goals.root a t)
  unfolding goal_of
  asked_root i k a t = refl

  pub no_root : (i k : ℕ) (e : Ending) → ((a t : ℕ) → e ≡ endings.Root a t → ⊥) → goal_in q (queries.Root i k) e ≡ None
  unfolding goal_of
  no_root i k (endings.Root a t) n = absurd (n a t refl)
  no_root i k e n = refl

  pub asked_zero : (i k : ℕ) (is_zero : Bool) (t : ℕ) → goal_in q (queries.Zero i k) (endings.Zero is_zero t) ≡ about q k i (goals.vanishing is_zero t)
  unfolding goal_of
  asked_zero i k is_zero t = refl

  pub no_zero : (i k : ℕ) (e : Ending) → ((is_zero : Bool) (t : ℕ) → e ≡ endings.Zero is_zero t → ⊥) → goal_in q (queries.Zero i k) e ≡ None
  unfolding goal_of
  no_zero i k (endings.Zero is_zero t) n = absurd (n is_zero t refl)
  no_zero i k e n = refl

  pub asked_living : (i k e : ℕ) (z : List PolyValue) → goal_in q (queries.Class i k e z) (endings.Class None) ≡ about q k i (goals.living e z)
  unfolding goal_of
  asked_living i k e z = refl

  pub asked_dying : (i k e : ℕ) (z : List PolyValue) (s : ℕ) → e ≤ s → goal_in q (queries.Class i k e z) (endings.Class (Some s)) ≡ about q k i (goals.dying e z (s - e))
  unfolding goal_of
  asked_dying i k e z s h = rw (le-leb e s h) refl

  pub early_class : (i k e : ℕ) (z : List PolyValue) (s : ℕ) → s < e → goal_in q (queries.Class i k e z) (endings.Class (Some s)) ≡ None
  unfolding goal_of
  early_class i k e z s h = rw (lt-leb e s h) refl

  pub no_class : (i k e : ℕ) (z : List PolyValue) (x : Ending) → ((stage : Option ℕ) → x ≡ endings.Class stage → ⊥) → goal_in q (queries.Class i k e z) x ≡ None
  unfolding goal_of
  no_class i k e z (endings.Class stage) n = absurd (n stage refl)
  no_class i k e z x n = refl

  pub asked_map : (i k j : ℕ) (is_zero is_one : Bool) (onto : Option ℕ) → j < length q.ideals
      → goal_in q (queries.Map i k j) (endings.Map is_zero is_one onto) ≡ about q k i (goals.outgoing (ideal_at q j) is_zero is_one onto)
  unfolding goal_of
  asked_map i k j is_zero is_one onto h = rw (ideal_got q j h) refl

  pub no_target : (i k j : ℕ) (is_zero is_one : Bool) (onto : Option ℕ) → length q.ideals ≤ j → goal_in q (queries.Map i k j) (endings.Map is_zero is_one onto) ≡ None
  unfolding goal_of
  no_target i k j is_zero is_one onto h = rw (slice_get_past q.ideals j h) refl

  pub no_map : (i k j : ℕ) (e : Ending) → ((is_zero is_one : Bool) (onto : Option ℕ) → e ≡ endings.Map is_zero is_one onto → ⊥) → goal_in q (queries.Map i k j) e ≡ None
  unfolding goal_of
  no_map i k j (endings.Map is_zero is_one onto) n = absurd (n is_zero is_one onto refl)
  no_map i k j e n = refl

  pub asked_support : (i k : ℕ) (fs : Vec PolyValue Global) → goal_in q (queries.Support i k) (endings.Support fs) ≡ about q k i (goals.support fs.items)
  unfolding goal_of
  asked_support i k fs = refl

  pub no_support : (i k : ℕ) (e : Ending) → ((fs : Vec PolyValue Global) → e ≡ endings.Support fs → ⊥) → goal_in q (queries.Support i k) e ≡ None
  unfolding goal_of
  no_support i k (endings.Support fs) n = absurd (n fs refl)
  no_support i k e n = refl

  pub asked_invert : (i k : ℕ) (f : PolyValue) (power : Option ℕ) → goal_in q (queries.Invert i k f) (endings.Invert power) ≡ about q k i (goals.inverting f power)
  unfolding goal_of
  asked_invert i k f power = refl

  pub no_invert : (i k : ℕ) (f : PolyValue) (e : Ending) → ((power : Option ℕ) → e ≡ endings.Invert power → ⊥) → goal_in q (queries.Invert i k f) e ≡ None
  unfolding goal_of
  no_invert i k f (endings.Invert power) n = absurd (n power refl)
  no_invert i k f e n = refl
